-- The order of sets by the first literal in which they differ.
use Rattle.std.proofs.Common.{◌≡◌, ℕ, ◌<◌, ◌≤◌, ◌⊎◌, Some, None, Option, sym, ap, ◌∙◌, subst, inl, inr, ⊎_elim, arith}
use Rattle.std.proofs.lemmas.Bool.{cases_order}
use Rattle.literals.specs.declared.literal.Literal.{Literal}
use Rattle.literals.specs.declared.literal_set.LiteralSet.{LiteralSet}
use Rattle.std.specs.Prelude.{MatchOption}
use Rattle.literals.specs.Words.{Has, HighestBit}
use Rattle.literals.specs.Sets.{Lit, atom, negated, named, In, Before, Differing}
use Rattle.literals.specs.Settling.{Earlier, HighestIn, Highest, AgreeBefore, FirstDifferenceAt, FirstDifference, FirstDecides}
use Rattle.literals.proofs.Bitsets.{none_has, same_bits, highest_decides}
use Rattle.literals.proofs.SetLaws.{same_sets, present}

-- ---- the highest literal of a set

pub highest_atom : (s : LiteralSet) (h : ℕ) → HighestBit s.plus h → HighestIn s (atom h)
highest_atom s h top = record { there = top.there; first = f } where
  f : (l : Lit) → In s l → (l ≡ atom h) ⊎ Earlier (atom h) l
  f (atom a) p = by_order (cases_order a h) where
    by_order : (a ≡ h) ⊎ ((a < h) ⊎ (h < a)) → (atom a ≡ atom h) ⊎ (a < h)
    by_order (inl e) = inl (ap atom e)
    by_order (inr (inl l)) = inr l
    by_order (inr (inr g)) = absurd (omega (arith, top.last a p))
  f (negated a) p = inr tt

pub highest_negated : (s : LiteralSet) (h : ℕ) → s.plus ≡ 0 → HighestBit s.minus h → HighestIn s (negated h)
highest_negated s h none top = record { there = top.there; first = f } where
  f : (l : Lit) → In s l → (l ≡ negated h) ⊎ Earlier (negated h) l
  f (atom a) p = absurd (none_has a (subst (λ w. Has w a) none p))
  f (negated a) p = by_order (cases_order a h) where
    by_order : (a ≡ h) ⊎ ((a < h) ⊎ (h < a)) → (negated a ≡ negated h) ⊎ (a < h)
    by_order (inl e) = inl (ap negated e)
    by_order (inr (inl l)) = inr l
    by_order (inr (inr g)) = absurd (omega (arith, top.last a p))

-- the literal made of a code, as `Literal::new` makes it
pub highest_made : (s : LiteralSet) (code : ℕ) (k : Lit) (o : Option Literal)
    → MatchOption o (128 ≤ code) (λ l. l.code ≡ code) → code < 128 → named code ≡ k → HighestIn s k → Highest s o
highest_made s code k None over below e h = absurd (omega arith)
highest_made s code k (Some l) is below e h = subst (HighestIn s) (sym (ap named is ∙ e)) h

-- ---- the first literal in which two sets differ

pub first_decides : FirstDecides
first_decides x y (atom h) agree out there = inl (highest_decides x.plus y.plus h (λ a l. agree (atom a) l) out there)
first_decides x y (negated h) agree out there =
    inr (
      same_bits x.plus y.plus (λ a. (agree (atom a) tt).0) (λ a. (agree (atom a) tt).1),
      highest_decides x.minus y.minus h (λ a l. agree (negated a) l) out there,
    )

pub before_not : (s t : LiteralSet) → Before s t → Before t s → ⊥
before_not s t (inl p) (inl q) = omega arith
before_not s t (inl p) (inr q) = omega arith
before_not s t (inr p) (inl q) = omega arith
before_not s t (inr p) (inr q) = omega arith

earlier_not : (k l : Lit) → Earlier k l → Earlier l k → ⊥
earlier_not (atom a) (atom b) p q = omega arith
earlier_not (atom a) (negated b) p q = q
earlier_not (negated a) (atom b) p q = p
earlier_not (negated a) (negated b) p q = omega arith

earlier_apart : (k l : Lit) → Earlier k l → k ≡ l → ⊥
earlier_apart k l p e = earlier_not k l p (subst (λ m. Earlier m k) e (subst (λ m. Earlier k m) (sym e) p))

-- nothing earlier than the highest is in the set
pub none_earlier : (s : LiteralSet) (k l : Lit) → HighestIn s k → Earlier l k → In s l → ⊥
none_earlier s k l top e p = ⊎_elim (earlier_apart l k e) (λ g. earlier_not l k e g) (top.first l p)

agree_before : (x y r : LiteralSet) (k : Lit) → Differing x y r → HighestIn r k → AgreeBefore k x y
agree_before x y r k d top l e = (
  λ p. ⊎_elim (λ q. q) (λ n. absurd (none_earlier r k l top e (d.left l p n))) (present y l),
  λ q. ⊎_elim (λ p. p) (λ n. absurd (none_earlier r k l top e (d.right l n q))) (present x l),
)

agree_back : (x y : LiteralSet) (k : Lit) → AgreeBefore k x y → AgreeBefore k y x
agree_back x y k a l e = ((a l e).1, (a l e).0)

pub first_difference_at : (x y r : LiteralSet) (k : Lit) → Differing x y r → HighestIn r k → FirstDifferenceAt x y k
first_difference_at x y r k d top =
    let a = agree_before x y r k d top in
    by_side a (d.one k top.there) where
      by_side : AgreeBefore k x y → (In x k × (In y k → ⊥)) ⊎ ((In x k → ⊥) × In y k) → FirstDifferenceAt x y k
      by_side a (inl p) = record {
        differ = inl p;
        agree = a;
        less = λ q. absurd (p.1 q);
        back = λ b. absurd (before_not x y b (first_decides y x k (agree_back x y k a) p.1 p.0));
      }
      by_side a (inr p) = record { differ = inr p; agree = a; less = λ q. first_decides x y k a p.0 q; back = λ b. p.1 }

pub first_difference : (x y r : LiteralSet) (o : Option Literal) → Differing x y r → Highest r o → FirstDifference x y o
first_difference x y r None d none =
    same_sets x y
    (λ l p. ⊎_elim (λ q. q) (λ n. absurd (none l (d.left l p n))) (present y l))
    (λ l q. ⊎_elim (λ p. p) (λ n. absurd (none l (d.right l n q))) (present x l))
first_difference x y r (Some k) d top = first_difference_at x y r (named k.code) d top
