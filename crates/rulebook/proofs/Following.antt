-- Why a search along a given fit finds the first one after it: the first literal in which a set differs from the fit decides
-- whether it comes before or after.
use Rattle.std.proofs.Common.{◌≡◌, ◌+◌, ◌-◌, ◌<◌, ◌≤◌, Bool, List, Some, None, Option, ap, ⊎_elim, le_of_lt, arith}
use Rattle.literals.specs.declared.literal_set.LiteralSet.{LiteralSet}
use Rattle.literals.specs.Sets.{Lit, In, size}
use Rattle.literals.specs.Settling.{Highest, HighestIn, AgreeBefore}
use Rattle.literals.proofs.SetLaws.{present, same_sets, size_more}
use Rattle.literals.proofs.Settling.{none_earlier, first_decides}
use Rattle.picks.specs.declared.bounds.Bounds.{Bounds}
use Rattle.picks.specs.declared.fit.Fit.{Fit}
use Rattle.picks.specs.Between.{Between, Including, Excluding, RaisesLower, CutsUpper}
use Rattle.picks.specs.Fits.{place}
use Rattle.picks.proofs.Places.{places_in_order, known_by_literals}
use Rattle.fits.specs.First.{First}
use Rattle.fits.proofs.Firsts.{first_like}
use Rattle.tables.specs.declared.records.Rule.{Rule}
use Rattle.rulebook.specs.Finding.{SuitsBetween, SuitsAfter, Doubtful}

module _ (a : LiteralSet) (b : Bounds) (r : LiteralSet) (d : Doubtful a b r) where
  -- no literal is in doubt: one set is left, the given one
  only_given : Highest r None → (s : LiteralSet) → Between b s → a ≡ s
  only_given none s w =
      same_sets a s
      (λ l p. w.low l (⊎_elim (λ h. h) (λ n. absurd (none l (d.need l p n))) (present b.lower l)))
      (λ l p. ⊎_elim (λ h. h) (λ n. absurd (none l (d.may l (w.high l p) n))) (present a l))

  -- before the first literal in doubt all agree with the given one
  agrees : (k : Lit) → HighestIn r k → (s : LiteralSet) → Between b s → AgreeBefore k a s
  agrees k top s w l e = (
    λ p. w.low l (⊎_elim (λ h. h) (λ n. absurd (none_earlier r k l top e (d.need l p n))) (present b.lower l)),
    λ p. ⊎_elim (λ h. h) (λ n. absurd (none_earlier r k l top e (d.may l (w.high l p) n))) (present a l),
  )

  module _ (k : Lit) (top : HighestIn r k) where
    -- the fit has it: what is settled is one more
    pub need_open : In a k → In b.lower k → ⊥
    need_open has = ⊎_elim (λ p. absurd (p.1 has)) (λ p. p.1) (d.one k top.there)

    pub may_open : (In a k → ⊥) → In b.upper k
    may_open lacks = ⊎_elim (λ p. p.0) (λ p. absurd (lacks p.0)) (d.one k top.there)

    pub less_included : (n : Bounds) → In a k → RaisesLower b k n → size n.lower ≤ 128
        → (128 - size n.lower) + size n.upper < (128 - size b.lower) + size b.upper
    less_included n has e fits =
        let upper : size n.upper ≡ size b.upper = λ i. size (e.high i) in
        omega (arith, size_more b.lower n.lower e.low.kept (λ s. need_open has (s k e.low.there)))

    pub less_excluded : (n : Bounds) → (In a k → ⊥) → CutsUpper b k n
        → (128 - size n.lower) + size n.upper < (128 - size b.lower) + size b.upper
    less_excluded n lacks e =
        let lower : size n.lower ≡ size b.lower = λ i. size (e.low i) in
        omega (arith, size_more n.upper b.upper e.high.left (λ s. e.high.gone (s k (may_open lacks))))

module _ (rules : List Rule) (passing : Fit → Bool) (a : Fit) (b : Bounds) (r : LiteralSet) (d : Doubtful a.literals b r) where
  pub none_after : Highest r None → First (SuitsAfter rules passing a b) None
  none_after none f p =
      let e : place a ≡ place f = ap place (known_by_literals a f (only_given a.literals b r d none f.literals p.0.1)) in
      omega (arith, p.1)

  module _ (k : Lit) (top : HighestIn r k) where
    follows : (f : Fit) → Between b f.literals → AgreeBefore k a.literals f.literals
    follows f w = agrees a.literals b r d k top f.literals w

    -- the given fit has it: what lacks it comes before
    pub after_having : In a.literals k → (in' : Bounds) → Including b k in' → (o : Option Fit)
        → First (SuitsAfter rules passing a in') o → First (SuitsAfter rules passing a b) o
    after_having has in' i =
        first_like (SuitsAfter rules passing a in') (SuitsAfter rules passing a b)
        (λ f p. ((p.0.0, (i.from f.literals p.0.1).0), p.1))
        (λ f p. ((p.0.0, i.to f.literals p.0.1 (⊎_elim (λ h. h) (λ n. absurd (before f p.0.1 p.1 n)) (present f.literals k))), p.1))
      where
        before : (f : Fit) → Between b f.literals → place a < place f → (In f.literals k → ⊥) → ⊥
        before f w later lacks =
            let earlier = (places_in_order f a).1 (first_decides f.literals a.literals k (λ l e. ((follows f w l e).1, (follows f w l e).0)) lacks has) in
            omega arith

    module _ (lacks : In a.literals k → ⊥) (out : Bounds) (e : Excluding b k out) where
      -- found without it: whatever has it comes later
      pub after_lacking : (f : Fit) → First (SuitsAfter rules passing a out) (Some f) → First (SuitsAfter rules passing a b) (Some f)
      after_lacking f p =
          let w = e.from f.literals p.0.0.1 in
          let fa = follows f w.0 in (
            ((p.0.0.0, w.0), p.0.1),
            λ g q.
                let ga = follows g q.0.1 in
                ⊎_elim
                (λ has. le_of_lt ((places_in_order f g).1 (first_decides f.literals g.literals k
                (λ l e. (λ h. (ga l e).0 ((fa l e).1 h), λ h. (fa l e).0 ((ga l e).1 h))) w.1 has)))
                (λ n. p.1 g ((q.0.0, e.to g.literals q.0.1 n), q.1)) (present g.literals k),
          )

      -- none without it: all that come after have it, and all that have it come after
      pub after_taking : (in' : Bounds) → Including b k in' → First (SuitsAfter rules passing a out) None → (o : Option Fit)
          → First (SuitsBetween rules passing in') o → First (SuitsAfter rules passing a b) o
      after_taking in' i none =
          first_like (SuitsBetween rules passing in') (SuitsAfter rules passing a b)
          (λ f p. let w = i.from f.literals p.1 in
          ((p.0, w.0), (places_in_order a f).1 (first_decides a.literals f.literals k (follows f w.0) lacks w.1)))
          (λ f p. (
            p.0.0,
            i.to f.literals p.0.1
                (⊎_elim (λ h. h) (λ n. absurd (none f ((p.0.0, e.to f.literals p.0.1 n), p.1))) (present f.literals k)),
          ))
