-- Bounds: those of picks, and the first literal that they leave open.
use Rattle.std.proofs.Common.{◌≡◌, ◌-◌, ◌^◌, Some, None, Option, sym, subst, ⊎_elim, arith}
use Rattle.picks.specs.declared.bounds.Bounds.{Bounds}
use Rattle.picks.specs.declared.fit.Fit.{Fit}
use Rattle.literals.specs.declared.literal.Literal.{Literal}
use Rattle.literals.specs.declared.literal_set.LiteralSet.{LiteralSet}
use Rattle.picks.specs.declared.picks.Picks.{Picks}
use Rattle.literals.specs.Sets.{Lit, atom, negated, named, In, ◌⊑◌, Difference}
use Rattle.literals.specs.Settling.{Earlier, HighestIn, Highest}
use Rattle.picks.specs.Between.{Between, Coded, BoundsOf, FirstOpenAt, FirstOpen}
use Rattle.literals.proofs.Bitsets.{has_below, has_ones}
use Rattle.literals.proofs.SetLaws.{same_sets, sub_refl, sub_trans, present}
use Rattle.literals.proofs.Settling.{none_earlier, first_decides}

-- ---- the literals of 64 atoms

abbrev all : LiteralSet
all = record { plus = 2 ^ 64 - 1; minus = 2 ^ 64 - 1 }

in_all : (l : Lit) → Coded l → In all l
in_all (atom a) h = has_ones 64 a h
in_all (negated a) h = has_ones 64 a h

all_coded : (l : Lit) → In all l → Coded l
all_coded (atom a) p = has_below 64 (2 ^ 64 - 1) a (omega arith) p
all_coded (negated a) p = has_below 64 (2 ^ 64 - 1) a (omega arith) p

pub fit_coded : (f : Fit) (l : Lit) → In f.literals l → Coded l
fit_coded f (atom a) p = has_below 64 f.literals.plus a f.sound.0 p
fit_coded f (negated a) p = has_below 64 f.literals.minus a f.sound.1 p

-- ---- the bounds of picks

pub bounds_of : (p : Picks) (low out high : LiteralSet) → low ≡ p.required → out ≡ p.excluded → Difference all out high
    → BoundsOf p (record { lower = low; upper = high })
bounds_of p low out high e o d = record {
  low = e;
  high = λ l h. (all_coded l (d.left l h), λ q. d.apart l h (subst (λ s. In s l) (sym o) q));
  all = λ l h n. d.all l (in_all l h) (λ q. n (subst (λ s. In s l) o q));
  kept = λ f k. record {
    low = λ l h. k.required l (subst (λ s. In s l) e h);
    high = λ l h. d.all l (in_all l (fit_coded f l h)) (λ q. k.excluded l (subst (λ s. In s l) o q) h);
  };
  keeps = λ f b. record {
    required = λ l h. b.low l (subst (λ s. In s l) (sym e) h);
    excluded = λ l q h. d.apart l (b.high l h) (subst (λ s. In s l) (sym o) q);
  };
}

-- ---- what lies between

pub between_sub : (b : Bounds) (s : LiteralSet) → Between b s → b.lower ⊑ b.upper
between_sub b s w = sub_trans b.lower s b.upper w.low w.high

pub lower_between : (b : Bounds) → b.lower ⊑ b.upper → Between b b.lower
lower_between b w = record { low = sub_refl b.lower; high = w }

pub settled_one : (b : Bounds) → b.upper ⊑ b.lower → (s : LiteralSet) → Between b s → s ≡ b.lower
settled_one b c s w = same_sets s b.lower (sub_trans s b.upper b.lower w.high c) w.low

-- ---- the first open literal

first_open_at : (b : Bounds) (r : LiteralSet) (k : Lit) → Difference b.upper b.lower r → HighestIn r k → FirstOpenAt b k
first_open_at b r k d top =
    let f : (l : Lit) → Earlier l k → In b.upper l → In b.lower l =
    λ l e p. ⊎_elim (λ q. q) (λ n. absurd (none_earlier r k l top e (d.all l p n))) (present b.lower l) in
    record {
      above = d.left k top.there;
      below = d.apart k top.there;
      first = f;
      decides = λ s t ws wt n p. first_decides s t k
          (λ l e. (λ q. wt.low l (f l e (ws.high l q)), λ q. ws.low l (f l e (wt.high l q)))) n p;
    }

pub first_open : (b : Bounds) (r : LiteralSet) (o : Option Literal) → Difference b.upper b.lower r → Highest r o → FirstOpen b o
first_open b r None d none = λ l p. ⊎_elim (λ q. q) (λ n. absurd (none l (d.all l p n))) (present b.lower l)
first_open b r (Some k) d top = first_open_at b r (named k.code) d top
