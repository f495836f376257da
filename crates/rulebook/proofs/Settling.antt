-- Why a search that leaves the first open literal out, and then takes it in, finds the first fit.
use Rattle.std.proofs.Common.{◌≡◌, ◌-◌, ◌<◌, ◌≤◌, Bool, List, Some, None, Option, sym, subst, ⊎_elim, le_of_lt, arith}
use Rattle.literals.specs.declared.literal_set.LiteralSet.{LiteralSet}
use Rattle.literals.specs.Sets.{Lit, ◌⊑◌, size}
use Rattle.literals.proofs.SetLaws.{present, size_more, size_sub}
use Rattle.picks.specs.declared.bounds.Bounds.{Bounds}
use Rattle.picks.specs.declared.fit.Fit.{Fit}
use Rattle.picks.specs.declared.picks.Picks.{Picks}
use Rattle.picks.specs.Between.{Between, BoundsOf, FirstOpenAt, Including, Excluding, RaisesLower, CutsUpper}
use Rattle.picks.proofs.Places.{places_in_order}
use Rattle.picks.proofs.Spans.{lower_between, settled_one}
use Rattle.fits.specs.Filters.{NonePasses}
use Rattle.fits.specs.First.{First, NextPassing}
use Rattle.fits.proofs.Firsts.{first_like}
use Rattle.tables.specs.declared.records.Rule.{Rule}
use Rattle.answer_sets.specs.AnswerSets.{AnswerSet}
use Rattle.propagation.specs.Narrowing.{Tighter, Narrowed, Lawful}
use Rattle.propagation.proofs.Steps.{widened}
use Rattle.rulebook.specs.Finding.{SuitsAt, SuitsBetween, SuitsAfter}

-- the answer set of a fit is lawful
pub lawful_fit : (rules : List Rule) (f : Fit) → AnswerSet rules f.literals → Lawful rules f.literals
lawful_fit rules f a = record { consistent = f.sound.2; answer = a }

-- the literals that are open: one fewer where one is settled
pub fewer_excluded : (b n : Bounds) (k : Lit) → b.lower ⊑ b.upper → FirstOpenAt b k → CutsUpper b k n
    → size n.upper - size n.lower < size b.upper - size b.lower
fewer_excluded b n k wide hi e =
    let lower : size n.lower ≡ size b.lower = λ i. size (e.low i) in
    omega (
      arith,
      size_more b.lower b.upper wide (λ s. hi.below (s k hi.above)),
      size_more n.upper b.upper e.high.left (λ s. e.high.gone (s k hi.above)),
    )

pub fewer_included : (b n : Bounds) (k : Lit) → b.lower ⊑ b.upper → FirstOpenAt b k → RaisesLower b k n
    → size n.upper - size n.lower < size b.upper - size b.lower
fewer_included b n k wide hi e =
    let upper : size n.upper ≡ size b.upper = λ i. size (e.high i) in
    omega (
      arith,
      size_more b.lower b.upper wide (λ s. hi.below (s k hi.above)),
      size_more b.lower n.lower e.low.kept (λ s. hi.below (s k e.low.there)),
    )

-- and no more after narrowing
pub fewer_narrowed : (P : LiteralSet → Type 0) (b n : Bounds) → Tighter P b n → size n.upper - size n.lower ≤ size b.upper - size b.lower
fewer_narrowed P b n t = omega (arith, size_sub n.upper b.upper t.high, size_sub b.lower n.lower t.low)

module _ (rules : List Rule) (passing : Fit → Bool) where
  -- narrower bounds have the same answer sets
  pub first_narrowed : (b n : Bounds) → Tighter (Lawful rules) b n → (o : Option Fit) → First (SuitsBetween rules passing n) o → First (SuitsBetween rules passing b) o
  first_narrowed b n t =
      first_like (SuitsBetween rules passing n) (SuitsBetween rules passing b)
      (λ f p. (p.0, widened b n t.low t.high f.literals p.1))
      (λ f p. (p.0, t.keeps f.literals (lawful_fit rules f p.0.0) p.1))

  pub none_narrowed : (b : Bounds) → Narrowed (Lawful rules) b None → First (SuitsBetween rules passing b) None
  none_narrowed b n f p = n f.literals (lawful_fit rules f p.0.0) p.1

  pub none_hopeful : (b : Bounds) → NonePasses passing b → First (SuitsBetween rules passing b) None
  none_hopeful b n f p = n f p.1 p.0.1

  -- all is settled: one set is left
  pub first_settled : (b : Bounds) → b.lower ⊑ b.upper → b.upper ⊑ b.lower → (o : Option Fit)
      → First (SuitsAt rules passing b.lower) o → First (SuitsBetween rules passing b) o
  first_settled b wide settled =
      first_like (SuitsAt rules passing b.lower) (SuitsBetween rules passing b)
      (λ f p. (p.0, subst (Between b) (sym p.1) (lower_between b wide)))
      (λ f p. (p.0, settled_one b settled f.literals p.1))

  module _ (b : Bounds) (k : Lit) (hi : FirstOpenAt b k) (out : Bounds) (e : Excluding b k out) where
    -- found without the first open literal: whatever has it comes later
    pub first_excluded : (f : Fit) → First (SuitsBetween rules passing out) (Some f) → First (SuitsBetween rules passing b) (Some f)
    first_excluded f p =
        let w = e.from f.literals p.0.1 in (
          (p.0.0, w.0),
          λ g q. ⊎_elim
              (λ has. le_of_lt ((places_in_order f g).1 (hi.decides f.literals g.literals w.0 q.1 w.1 has)))
              (λ lacks. p.1 g (q.0, e.to g.literals q.1 lacks)) (present g.literals k),
        )

    -- none without it: all have it
    pub first_included : (in' : Bounds) → Including b k in' → First (SuitsBetween rules passing out) None → (o : Option Fit)
        → First (SuitsBetween rules passing in') o → First (SuitsBetween rules passing b) o
    first_included in' i none =
        first_like (SuitsBetween rules passing in') (SuitsBetween rules passing b)
        (λ f p. (p.0, (i.from f.literals p.1).0))
        (λ f p. (
          p.0,
          i.to f.literals p.1
              (⊎_elim (λ has. has) (λ lacks. absurd (none f (p.0, e.to f.literals p.1 lacks))) (present f.literals k)),
        ))

-- ---- picks as bounds

module _ (rules : List Rule) (passing : Fit → Bool) (picks : Picks) (b : Bounds) (of : BoundsOf picks b) where
  abbrev pub LawfulFit : Fit → Type 0
  LawfulFit f = AnswerSet rules f.literals

  -- of all
  pub first_kept : (o : Option Fit) → First (SuitsBetween rules passing b) o → First (NextPassing LawfulFit passing picks None) o
  first_kept =
      first_like (SuitsBetween rules passing b) (NextPassing LawfulFit passing picks None)
      (λ f p. ((p.0.0, of.keeps f p.1, tt), p.0.1))
      (λ f p. ((p.0.0, p.1), of.kept f p.0.1))

  -- after a given one, between narrower bounds
  pub first_kept_after : (a : Fit) (n : Bounds) → Tighter (Lawful rules) b n → (o : Option Fit)
      → First (SuitsAfter rules passing a n) o → First (NextPassing LawfulFit passing picks (Some a)) o
  first_kept_after a n t =
      first_like (SuitsAfter rules passing a n) (NextPassing LawfulFit passing picks (Some a))
      (λ f p. ((p.0.0.0, of.keeps f (widened b n t.low t.high f.literals p.0.1), p.1), p.0.0.1))
      (λ f p. (((p.0.0, p.1), t.keeps f.literals (lawful_fit rules f p.0.0) (of.kept f p.0.1)), p.0.2))

  pub none_kept_after : (after : Option Fit) → Narrowed (Lawful rules) b None → First (NextPassing LawfulFit passing picks after) None
  none_kept_after after n f p = n f.literals (lawful_fit rules f p.0.0) (of.kept f p.0.1)
