-- Fits and their order.
use Rattle.std.specs.Prelude.{◌≡◌, ℕ, ◌+◌, ◌*◌, ◌^◌, ◌<◌, Ok, Err, Result}
use Rattle.picks.specs.declared.fit.Fit.{Fit}
use Rattle.literals.specs.declared.literal_set.LiteralSet.{LiteralSet}
use Rattle.literals.specs.declared.record_fault.RecordFault.{RecordFault}
use Rattle.literals.specs.declared.record_fault.RecordFault.TheVariants.{Inconsistent}
use Rattle.literals.specs.Sets.{Consistent, Before}

-- a fit's place in the order: by plus as a number, then by minus
abbrev pub place : Fit → ℕ
place f = f.literals.plus * 2 ^ 64 + f.literals.minus

-- the fit of a set, exactly where the set is consistent
abbrev pub FitOf : LiteralSet → Result Fit RecordFault → Type 0
FitOf s (Ok f) = Consistent s × (f.literals ≡ s)
FitOf s (Err e) = (Consistent s → ⊥) × (e ≡ Inconsistent)

-- fits with the same literals are the same fit
abbrev pub KnownByLiterals : Type 0
KnownByLiterals = (f g : Fit) → f.literals ≡ g.literals → f ≡ g

-- two fits at the same place are the same fit
abbrev pub KnownByPlace : Type 0
KnownByPlace = (f g : Fit) → place f ≡ place g → f ≡ g

-- places are in the order of the sets: by plus as a number, then by minus
abbrev pub PlacesInOrder : Type 0
PlacesInOrder = (f g : Fit) → (place f < place g → Before f.literals g.literals) × (Before f.literals g.literals → place f < place g)
