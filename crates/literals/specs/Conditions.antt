-- What a condition asks of a set.
use Rattle.literals.specs.declared.condition.Condition.{Condition}
use Rattle.literals.specs.declared.literal_set.LiteralSet.{LiteralSet}
use Rattle.literals.specs.Sets.{◌⊑◌, Disjoint}

-- the set has every wanted literal and none of those under "not"
abbrev pub Holds : Condition → LiteralSet → Type 0
Holds c s = (c.wanted ⊑ s) × Disjoint c.absent s
