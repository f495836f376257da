-- What the fields of a fit and of picks always keep. The records themselves are not named here, since they state these facts.
use Rattle.std.specs.Prelude.{◌^◌, ◌<◌}
use Rattle.literals.specs.declared.literal_set.LiteralSet.{LiteralSet}
use Rattle.literals.specs.Sets.{Consistent, Disjoint}

-- two words of 64 bits, no bit set in both
abbrev pub SoundFit : LiteralSet → Type 0
SoundFit s = (s.plus < 2 ^ 64) × (s.minus < 2 ^ 64) × Consistent s

-- no literal on both sides, and no atom required with its strong negation
abbrev pub SoundPicks : LiteralSet → LiteralSet → Type 0
SoundPicks required excluded = Disjoint required excluded × Consistent required
