-- The lawful fits of a catalogue.
use Rattle.std.specs.Prelude.{List}
use Rattle.std.specs.List.{ContainsAt as Has}
use Rattle.literals.specs.declared.literal_set.LiteralSet.{LiteralSet}
use Rattle.picks.specs.declared.fit.Fit.{Fit}

-- some row is the set of f. No fit is inconsistent, so an inconsistent row lists nothing
abbrev pub Listed : List LiteralSet → Fit → Type 0
Listed rows f = Has rows f.literals
