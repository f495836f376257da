-- The fits of a list of rules, in order.
use Rattle.std.specs.Prelude.{◌≡◌, ◌<◌, List, map, All, AllPairs, Contains}
use Rattle.literals.specs.declared.literal_set.LiteralSet.{LiteralSet}
use Rattle.picks.specs.declared.fit.Fit.{Fit}
use Rattle.picks.specs.Fits.{place}
use Rattle.tables.specs.declared.records.Rule.{Rule}
use Rattle.answer_sets.specs.AnswerSets.{AnswerSet}

-- each fit comes before all that follow
abbrev pub Ascending : List Fit → Type 0
Ascending fits = AllPairs (λ f g. place f < place g) fits

-- the list has exactly the fits that are answer sets of the rules, in order, each once
pub record Listing (rules : List Rule) (fits : List Fit) : Type 0 where
  pub each : All (λ f. AnswerSet rules f.literals) fits
  pub all : (f : Fit) → AnswerSet rules f.literals → Contains fits f
  pub ascending : Ascending fits

-- the same, of the sets of literals of the fits
abbrev pub Lists : List Rule → List LiteralSet → Type 0
Lists rules sets = (fits : List Fit) × (map (λ f. f.literals) fits ≡ sets) × Listing rules fits
