-- Narrower bounds that lose nothing.
use Rattle.std.specs.Prelude.{List, Option, MatchOption}
use Rattle.literals.specs.declared.literal_set.LiteralSet.{LiteralSet}
use Rattle.literals.specs.Sets.{◌⊑◌, Consistent}
use Rattle.picks.specs.declared.bounds.Bounds.{Bounds}
use Rattle.picks.specs.Between.{Between}
use Rattle.tables.specs.declared.records.Rule.{Rule}
use Rattle.answer_sets.specs.AnswerSets.{AnswerSet}

-- no set of the kind P is between b
abbrev pub NoneBetween : (LiteralSet → Type 0) → Bounds → Type 0
NoneBetween P b = (s : LiteralSet) → P s → Between b s → ⊥

-- the bounds n are no wider than b, and every set of the kind P between b is still between n
pub record Tighter (P : LiteralSet → Type 0) (b n : Bounds) : Type 0 where
  pub low : b.lower ⊑ n.lower
  pub high : n.upper ⊑ b.upper
  pub keeps : (s : LiteralSet) → P s → Between b s → Between n s

-- none only where no set of the kind P is between b
abbrev pub Narrowed : (LiteralSet → Type 0) → Bounds → Option Bounds → Type 0
Narrowed P b result = MatchOption result (NoneBetween P b) (Tighter P b)

-- an answer set without an atom beside its strong negation
pub record Lawful (rules : List Rule) (s : LiteralSet) : Type 0 where
  pub consistent : Consistent s
  pub answer : AnswerSet rules s
