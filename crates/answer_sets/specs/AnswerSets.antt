-- Answer sets of a list of rules with strong negation and choice heads.
use Rattle.std.specs.Prelude.{List, All}
use Rattle.literals.specs.declared.literal_set.LiteralSet.{LiteralSet}
use Rattle.literals.specs.Sets.{◌⊑◌}
use Rattle.tables.specs.declared.records.Rule.{Rule}
use Rattle.answer_sets.specs.Closing.{ClosedBy}
use Rattle.answer_sets.specs.Rules.{Satisfies}

-- x has what the rule gives, if it is active for s and all its wanted literals are in x; choices take what is in s
abbrev pub ClosedUnder : LiteralSet → LiteralSet → Rule → Type 0
ClosedUnder s x rule = ClosedBy s s x rule

-- x has what each rule gives
abbrev pub Closed : List Rule → LiteralSet → LiteralSet → Type 0
Closed rules s x = All (ClosedUnder s x) rules

-- x is the least set of s: closed, and inside every closed set
pub record LeastSet (rules : List Rule) (s x : LiteralSet) : Type 0 where
  pub closed : Closed rules s x
  pub least : (y : LiteralSet) → Closed rules s y → x ⊑ y

-- s satisfies every rule and is its own least set
pub record AnswerSet (rules : List Rule) (s : LiteralSet) : Type 0 where
  pub satisfied : All (Satisfies s) rules
  pub founded : LeastSet rules s s
