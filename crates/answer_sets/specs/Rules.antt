-- What one rule asks of a set of literals, and what it gives.
use Rattle.std.specs.Prelude.{◌≡◌, ◌≤◌, List}
use Rattle.literals.specs.declared.literal_set.LiteralSet.{LiteralSet}
use Rattle.literals.specs.Sets.{Lit, named, In, Disjoint, common}
use Rattle.literals.specs.Conditions.{Holds}
use Rattle.tables.specs.declared.records.Head.{Head}
use Rattle.tables.specs.declared.records.Head.TheVariants.{Plain, Constraint, Choice}
use Rattle.tables.specs.declared.records.Rule.{Rule}
use Rattle.tables.specs.declared.row.RuleRow.{RuleRow}
use Rattle.tables.specs.Making.{rule_of}
use Rattle.tables.specs.Tables.{records}

-- the rules of a table, in its order; a row that makes no rule counts for nothing
abbrev pub rules_of : List RuleRow → List Rule
rules_of rows = records rule_of rows

-- the head holds in a set: a plain head is in it; a constraint has no head that could hold; of a choice head's literals at
-- least `least` and at most `greatest` are in it
abbrev pub HeadHolds : Head → LiteralSet → Type 0
HeadHolds (Plain literal) s = In s (named literal.code)
HeadHolds Constraint s = ⊥
HeadHolds (Choice choice) s = (choice.least ≤ common choice.head s) × (common choice.head s ≤ choice.greatest)

-- a set satisfies a rule when the head holds in it, if the body does
abbrev pub Satisfies : LiteralSet → Rule → Type 0
Satisfies s rule = Holds rule.body s → HeadHolds rule.head s

-- a rule is active for a set that has no literal under "not" in its body
abbrev pub Active : LiteralSet → Rule → Type 0
Active s rule = Disjoint rule.body.absent s

-- what a head gives: a plain head itself; of a choice head the literals that are chosen
abbrev pub Gives : Head → LiteralSet → Lit → Type 0
Gives (Plain literal) chosen k = k ≡ named literal.code
Gives Constraint chosen k = ⊥
Gives (Choice choice) chosen k = In choice.head k × In chosen k
