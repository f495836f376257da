use Rattle.std.proofs.Common.{◌≡◌}
use Rattle.tables.proofs.Faithfulness.{plain_accepted, constraint_accepted, choice_accepted}
use Rattle.tables.proofs.making.RuleRecord.new.Goals as goal

pub returns-in-Some-clause-made : goal.returns-in-Some-clause-made
returns-in-Some-clause-made c =
    let literal = c.in-Some.literal in
    let code : literal.code ≡ c.in-Plain.code = c.in-Some.ensures in
    plain_accepted c.args.row literal c.in-Plain.body cc

pub returns-in-Constraint-clause-made : goal.returns-in-Constraint-clause-made
returns-in-Constraint-clause-made c = constraint_accepted c.args.row _ c.in-Constraint.is

pub returns-else-not-makes_record-clause-made : goal.returns-else-not-makes_record-clause-made
returns-else-not-makes_record-clause-made c = choice_accepted c.args.row _ _ c.in-Choice.is
