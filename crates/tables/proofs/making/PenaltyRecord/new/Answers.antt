use Rattle.std.proofs.Common.{refl}
use Rattle.tables.specs.Making.{penalty_of, penalty_row}
use Rattle.tables.specs.Rows.{makes_penalty}
use Rattle.tables.proofs.Faithfulness.{accepted, penalty_faithful}
use Rattle.tables.proofs.making.PenaltyRecord.new.Goals as goal

pub returns-clause-made : goal.returns-clause-made
returns-clause-made c = accepted makes_penalty penalty_of penalty_row penalty_faithful c.args.row _ refl
