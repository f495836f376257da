use Rattle.std.proofs.Common.{refl}
use Rattle.tables.specs.Making.{alternative_of, alternative_row}
use Rattle.tables.specs.Rows.{makes_alternative}
use Rattle.tables.proofs.Faithfulness.{accepted, alternative_faithful}
use Rattle.tables.proofs.making.AlternativeRecord.new.Goals as goal

pub returns-clause-made : goal.returns-clause-made
returns-clause-made c = accepted makes_alternative alternative_of alternative_row alternative_faithful c.args.row _ refl
