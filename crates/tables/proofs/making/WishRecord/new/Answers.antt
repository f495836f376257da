use Rattle.std.proofs.Common.{refl}
use Rattle.tables.specs.Making.{wish_of, wish_row}
use Rattle.tables.specs.Rows.{makes_wish}
use Rattle.tables.proofs.Faithfulness.{accepted, wish_faithful}
use Rattle.tables.proofs.making.WishRecord.new.Goals as goal

pub returns-clause-made : goal.returns-clause-made
returns-clause-made c = accepted makes_wish wish_of wish_row wish_faithful c.args.row _ refl
