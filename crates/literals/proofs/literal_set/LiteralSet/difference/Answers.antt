use Rattle.std.proofs.Common.{arith}
use Rattle.literals.proofs.SetLaws.{difference_is}
use Rattle.literals.proofs.literal_set.LiteralSet.difference.Goals as goal

pub returns : goal.returns
returns c = difference_is c.args.self c.args.other (omega arith) (omega arith) (omega arith) (omega arith)
