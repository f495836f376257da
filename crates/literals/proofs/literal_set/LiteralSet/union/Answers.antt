use Rattle.literals.proofs.SetLaws.{union_is}
use Rattle.literals.proofs.literal_set.LiteralSet.union.Goals as goal

pub returns : goal.returns
returns c = union_is c.args.self c.args.other
