use Rattle.literals.proofs.SetLaws.{shared_is}
use Rattle.literals.proofs.literal_set.LiteralSet.intersection.Goals as goal

pub returns : goal.returns
returns c = shared_is c.args.self c.args.other
