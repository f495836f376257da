use Rattle.literals.proofs.SetLaws.{differing_is}
use Rattle.literals.proofs.literal_set.LiteralSet.symmetric_difference.Goals as goal

pub returns : goal.returns
returns c = differing_is c.args.self c.args.other
