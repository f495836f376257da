use Rattle.std.proofs.Common.{arith}
use Rattle.propagation.proofs.HeadLaws.{no_fewer}
use Rattle.propagation.proofs.heads.lower_by_choice.Goals as goal

pub returns-then-count_common-from-clause-keeps : goal.returns-then-count_common-from-clause-keeps
returns-then-count_common-from-clause-keeps c s h w =
    no_fewer c.args.choice.head c.args.bounds _ _ c.intersection.ensures c.union.ensures s (omega arith) w
