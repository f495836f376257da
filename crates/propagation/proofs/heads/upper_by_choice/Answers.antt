use Rattle.std.proofs.Common.{arith}
use Rattle.propagation.proofs.HeadLaws.{no_more}
use Rattle.propagation.proofs.heads.upper_by_choice.Goals as goal

pub returns-then-count_common-from-clause-keeps : goal.returns-then-count_common-from-clause-keeps
returns-then-count_common-from-clause-keeps c s h w =
    no_more c.args.choice.head c.args.bounds _ _ c.difference.ensures c.difference-then-count_common-from.ensures s (omega arith) w
