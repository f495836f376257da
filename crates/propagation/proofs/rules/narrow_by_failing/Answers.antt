use Rattle.std.proofs.Common.{arith}
use Rattle.propagation.proofs.BodyLaws.{by_failing}
use Rattle.propagation.proofs.rules.narrow_by_failing.Goals as goal

pub returns-then-len-eq1 : goal.returns-then-len-eq1
returns-then-len-eq1 c =
    by_failing c.args.condition c.args.bounds c.difference-missing.result c.intersection-opposed.result
    c.difference-missing.ensures c.intersection-opposed.ensures (omega arith) _ _ c.union.ensures c.difference.ensures
