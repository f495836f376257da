use Rattle.std.proofs.Common.{arith}
use Rattle.literals.proofs.SetLaws.{single_even, single_odd}
use Rattle.literals.proofs.literal_set.LiteralSetFromLiteral.from.Goals as goal

pub returns-then-code-eq0 : goal.returns-then-code-eq0
returns-then-code-eq0 c = single_even c.args.literal.code c.code-code.result (omega arith) (omega arith) (omega arith)

pub returns-else-code-eq0 : goal.returns-else-code-eq0
returns-else-code-eq0 c = single_odd c.args.literal.code c.code-code.result (omega arith) (omega arith) c.if-code-eq0.false
