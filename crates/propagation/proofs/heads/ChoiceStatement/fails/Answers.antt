use Rattle.std.proofs.Common.{arith}
use Rattle.std.proofs.lemmas.Bool.{ltb-true}
use Rattle.literals.proofs.SetLaws.{common_sub}
use Rattle.propagation.proofs.heads.ChoiceStatement.fails.Goals as goal

pub returns-then-count_common-from : goal.returns-then-count_common-from
returns-then-count_common-from c e s h w = omega (arith, ltb-true _ _ e, common_sub c.args.self.head s c.args.bounds.upper w.high)

pub returns-else-count_common-from : goal.returns-else-count_common-from
returns-else-count_common-from c e s h w = omega (arith, ltb-true _ _ e, common_sub c.args.self.head c.args.bounds.lower s w.low)
