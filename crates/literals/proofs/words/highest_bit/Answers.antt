use Rattle.std.proofs.Common.{arith}
use Rattle.literals.proofs.Bitsets.{highest_leading}
use Rattle.literals.proofs.words.highest_bit.Goals as goal

pub returns-else-word-eq0-clause-highest : goal.returns-else-word-eq0-clause-highest
returns-else-word-eq0-clause-highest c = highest_leading c.args.word (omega arith) (omega arith)
