use Rattle.std.proofs.Common.{refl}
use Rattle.tables.specs.Making.{rule_of, alternative_of, penalty_of}
use Rattle.tables.proofs.Kept.{idle}
use Rattle.tables.proofs.filler.fillers_are_idle.Goals as goal

pub returns-clause-rules : goal.returns-clause-rules
returns-clause-rules _ = idle rule_of _ refl

pub returns-clause-alternatives : goal.returns-clause-alternatives
returns-clause-alternatives _ = idle alternative_of _ refl

pub returns-clause-penalties : goal.returns-clause-penalties
returns-clause-penalties _ = idle penalty_of _ refl
