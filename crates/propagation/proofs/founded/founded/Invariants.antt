use Rattle.std.proofs.Common.{◌-◌}
use Rattle.literals.specs.Sets.{size}
use Rattle.propagation.proofs.founded.founded.Given as goal

-- the literals not yet reached
abbrev pub decreases-loop-reduct : goal.decreases-loop-reduct
decreases-loop-reduct l = 128 - size l.reached
