use Rattle.std.proofs.Common.{◌+◌, ◌-◌}
use Rattle.literals.specs.Sets.{size}
use Rattle.answer_sets.specs.Rules.{rules_of}
use Rattle.propagation.specs.Narrowing.{Tighter, Lawful}
use Rattle.propagation.proofs.narrowing.narrow.Given as goal

abbrev pub invariant-loop-n : goal.invariant-loop-n
invariant-loop-n l = Tighter (Lawful (rules_of l.rows)) l.initial.n l.n

-- the literals that are not settled
abbrev pub decreases-loop-n : goal.decreases-loop-n
decreases-loop-n l = (128 - size l.n.lower) + size l.n.upper
