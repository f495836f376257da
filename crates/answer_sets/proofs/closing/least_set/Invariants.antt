use Rattle.std.proofs.Common.{◌-◌}
use Rattle.literals.specs.Sets.{◌⊑◌, size}
use Rattle.literals.specs.declared.literal_set.LiteralSet.{LiteralSet}
use Rattle.answer_sets.specs.AnswerSets.{Closed}
use Rattle.answer_sets.specs.Rules.{rules_of}
use Rattle.answer_sets.proofs.closing.least_set.Given as goal

-- every closed set has what is reached
abbrev pub invariant-loop-reduct : goal.invariant-loop-reduct
invariant-loop-reduct l = (y : LiteralSet) → Closed (rules_of l.rows) l.fn.set y → l.reached ⊑ y

-- the literals not yet reached
abbrev pub decreases-loop-reduct : goal.decreases-loop-reduct
decreases-loop-reduct l = 128 - size l.reached
