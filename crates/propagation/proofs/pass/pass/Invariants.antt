use Rattle.std.specs.List.{All}
use Rattle.literals.specs.declared.literal_set.LiteralSet.{LiteralSet}
use Rattle.picks.specs.Between.{Between}
use Rattle.answer_sets.specs.Rules.{rules_of}
use Rattle.propagation.specs.Narrowing.{Tighter, Lawful}
use Rattle.propagation.specs.Support.{Supports}
use Rattle.propagation.proofs.pass.pass.Given as goal

abbrev pub invariant-loop-rule : goal.invariant-loop-rule
invariant-loop-rule l =
    (goal.iterator-loop-rule).can_next l.rule-iterator
    × (goal.iterator-loop-rule).is_finite l.rule-iterator
    × Tighter (Lawful (rules_of l.rows)) l.fn.bounds l.turn.bounds
    × ((s : LiteralSet) → Between l.turn.bounds s → All (Supports l.turn.support s) l.yielded)
