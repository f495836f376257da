use Rattle.std.proofs.Common.{sym, subst}
use Rattle.std.specs.List.{All}
use Rattle.std.proofs.lemmas.List.Elements.{All-map}
use Rattle.std.proofs.lemmas.Iterator.Consumers.{YieldsList-turn, YieldsList-end}
use Rattle.literals.specs.declared.literal_set.LiteralSet.{LiteralSet}
use Rattle.answer_sets.specs.Rules.{rules_of, Satisfies}
use Rattle.answer_sets.proofs.EachRule.{rules_given}
use Rattle.propagation.specs.Narrowing.{Narrowed, Lawful}
use Rattle.propagation.specs.Support.{Supports}
use Rattle.propagation.proofs.SupportLaws.{turned_bounds, turned_supports, by_support}
use Rattle.propagation.proofs.pass.pass.Goals as goal
use Rattle.propagation.proofs.pass.pass.Goals.{In-Some, at-returns-in_err-turn, at-loop-rule-preserved}

-- the rule of a turn is one of the table's
satisfied_here : (c : In-Some) (s : LiteralSet) → Lawful (rules_of c.args.rows.now) s → Satisfies s c.in-Some.rule
satisfied_here c s lawful =
    let rules = rules_of c.args.rows.now in
    let turn = YieldsList-turn (rules_given c.args.rows.now c.into_iter-rule-iterator.result cc)
    c.loop-rule.yielded _ c.loop-rule.yielded_by _ c.next.new.self c.in-Some.rule c.in-Some.is c.next.ensures.steps in
    subst (Satisfies s) (sym turn.1)
    (lawful.answer.satisfied _ _ turn.0)

pub returns-in_err-turn : goal.returns-in_err-turn
returns-in_err-turn c =
    subst (Narrowed (Lawful (rules_of c.args.rows.now)) c.args.bounds) (sym c.from_residual.ensures)
    (λ s lawful w. c.in_err-turn.ensures s (satisfied_here (at-returns-in_err-turn c).In-Some s lawful)
    (c.loop-rule.invariant.2.keeps s lawful w))

pub loop-rule-preserved : goal.loop-rule-preserved
loop-rule-preserved c = (
  tt,
  tt,
  turned_bounds c.loop-rule.turn c.in_ok-turn.turn c.in-Some.rule c.in_ok-turn.ensures (rules_of c.args.rows.now) c.args.bounds
      (satisfied_here (at-loop-rule-preserved c).In-Some) c.loop-rule.invariant.2,
  λ s w. turned_supports c.loop-rule.turn c.in_ok-turn.turn c.in-Some.rule c.in_ok-turn.ensures s c.loop-rule.yielded w (c.loop-rule.invariant.3 s),
)

pub returns : goal.returns
returns c =
    let rules = rules_of c.args.rows.now in
    let end = YieldsList-end (rules_given c.args.rows.now c.into_iter-rule-iterator.result cc)
    c.loop-rule.yielded _ c.loop-rule.yielded_by _ c.next.new.self c.in-None.is c.next.ensures.steps in
    by_support rules c.args.bounds c.loop-rule.turn c.supported.result c.loop-rule.invariant.2
    (λ s w. let P = Supports c.loop-rule.turn.support s in
    subst (All P) end.0 (All-map P (λ x. x) c.loop-rule.yielded (c.loop-rule.invariant.3 s w)))
    c.supported.ensures
