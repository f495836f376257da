use Rattle.std.proofs.Common.{Some}
use Rattle.literals.specs.Conditions.{Holds}
use Rattle.answer_sets.specs.Rules.{HeadHolds, Satisfies}
use Rattle.propagation.proofs.Steps.{narrowed_from}
use Rattle.propagation.proofs.rules.narrow_by_rule.Goals as goal

pub returns-then-condition_holds : goal.returns-then-condition_holds
returns-then-condition_holds c =
    let rule = c.args.rule in
    narrowed_from (HeadHolds rule.head) (λ s. Satisfies s rule) c.args.bounds
    (λ s w sat. sat (c.condition_holds.ensures c.if-condition_holds.true s w)) c.narrow_by_head.result c.narrow_by_head.ensures

pub returns-then-fails : goal.returns-then-fails
returns-then-fails c =
    let rule = c.args.rule in
    narrowed_from (λ s. ¬ Holds rule.body s) (λ s. Satisfies s rule) c.args.bounds
    (λ s w sat h. c.fails.ensures c.if-fails.true s (sat h) w) (Some c.narrow_by_failing.result) c.narrow_by_failing.ensures
