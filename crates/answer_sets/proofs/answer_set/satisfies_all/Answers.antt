use Rattle.std.proofs.Common.{rules, tests}
use Rattle.std.proofs.lemmas.Iterator.{cases_from_all}
use Rattle.answer_sets.specs.Rules.{rules_of, Satisfies}
use Rattle.answer_sets.proofs.EachRule.{answered, rules_given}
use Rattle.answer_sets.proofs.answer_set.satisfies_all.Goals as goal

pub returns : goal.returns
returns c =
    let satisfied = Satisfies c.args.set in
    let all = rules_of c.args.rows.now in
    answered satisfied c.all.result all (cases_from_all c.all.new.self _ c.all.result satisfied (λ rule. satisfied rule → ⊥) c.all.ensures.ran
    (rules_given c.args.rows.now _ cc) (λ rule f k. search (rules, tests)) (λ rule f k. search (rules, tests)))
