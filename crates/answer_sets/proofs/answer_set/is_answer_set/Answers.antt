use Rattle.std.proofs.Common.{◌≡◌, rules, subst}
use Rattle.literals.proofs.SetLaws.{same_sets}
use Rattle.answer_sets.specs.AnswerSets.{LeastSet}
use Rattle.answer_sets.specs.Rules.{rules_of}
use Rattle.answer_sets.proofs.answer_set.is_answer_set.Goals as goal

pub returns-then-satisfies_all : goal.returns-then-satisfies_all
returns-then-satisfies_all c =
    let s = c.args.set in
    let x = c.least_set.result in (
      λ e. record {
        satisfied = search rules;
        founded = let same : x ≡ s = search rules in subst (LeastSet (rules_of c.args.rows.now) s) same c.least_set.ensures;
      },
      λ a.
          let same : x ≡ s = same_sets x s (c.least_set.ensures.least s a.founded.closed) (a.founded.least x c.least_set.ensures.closed) in
          search rules,
    )
