use Rattle.std.proofs.Common.{[], ◌∷◌, rules, sym, subst}
use Rattle.std.specs.Iterator.{YieldsFirst}
use Rattle.std.proofs.lemmas.Fn.{fold_over}
use Rattle.literals.specs.declared.literal_set.LiteralSet.{LiteralSet}
use Rattle.literals.specs.Sets.{Union}
use Rattle.answer_sets.specs.Rules.{rules_of}
use Rattle.answer_sets.proofs.EachRule.{rules_left, rules_given}
use Rattle.breadth.specs.Breadth.{DecisiveSet, AtMostAnswers}
use Rattle.breadth.proofs.DecisiveSets.{decisive_none, decisive_both, at_most_answers}
use Rattle.breadth.proofs.decisive.breadth.Goals as goal

pub returns : goal.returns
returns c =
    let all = rules_of c.args.rows.now in
    let set = c.fold.result in
    let decisive = fold_over (YieldsFirst rules_left) (λ x. x) _ DecisiveSet _
    (λ taken x rule s f d k. (let own : (y : LiteralSet) × DecisiveSet (rule ∷ []) y × Union x y s = search rules in decisive_both taken (rule ∷ []) x own.0 s d own.1 own.2, search rules))
    _ all _ _ (rules_given c.args.rows.now _ cc).runs decisive_none c.fold.ensures.ran in
    record {
      counted = (set, decisive, c.len.ensures.size);
      bound = subst (AtMostAnswers all) (sym c.len.ensures.size) (at_most_answers all set decisive);
    }
