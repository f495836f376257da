use Rattle.std.proofs.Common.{rules}
use Rattle.std.specs.Iterator.{YieldsFirst}
use Rattle.std.proofs.lemmas.Fn.{fold_over}
use Rattle.answer_sets.specs.Rules.{rules_of}
use Rattle.answer_sets.proofs.EachRule.{rules_left, rules_given, Grown, grown_none, grown_more}
use Rattle.answer_sets.proofs.closing.Reduct.grow.Goals as goal

pub returns : goal.returns
returns c =
    let r = c.args.self.now in
    let all = fold_over (YieldsFirst rules_left) (λ x. x) _ (Grown r.against r.chosen c.args.set) _
    (λ taken got rule next f g k. (grown_more r.against r.chosen c.args.set taken got rule next g (search rules) (search rules) (search rules), search rules))
    _ (rules_of r.rows.now) _ _ (rules_given r.rows.now _ cc).runs (grown_none r.against r.chosen c.args.set) c.fold.ensures.ran in
    record { grown = all.grown; least = all.least; closed = all.closed }
