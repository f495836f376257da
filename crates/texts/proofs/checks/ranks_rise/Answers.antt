use Rattle.std.proofs.Common.{rules}
use Rattle.std.proofs.lemmas.List.Sorted.{answers_always}
use Rattle.texts.proofs.CheckLaws.{rises}
use Rattle.texts.proofs.checks.ranks_rise.Goals as goal

pub returns : goal.returns
returns c = rises (λ w. w.rank) c.args.wishes.now c.is_sorted_by_key.result (c.is_sorted_by_key.ensures.cases (λ w. w.rank) (answers_always _ _ _ (λ f x r g h. search rules)))
