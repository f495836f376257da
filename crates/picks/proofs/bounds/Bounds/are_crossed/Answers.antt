use Rattle.std.proofs.lemmas.Bool.Decides.{Decides-like, Decides-not}
use Rattle.picks.proofs.Spans.{between_sub, lower_between}
use Rattle.picks.proofs.bounds.Bounds.are_crossed.Goals as goal

pub returns-clause-nothing : goal.returns-clause-nothing
returns-clause-nothing c =
    let b = c.args.self in
    Decides-like _ (λ n s w. n (between_sub b s w)) (λ n w. n b.lower (lower_between b w)) (Decides-not _ c.is_subset.ensures)
