use Rattle.rulebook.proofs.Settling.{first_kept, first_kept_after, none_kept_after}
use Rattle.rulebook.proofs.search.Search.first_after.Goals as goal

pub returns-in-None : goal.returns-in-None
returns-in-None g c =
    rw c.in-None.is (first_kept _ _ c.args.picks c.from-bounds.result c.from-bounds.ensures c.settle.result c.settle.ensures)

pub returns-in_err-narrow-in-Some : goal.returns-in_err-narrow-in-Some
returns-in_err-narrow-in-Some g c =
    rw c.from_residual.ensures
    (none_kept_after _ _ c.args.picks c.from-bounds.result c.from-bounds.ensures c.args.after c.in_err-narrow-in-Some.ensures.narrowed)

pub returns-in_ok-narrow-in-Some : goal.returns-in_ok-narrow-in-Some
returns-in_ok-narrow-in-Some g c =
    rw c.in-Some.is
    (first_kept_after _ _ c.args.picks c.from-bounds.result c.from-bounds.ensures c.in-Some.given c.in_ok-narrow-in-Some.field-0
    c.in_ok-narrow-in-Some.ensures.narrowed c.settle_after.result c.settle_after.ensures)
