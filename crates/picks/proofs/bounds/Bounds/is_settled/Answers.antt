use Rattle.picks.proofs.Spans.{settled_one}
use Rattle.picks.proofs.bounds.Bounds.is_settled.Goals as goal

pub returns-clause-one : goal.returns-clause-one
returns-clause-one c = λ e. settled_one c.args.self (c.is_subset.ensures.0 e)
