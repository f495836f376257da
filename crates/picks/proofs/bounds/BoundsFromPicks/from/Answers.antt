use Rattle.picks.proofs.Spans.{bounds_of}
use Rattle.picks.proofs.bounds.BoundsFromPicks.from.Goals as goal

pub returns : goal.returns
returns c = bounds_of c.args.picks _ _ _ c.required.ensures c.excluded.ensures c.difference.ensures
