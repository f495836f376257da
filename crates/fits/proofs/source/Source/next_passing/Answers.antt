use Rattle.std.proofs.Common.{le_of_lt}
use Rattle.fits.proofs.Firsts.{after_more, apart}
use Rattle.fits.proofs.source.Source.next_passing.Goals as goal

pub loop-fit-preserved : goal.loop-fit-preserved
loop-fit-preserved g c = (
  λ f n. apart (g.F.Filter.passing c.args.filter.now) _ f c.if-passes.ensures n.1 (c.in-Some.ensures.1 f (n.0.0, n.0.1, c.loop-fit.invariant.0 f n)),
  λ f a. c.loop-fit.invariant.1 f (after_more c.loop-fit.from c.in-Some.fit f c.in-Some.ensures.0.2 (le_of_lt a)),
)
