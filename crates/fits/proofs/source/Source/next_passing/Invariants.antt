use Rattle.picks.specs.declared.fit.Fit.{Fit}
use Rattle.fits.specs.First.{After, NextPassing}
use Rattle.fits.proofs.Firsts.{to_go}
use Rattle.fits.proofs.source.Source.next_passing.Given as goal

-- what is looked for comes after what was looked at
abbrev pub invariant-loop-fit : goal.invariant-loop-fit
invariant-loop-fit g l =
    ((f : Fit) → NextPassing (g.Self.Source.lawful l.self) (g.F.Filter.passing l.filter) l.picks l.initial.from f → After l.from f)
    × ((f : Fit) → After l.from f → After l.initial.from f)

abbrev pub decreases-loop-fit : goal.decreases-loop-fit
decreases-loop-fit g l = to_go l.from
