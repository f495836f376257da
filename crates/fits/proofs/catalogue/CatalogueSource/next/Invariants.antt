use Rattle.std.proofs.Common.{take}
use Rattle.fits.specs.First.{First, Next}
use Rattle.fits.specs.Listed.{Listed}
use Rattle.fits.proofs.catalogue.CatalogueSource.next.Given as goal

-- the first among the rows that were looked at
abbrev pub invariant-loop-row : goal.invariant-loop-row
invariant-loop-row l = First (Next (Listed (take l.row-index l.self.rows.now)) l.picks l.after) l.first
