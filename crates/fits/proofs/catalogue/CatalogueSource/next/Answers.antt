use Rattle.std.proofs.Common.{arith}
use Rattle.fits.proofs.Listings.{row_more, rows_all}
use Rattle.fits.proofs.catalogue.CatalogueSource.next.Goals as goal

pub loop-row-preserved : goal.loop-row-preserved
loop-row-preserved c =
    row_more c.args.picks c.args.after c.args.self.now.rows.now c.loop-row.row-index _ (omega arith) _ _ _
    c.loop-row.invariant c.suiting.ensures c.first_of-first.ensures

pub returns : goal.returns
returns c = rows_all c.args.picks c.args.after c.args.self.now.rows.now c.loop-row.row-index (omega arith) _ c.loop-row.invariant
