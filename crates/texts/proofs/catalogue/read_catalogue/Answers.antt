use Rattle.std.proofs.Common.{length, Ok, Err, sym, ap, ◌∙◌, arith}
use Rattle.texts.specs.Rows.{row_count, rows_of, overwritten}
use Rattle.texts.proofs.ReadLaws.{fit_count, catalogue_short, catalogue_read}
use Rattle.texts.proofs.catalogue.read_catalogue.Goals as goal

pub returns-then-count-table-clause-result : goal.returns-then-count-table-clause-result
returns-then-count-table-clause-result c =
    let (fs, ok, saw) = c.in_ok-count.ensures in
    let short = catalogue_short c.args.text.now (length c.args.table.now) fs ok (omega (arith, fit_count fs, ap (λ s. s.fits) saw.summary)) in
    ap Err c.into.ensures ∙ sym (ap row_count short)

pub returns-then-count-table-clause-table : goal.returns-then-count-table-clause-table
returns-then-count-table-clause-table c =
    let (fs, ok, saw) = c.in_ok-count.ensures in
    let short = catalogue_short c.args.text.now (length c.args.table.now) fs ok (omega (arith, fit_count fs, ap (λ s. s.fits) saw.summary)) in
    sym (ap (λ r. overwritten (rows_of (λ rows. rows) r) c.args.table.now) short)

pub fill-requires : goal.fill-requires
fill-requires c = let (fs, ok, saw) = c.in_ok-count.ensures in (fs, ok, omega (arith, fit_count fs, ap (λ s. s.fits) saw.summary))

pub returns-clause-result : goal.returns-clause-result
returns-clause-result c =
    let (fs, ok, saw) = c.in_ok-count.ensures in
    let count = ap (λ s. s.fits) saw.summary ∙ sym (fit_count fs) in
    let read = catalogue_read c.args.text.now (length c.args.table.now) fs ok (omega (arith, count)) in ap Ok count ∙ sym (ap row_count read)
