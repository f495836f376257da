use Rattle.std.proofs.Common.{◌≡◌, List, Ok, Err, Result, true, false, sym, ap, ◌∙◌}
use Rattle.texts.specs.declared.fault.Refusal.{Refusal}
use Rattle.texts.specs.Rows.{Tables, table_rows, size_of, book_count, rows_of, overwritten, is_short}
use Rattle.texts.specs.Summary.{size_seen}
use Rattle.texts.proofs.ReadLaws.{book_sizes, book_short, book_read, book_room}
use Rattle.texts.proofs.book.BookTables.read.Goals as goal

-- a table after reading, by what was read
after : {R : Type 0} (rows : Tables → List R) (table : List R) {r s : Result Tables Refusal} → r ≡ s → overwritten (rows_of rows s) table ≡ overwritten (rows_of rows r) table
after rows table e = sym (ap (λ r. overwritten (rows_of rows r) table) e)

pub returns-then-is_above-clause-read : goal.returns-then-is_above-clause-read
returns-then-is_above-clause-read c =
    let (fs, ok, saw) = c.in_ok-accept.ensures in
    let t = table_rows c.args.self.now in
    let test : is_short (size_of t) (size_seen c.in_ok-accept.field-0) ≡ true = cc in
    let short = book_short c.args.text.now (size_of t) fs c.in_ok-accept.field-0 saw ok test in
    record {
      result = ap Err c.into.ensures ∙ sym (ap book_count short);
      rule_table = after (λ u. u.rules) t.rules short;
      wish_table = after (λ u. u.wishes) t.wishes short;
      alternative_table = after (λ u. u.alternatives) t.alternatives short;
    }

pub fill-requires : goal.fill-requires
fill-requires c =
    let (fs, ok, saw) = c.in_ok-accept.ensures in
    let t = table_rows c.args.self.now in
    let test : is_short (size_of t) (size_seen c.in_ok-accept.field-0) ≡ false = cc in
    (fs, ok, (book_room c.args.text.now (size_of t) fs c.in_ok-accept.field-0 saw ok test).0)

pub fill-requires-2 : goal.fill-requires-2
fill-requires-2 c =
    let (fs, ok, saw) = c.in_ok-accept.ensures in
    let t = table_rows c.args.self.now in
    let test : is_short (size_of t) (size_seen c.in_ok-accept.field-0) ≡ false = cc in
    (fs, ok, (book_room c.args.text.now (size_of t) fs c.in_ok-accept.field-0 saw ok test).1)

pub fill-requires-3 : goal.fill-requires-3
fill-requires-3 c =
    let (fs, ok, saw) = c.in_ok-accept.ensures in
    let t = table_rows c.args.self.now in
    let test : is_short (size_of t) (size_seen c.in_ok-accept.field-0) ≡ false = cc in
    (fs, ok, (book_room c.args.text.now (size_of t) fs c.in_ok-accept.field-0 saw ok test).2)

pub returns-clause-read : goal.returns-clause-read
returns-clause-read c =
    let (fs, ok, saw) = c.in_ok-accept.ensures in
    let t = table_rows c.args.self.now in
    let test : is_short (size_of t) (size_seen c.in_ok-accept.field-0) ≡ false = cc in
    let read = book_read c.args.text.now (size_of t) fs c.in_ok-accept.field-0 saw ok test in
    let size = book_sizes c.args.text.now (size_of t) fs c.in_ok-accept.field-0 saw ok in
    record {
      result = ap Ok (c.book_size-size.ensures ∙ sym size) ∙ sym (ap book_count read);
      rule_table = c.fill.ensures fs ok ∙ after (λ u. u.rules) t.rules read;
      wish_table = c.fill-2.ensures fs ok ∙ after (λ u. u.wishes) t.wishes read;
      alternative_table = c.fill-3.ensures fs ok ∙ after (λ u. u.alternatives) t.alternatives read;
    }
