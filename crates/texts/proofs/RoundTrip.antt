-- Texts and tables answer to each other.
use Rattle.std.proofs.Common.{◌≡◌, ℕ, ◌≤◌, true, List, length, Ok, sym, ap, ◌∙◌, subst}
use Rattle.std.specs.List.{All}
use Rattle.literals.specs.declared.literal_set.LiteralSet.{LiteralSet}
use Rattle.frames.specs.declared.frame.Frame.{Frame}
use Rattle.frames.specs.Frames.{SetFits}
use Rattle.texts.specs.declared.seen.TextKind.TheVariants.{Book, Catalogue}
use Rattle.texts.specs.Reading.{and_then, limit, frames_in}
use Rattle.texts.specs.Rows.{fit_in, rows_in, Tables, tables_of, catalogue, book}
use Rattle.texts.specs.Writing.{text_of, ending, fit_frames, book_frames, catalogue_text, book_text, writable_catalogue, writable_book}
use Rattle.texts.specs.Meaning.{TablesFit, CatalogueReading, CatalogueWriting, BookReading, BookWriting}
use Rattle.texts.proofs.BookRows.{book_writable}
use Rattle.texts.proofs.BookWritten.{book_written}
use Rattle.texts.proofs.BookTurns.{book_frames_lem}
use Rattle.texts.proofs.CatalogueTables.{catalogue_rows, catalogue_frames, catalogue_turn, catalogue_good, catalogue_writable}
use Rattle.texts.proofs.RefusalLaws.{refusals_stand}
use Rattle.texts.proofs.PlaceLaws.{end_ended}
use Rattle.texts.proofs.TextFrames.{Framed, framed, frames_back, made_from}

-- the frames of an accepted catalogue
catalogue_framed : (text : List ℕ) (rows : List LiteralSet) → catalogue text ≡ Ok rows → Framed Catalogue text (ending (fit_frames rows))
catalogue_framed text rows e =
    let (fs, read, gives) = made_from (frames_in Catalogue text) (rows_in fit_in) rows e in
    let f = framed Catalogue text fs read in
    let P : List Frame → Type 0 = λ x. Framed Catalogue text x in
    subst P (catalogue_frames fs f.turn f.done ∙ ap (λ x. ending (fit_frames x)) gives) f

catalogue_lawful : (text : List ℕ) (rows : List LiteralSet) → catalogue text ≡ Ok rows → All SetFits rows × (writable_catalogue rows ≡ true)
catalogue_lawful text rows e =
    let f = catalogue_framed text rows e in
    let Short : List ℕ → Type 0 = λ x. length x ≤ limit in
    catalogue_writable rows f.good (subst Short f.is f.short)

same_catalogue_text : (text : List ℕ) (rows : List LiteralSet) → catalogue text ≡ Ok rows → catalogue_text rows ≡ text
same_catalogue_text text rows e = sym (catalogue_framed text rows e).is

same_catalogue_rows : (rows : List LiteralSet) → All SetFits rows → writable_catalogue rows ≡ true → catalogue (catalogue_text rows) ≡ Ok rows
same_catalogue_rows rows fit w =
    let (good, short) = catalogue_good rows fit w in
    let fs = ending (fit_frames rows) in
    ap (λ r. and_then r (λ x. Ok (rows_in fit_in x))) (frames_back Catalogue fs good (catalogue_turn rows) (end_ended (fit_frames rows) (length (fit_frames rows))) short) ∙ ap Ok (catalogue_rows rows)

pub catalogue_reading : (text : List ℕ) → CatalogueReading text
catalogue_reading text =
    record {
      refused = refusals_stand Catalogue text;
      accepted = (
        λ (rows, e). let (fit, w) = catalogue_lawful text rows e in (rows, fit, w, same_catalogue_text text rows e),
        λ (rows, fit, w, e). (rows, ap catalogue (sym e) ∙ same_catalogue_rows rows fit w),
      );
      same = same_catalogue_text text;
    }

pub catalogue_writing : (rows : List LiteralSet) → CatalogueWriting rows
catalogue_writing rows =
    record {
      given = λ fit. (λ w. (catalogue_text rows, same_catalogue_rows rows fit w), λ (text, e). (catalogue_lawful text rows e).1);
      back = same_catalogue_rows rows;
    }

-- the frames of an accepted book
book_framed : (text : List ℕ) (t : Tables) → book text ≡ Ok t → (fs : List Frame) × Framed Book text fs × (tables_of fs ≡ t)
book_framed text t e = let (fs, read, gives) = made_from (frames_in Book text) tables_of t e in (fs, framed Book text fs read, gives)

book_lawful : (text : List ℕ) (t : Tables) → book text ≡ Ok t → TablesFit t × (writable_book t ≡ true)
book_lawful text t e =
    let (fs, f, gives) = book_framed text t e in
    let Short : List ℕ → Type 0 = λ x. length x ≤ limit in
    let P : Tables → Type 0 = λ x. TablesFit x × (writable_book x ≡ true) in
    subst P gives (book_writable fs f.good f.turn f.done (subst Short f.is f.short))

same_book_text : (text : List ℕ) (t : Tables) → book text ≡ Ok t → book_text t ≡ text
same_book_text text t e = let (fs, f, gives) = book_framed text t e in ap book_text (sym gives) ∙ sym (f.is ∙ ap text_of (book_frames_lem fs f.turn f.done))

same_book_tables : (t : Tables) → TablesFit t → writable_book t ≡ true → book (book_text t) ≡ Ok t
same_book_tables t fit w =
    let b = book_written t fit w in
    let fs = ending (book_frames t) in
    ap (λ r. and_then r (λ x. Ok (tables_of x))) (frames_back Book fs b.good b.turn (end_ended (book_frames t) (length (book_frames t))) b.short) ∙ ap Ok b.gives

pub book_reading : (text : List ℕ) → BookReading text
book_reading text =
    record {
      refused = refusals_stand Book text;
      accepted = (
        λ (t, e). let (fit, w) = book_lawful text t e in (t, fit, w, same_book_text text t e),
        λ (t, fit, w, e). (t, ap book (sym e) ∙ same_book_tables t fit w),
      );
      same = same_book_text text;
    }

pub book_writing : (t : Tables) → BookWriting t
book_writing t =
    record {
      given = λ fit. (λ w. (book_text t, same_book_tables t fit w), λ (text, e). (book_lawful text t e).1);
      back = same_book_tables t;
    }
