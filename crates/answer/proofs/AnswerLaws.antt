-- What was written stands at the front of the buffer.
use Rattle.std.proofs.Common.{◌≡◌, ℕ, ◌≤◌, Bool, true, false, cond, ltb, List, ◌++◌, length, take, drop, Some, None, Ok, Err, Option, Result, sym, refl, ap, ◌∙◌, subst, arith}
use Rattle.std.specs.Result.{result_ok}
use Rattle.std.specs.Option.{ok_or}
use Rattle.std.proofs.lemmas.List.{take_at}
use Rattle.std.proofs.lemmas.Bool.{le-ltb, ltb-false, cond-false}
use Rattle.frames.specs.AnswerLines.{refusal_line}
use Rattle.frames.specs.Frames.{wrote_in, written_in}
use Rattle.frames.proofs.DigitLaws.{some_same, ok_err, ok_same, err_same}
use Rattle.texts.specs.declared.book_size.BookSize.{BookSize}
use Rattle.texts.specs.declared.fault.Refusal.{Refusal}
use Rattle.texts.specs.declared.fault.Fault.TheVariants.{TableShort, BufferShort, TooLong}
use Rattle.texts.specs.Reading.{number_of, refused, and_then}
use Rattle.texts.specs.Rows.{Tables, size_of, fronts, is_short, book_count, book, read_book, rows_of, overwritten, BookRead}
use Rattle.texts.specs.Writing.{book_text, writable_book, write_text, written}
use Rattle.texts.proofs.RoundTrip.{book_reading, book_writing}
use Rattle.answer.specs.Answers.{longest, shown, answered_in}

-- writable tables are refused only for want of room
wrote_at : (short : Bool) (n : ℕ) → result_ok (cond short (refused BufferShort 0) (Ok n)) ≡ cond short None (Some n)
wrote_at true n = refl
wrote_at false n = refl

written_at : (short : Bool) (text out : List ℕ) → written (cond short (refused BufferShort 0) (Ok (length text))) text out ≡ cond short out (text ++ drop (length text) out)
written_at true text out = refl
written_at false text out = refl

module _ (text out : List ℕ) where
  pub wrote_text : (w : Bool) → w ≡ true → result_ok (write_text w text (length out)) ≡ wrote_in text out
  wrote_text true e = wrote_at (ltb (length out) (length text)) (length text)
  wrote_text false e = absurd (cc)

  pub written_text : (w : Bool) → w ≡ true → written (write_text w text (length out)) text out ≡ written_in text out
  written_text true e = written_at (ltb (length out) (length text)) text out
  written_text false e = absurd (cc)

pub ok_of : {A E : Type 0} (o : Option A) (e : E) → result_ok (ok_or o e) ≡ o
ok_of None e = refl
ok_of (Some x) e = refl

-- the tables of an accepted text stand at the fronts of the tables that were filled
front_is : {R : Type 0} (rows table table' : List R) (n : ℕ) → n ≡ length rows → table' ≡ overwritten rows table → take n table' ≡ rows
front_is rows table table' n e f = ap (take n) f ∙ take_at rows (drop (length rows) table) n (sym e)

-- tables that were read are those of the text
not_short : (b : Bool) (u t : Tables) → cond b (refused TableShort 0) (Ok u) ≡ Ok t → u ≡ t
not_short true u t e = absurd (ok_err (sym e))
not_short false u t e = ok_same e

in_book : (r : Result Tables Refusal) (room : BookSize) (t : Tables) → and_then r (λ u. cond (is_short room (size_of u)) (refused TableShort 0) (Ok u)) ≡ Ok t → r ≡ Ok t
in_book (Ok u) room t e = ap Ok (not_short (is_short room (size_of u)) u t e)
in_book (Err x) room t e = absurd (ok_err (sym e))

-- what is read can be written again, as the same text
again : (text : List ℕ) (room : BookSize) (t : Tables) → read_book text room ≡ Ok t → (writable_book t ≡ true) × (book_text t ≡ text)
again text room t read =
    let e = in_book (book text) room t read in
    let (u, fit, w, is) = (book_reading text).accepted.0 (t, e) in
    let same : u ≡ t = ok_same (sym ((book_writing u).back fit w) ∙ ap book is ∙ e) in
    let P : Tables → Type 0 = λ x. writable_book x ≡ true in (subst P same w, (book_reading text).same t e)

-- a read that was counted gave tables, and one that was refused gave that refusal
read_some : (r : Result Tables Refusal) (size : BookSize) → Ok size ≡ book_count r → (t : Tables) × (r ≡ Ok t)
read_some (Ok t) size e = (t, refl)
read_some (Err x) size e = absurd (ok_err e)

read_none : (r : Result Tables Refusal) (x : Refusal) → Err x ≡ book_count r → r ≡ Err x
read_none (Ok t) x e = absurd (ok_err (sym e))
read_none (Err y) x e = ap Err (err_same (sym e))

module _ (input : List ℕ) {before after : Tables} where
  pub refused_line : {x : Refusal} → BookRead input before (Err x) after → length input ≤ longest → answered_in (size_of before) input ≡ refusal_line (number_of x.fault) x.line
  refused_line {x} read h = cond-false _ _ _ (le-ltb longest (length input) h) ∙ ap shown (read_none (read_book input (size_of before)) x read.result)

  module _ {size : BookSize} (read : BookRead input before (Ok size) after) where
    gave : (t : Tables) × (read_book input (size_of before) ≡ Ok t)
    gave = read_some (read_book input (size_of before)) size read.result

    abbrev t : Tables
    t = gave.0

    size_is : size ≡ size_of t
    size_is = ok_same (read.result ∙ ap book_count gave.1)

    rules_are : take size.rules after.rules ≡ t.rules
    rules_are = front_is t.rules before.rules after.rules size.rules (ap (λ s. s.rules) size_is) (read.rule_table ∙ ap (λ x. overwritten (rows_of (λ u. u.rules) x) before.rules) gave.1)

    wishes_are : take size.wishes after.wishes ≡ t.wishes
    wishes_are = front_is t.wishes before.wishes after.wishes size.wishes (ap (λ s. s.wishes) size_is) (read.wish_table ∙ ap (λ x. overwritten (rows_of (λ u. u.wishes) x) before.wishes) gave.1)

    alternatives_are : take size.alternatives after.alternatives ≡ t.alternatives
    alternatives_are = front_is t.alternatives before.alternatives after.alternatives size.alternatives (ap (λ s. s.alternatives) size_is) (read.alternative_table ∙ ap (λ x. overwritten (rows_of (λ u. u.alternatives) x) before.alternatives) gave.1)

    fronts_are : fronts size after ≡ t
    fronts_are = λ i. record { rules = rules_are i; wishes = wishes_are i; alternatives = alternatives_are i }

    pub front_writable : writable_book (fronts size after) ≡ true
    front_writable = ap writable_book fronts_are ∙ (again input (size_of before) t gave.1).0

    pub front_text : length input ≤ longest → book_text (fronts size after) ≡ answered_in (size_of before) input
    front_text h = ap book_text fronts_are ∙ sym (cond-false _ _ _ (le-ltb longest (length input) h) ∙ ap shown gave.1)

-- an answer is no longer than the longest input
shown_short : (input : List ℕ) (room : BookSize) (r : Result Tables Refusal) → length input ≤ longest → read_book input room ≡ r → length (shown r) ≤ longest
shown_short input room (Ok t) h e = let long = ap length (again input room t e).1 in omega arith
shown_short input room (Err x) h e = omega arith

short_at : (input : List ℕ) (room : BookSize) (d : Bool) → ltb longest (length input) ≡ d → length (cond d (refusal_line (number_of TooLong) 0) (shown (read_book input room))) ≤ longest
short_at input room true d = omega arith
short_at input room false d = shown_short input room (read_book input room) (ltb-false longest (length input) d) refl

answer_short : (room : BookSize) (input : List ℕ) → length (answered_in room input) ≤ longest
answer_short room input = short_at input room (ltb longest (length input)) refl

pub room_for : (room : BookSize) (input out : List ℕ) → length out ≡ longest → length (answered_in room input) ≤ length out
room_for room input out e = let short = answer_short room input in omega arith

-- a line that there is room for stands at the front of the buffer
module _ (line out : List ℕ) (room : length line ≤ length out) where
  pub wrote_front : wrote_in line out ≡ Some (length line)
  wrote_front = cond-false _ _ _ (le-ltb (length out) (length line) room)

  pub written_front : {out' : List ℕ} {count : ℕ} → Some count ≡ wrote_in line out → out' ≡ written_in line out → take count out' ≡ line
  written_front {out'} {count} e f =
      let long : count ≡ length line = some_same (e ∙ wrote_front) in
      ap (take count) (f ∙ cond-false _ _ _ (le-ltb (length out) (length line) room)) ∙ take_at line (drop (length line) out) count (sym long)
