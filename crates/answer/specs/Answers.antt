-- What the program answers to the bytes of its input.
use Rattle.std.specs.Prelude.{ℕ, if◌then◌else◌, List, length, Ok, Err, Result, nat_lt}
use Rattle.frames.specs.AnswerLines.{refusal_line}
use Rattle.texts.specs.declared.book_size.BookSize.{BookSize}
use Rattle.texts.specs.declared.fault.Fault.TheVariants.{TooLong}
use Rattle.texts.specs.declared.fault.Refusal.{Refusal}
use Rattle.texts.specs.Reading.{number_of}
use Rattle.texts.specs.Rows.{Tables, read_book}
use Rattle.texts.specs.Writing.{book_text}

-- the longest input, in bytes
abbrev pub longest : ℕ
longest = 65536

-- a refused book gives the line of its refusal, an accepted one the text of its tables
abbrev pub shown : Result Tables Refusal → List ℕ
shown (Ok t) = book_text t
shown (Err e) = refusal_line (number_of e.fault) e.line

-- the input is read as a book into tables with room for so many rows; a longer input is refused before all else
abbrev pub answered_in : BookSize → List ℕ → List ℕ
answered_in room input =
    (if nat_lt longest (length input) then refusal_line (number_of TooLong) 0 else shown (read_book input room))

-- the program's tables have 512 rules, 64 wishes and 512 alternatives
abbrev pub answered : List ℕ → List ℕ
answered input = answered_in (record { rules = 512; wishes = 64; alternatives = 512 }) input
