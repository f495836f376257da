-- What a reader keeps of the frames before a line: the words of its private functions.
use Rattle.std.specs.Prelude.{◌≡◌, ℕ, ◌+◌, ◌^◌, ◌<◌, Bool, false, List, [], ◌∷◌, ◌++◌, map, length, count_by, Some, None, Ok, Err, Option, Result, ◌==◌, slice_set}
use Rattle.std.specs.List.{last_or}
use Rattle.tables.specs.declared.row.AlternativeRow.{AlternativeRow}
use Rattle.frames.specs.declared.frame.Frame.{Frame}
use Rattle.frames.specs.declared.frame.Frame.TheVariants.{Rule}
use Rattle.frames.specs.Frames.{read_frame}
use Rattle.texts.specs.declared.fault.Fault.{Fault}
use Rattle.texts.specs.declared.fault.Refusal.{Refusal}
use Rattle.texts.specs.declared.seen.TextKind.{TextKind}
use Rattle.texts.specs.Reading.{and_then, admitted, as_fault}
use Rattle.texts.specs.Rows.{Tables}
use Rattle.texts.specs.Writing.{alternative_frame, of_last, past_last, wish_frames}
use Rattle.texts.specs.declared.book_size.BookSize.{BookSize}
use Rattle.texts.specs.declared.seen.Seen.{Seen}
use Rattle.texts.specs.Places.{is_rule, is_step, is_wish, is_alternative, is_end, is_fit, is_last, ended}

abbrev pub seen_of : List Frame → Seen
seen_of fs = record {
  frames = length fs;
  rules = count_by is_rule fs;
  steps = count_by is_step fs;
  wishes = count_by is_wish fs;
  alternatives = count_by is_alternative fs;
  fits = count_by is_fit fs;
  last = last_or None fs;
}

-- how many rows of a book there are
abbrev pub size_seen : Seen → BookSize
size_seen seen = record {
  rules = seen.rules;
  wishes = seen.wishes;
  alternatives = seen.alternatives;
}

-- it is what is seen of these frames, and where an end frame is among them, the last is one
pub record Saw (seen : Seen) (fs : List Frame) : Type 0 where
  pub summary : seen ≡ seen_of fs
  pub end_last : ended fs ≡ is_last is_end fs

-- so few that none of the numbers can overflow
abbrev pub Few : Seen → Type 0
Few s =
    (s.frames < 2 ^ 32) × (s.rules < 2 ^ 32) × (s.steps < 2 ^ 32)
    × (s.wishes < 2 ^ 32) × (s.alternatives < 2 ^ 32) × (s.fits < 2 ^ 32)

-- what a reader answers: what it has seen of the frames that were read, or their refusal
abbrev pub SawRead : Result (List Frame) Refusal → Result Seen Refusal → Type 0
SawRead read (Ok seen) = (fs : List Frame) × (read ≡ Ok fs) × Saw seen fs
SawRead read (Err e) = read ≡ Err e

-- the frame at the front of a text, where it may stand behind these frames, and the text that follows it
abbrev pub stepped : TextKind → List Frame → List ℕ → Result (Frame × List ℕ) Fault
stepped kind before text =
    and_then (as_fault (read_frame text)) (λ p. and_then (admitted kind before p.0) (λ _. Ok p))

-- a table with a row, if there is one, put at a place
abbrev pub placed_at : {R : Type 0} → List R → ℕ → Option R → List R
placed_at table n None = table
placed_at table n (Some row) = slice_set table n row

-- the frames of the rest of a book: rules, alternatives of the last of n wishes, and the wishes behind it, the rank being r
abbrev pub book_left : Tables → ℕ → ℕ → List Frame
book_left t r n =
    map Rule t.rules
    ++ (map alternative_frame (of_last n t.alternatives)
    ++ wish_frames r n t.wishes (past_last n t.alternatives))

-- whether the first alternative is of the last of n wishes
abbrev pub starts_last : ℕ → List AlternativeRow → Bool
starts_last n [] = false
starts_last n (a ∷ rows) = a.wish + 1 == n
