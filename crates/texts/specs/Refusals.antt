-- What a refusal of a text means, in the subject's words: every line before it is a good frame in its place, and the line shows
-- the fault of that number and none that is judged before it.
use Rattle.std.specs.Prelude.{◌≡◌, ℕ, ◌+◌, ◌<◌, ◌≤◌, ◌↔◌, true, false, List, [], ◌++◌, length}
use Rattle.std.specs.List.{All}
use Rattle.frames.specs.declared.frame.Frame.{Frame}
use Rattle.frames.specs.Faults.{BadDigits, WrongCheck, UnknownKind, WrongField}
use Rattle.frames.specs.Frames.{line_for, Good}
use Rattle.texts.specs.declared.fault.Fault.{Fault}
use Rattle.texts.specs.declared.fault.Fault.TheVariants.{TooLong}
use Rattle.texts.specs.declared.seen.TextKind.{TextKind}
use Rattle.texts.specs.Places.{in_place, ended}
use Rattle.texts.specs.Reading.{limit, number_of, refused, counts, frames_in}
use Rattle.texts.specs.Writing.{text_of}
use Rattle.texts.specs.Turns.{InTurn}

-- what is left of a text behind these frames shows a fault of the number
pub data Shows (kind : TextKind) (before : List Frame) (rest : List ℕ) : ℕ → Type 0 where
  -- the next line is no row of digits, an even number and four at least, ended by a line feed
  digits : 0 < length rest → BadDigits rest → Shows kind before rest 1
  -- its check byte is wrong
  check : 0 < length rest → ¬ BadDigits rest → WrongCheck rest → Shows kind before rest 2
  -- it has no known kind, or not the length of its kind
  sort : 0 < length rest → ¬ BadDigits rest → ¬ WrongCheck rest → UnknownKind rest
      → Shows kind before rest 3
  -- a field is outside its range, or a fit is inconsistent
  field : 0 < length rest → ¬ BadDigits rest → ¬ WrongCheck rest → ¬ UnknownKind rest
      → WrongField rest → Shows kind before rest 4
  -- there is no next line, and no end frame has come
  missing : length rest ≡ 0 → ended before ≡ false → Shows kind before rest 5
  -- the next line is a good frame that is out of place
  misplaced : (f : Frame) (later : List ℕ) → rest ≡ line_for f ++ later → Good f
      → in_place kind before f ≡ false → Shows kind before rest 5
  -- it is in its place, and does not tell the number of frames before it
  miscounted : (f : Frame) (later : List ℕ) → rest ≡ line_for f ++ later → Good f
      → in_place kind before f ≡ true → counts before f ≡ false → Shows kind before rest 6

-- line l of the text shows a fault of the number n, and every line before it is a good frame in its place
abbrev pub RefusedAt : TextKind → List ℕ → ℕ → ℕ → Type 0
RefusedAt kind text n l =
    (before : List Frame) × (rest : List ℕ) × (text ≡ text_of before ++ rest) × All Good before
    × InTurn kind [] before × (l ≡ length before + 1) × Shows kind before rest n

-- A text gets 23 exactly when it is above the limit; any other gets the number n at line l exactly when that line shows it.
pub record RefusalsStand (kind : TextKind) (text : List ℕ) : Type 0 where
  pub too_long : (frames_in kind text ≡ refused TooLong 0) ↔ (limit < length text)
  pub at_line : length text ≤ limit → (n l : ℕ)
      → ((x : Fault) × (frames_in kind text ≡ refused x l) × (number_of x ≡ n))
      ↔ RefusedAt kind text n l
