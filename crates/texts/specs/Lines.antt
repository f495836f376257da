-- The lines of a text.
use Rattle.std.specs.Prelude.{ℕ, Bool, true, false, if◌then◌else◌, List, [], ◌∷◌, Some, None, Err, Option, Result, ◌==◌}
use Rattle.frames.specs.declared.frame.Frame.{Frame}
use Rattle.frames.specs.declared.frame.FrameFault.{FrameFault}
use Rattle.frames.specs.declared.frame.FrameFault.TheVariants.{Digits}
use Rattle.frames.specs.declared.frame.DigitFault.{DigitFault}
use Rattle.frames.specs.declared.frame.DigitFault.TheVariants.{NoLineFeed}
use Rattle.frames.specs.Digits.{digit_fault, bytes_of}
use Rattle.frames.specs.Frames.{framed}

-- A line's bytes, and whether a line feed ends it (only the last line may lack it)
pub record Line : Type 0 where
  pub bytes : List ℕ
  pub ended : Bool

abbrev pub longer : ℕ → List Line → List Line
longer b [] = record { bytes = b ∷ []; ended = false } ∷ []
longer b (line ∷ later) = record { bytes = b ∷ line.bytes; ended = line.ended } ∷ later

abbrev pub lines : List ℕ → List Line
lines [] = []
lines (b ∷ text) =
    (if b == 10 then record { bytes = []; ended = true } ∷ lines text else longer b (lines text))

-- the frame of a line: its digits are judged first, then its line feed, then its bytes
abbrev pub in_line : Option DigitFault → Bool → Result Frame FrameFault → Result Frame FrameFault
in_line (Some d) ended bytes = Err (Digits d)
in_line None false bytes = Err (Digits NoLineFeed)
in_line None true bytes = bytes

abbrev pub frame_in : Line → Result Frame FrameFault
frame_in line = in_line (digit_fault line.bytes) line.ended (framed (bytes_of line.bytes))
