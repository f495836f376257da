-- What a text gives: its frames, or a refusal with the line that shows the fault.
use Rattle.std.specs.Prelude.{ℕ, ◌+◌, Bool, true, if◌then◌else◌, List, [], ◌∷◌, ◌++◌, length, Ok, Err, Result, ◌==◌, nat_lt}
use Rattle.std.specs.Result.{result_map_both}
use Rattle.frames.specs.declared.frame.Frame.{Frame}
use Rattle.frames.specs.declared.frame.Frame.TheVariants.{End}
use Rattle.frames.specs.declared.frame.FrameFault.{FrameFault}
use Rattle.frames.specs.Frames as frames
use Rattle.texts.specs.declared.fault.Fault.{Fault}
use Rattle.texts.specs.declared.fault.Fault.TheVariants.{Place, Count, TableShort, BufferShort, TooLong, NoText}
use Rattle.texts.specs.declared.fault.Fault.TheVariants as fault
use Rattle.texts.specs.declared.fault.Refusal.{Refusal}
use Rattle.texts.specs.declared.seen.TextKind.{TextKind}
use Rattle.texts.specs.Lines.{Line, lines, frame_in}
use Rattle.texts.specs.Places.{in_place, ended}

-- the numbers of the refusals
abbrev pub number_of : Fault → ℕ
number_of (fault.Frame f) = frames.number_of f
number_of Place = 5
number_of Count = 6
number_of TableShort = 20
number_of BufferShort = 21
number_of TooLong = 23
number_of NoText = 24

abbrev pub refused : {A : Type 0} → Fault → ℕ → Result A Refusal
refused f n = Err (record { fault = f; line = n })

abbrev pub and_then : {A B E : Type 0} → Result A E → (A → Result B E) → Result B E
and_then (Ok x) next = next x
and_then (Err e) next = Err e

-- a fault of line n
abbrev pub at_line : {A : Type 0} → ℕ → Result A Fault → Result A Refusal
at_line n r = result_map_both (λ x. x) (λ e. record { fault = e; line = n }) r

abbrev pub as_fault : {A : Type 0} → Result A FrameFault → Result A Fault
as_fault r = result_map_both (λ x. x) fault.Frame r

-- the end frame tells how many frames stand before it
abbrev pub counts : List Frame → Frame → Bool
counts before (End n) = n == length before
counts before _ = true

abbrev pub admitted : TextKind → List Frame → Frame → Result (Unit {0}) Fault
admitted kind before f =
    (if in_place kind before f then (if counts before f then Ok tt else Err Count) else Err Place)

-- the frames of a text, of which those before these lines are known; each line is judged in turn
abbrev pub read_from : TextKind → List Frame → List Line → Result (List Frame) Refusal
read_from kind before [] = (if ended before then Ok before else refused Place (length before + 1))
read_from kind before (line ∷ later) =
    and_then (at_line (length before + 1) (as_fault (frame_in line)))
    (λ f. and_then (at_line (length before + 1) (admitted kind before f))
    (λ _. read_from kind (before ++ f ∷ []) later))

-- the longest text, in bytes
abbrev pub limit : ℕ
limit = 1048576

abbrev pub frames_in : TextKind → List ℕ → Result (List Frame) Refusal
frames_in kind text =
    (if nat_lt limit (length text) then refused TooLong 0 else read_from kind [] (lines text))
