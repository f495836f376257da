-- What the numbers of a line's faults mean.
use Rattle.std.specs.Prelude.{◌≡◌, ℕ, ◌%◌, ◌<◌, false, if◌then◌else◌, ◌⊎◌, ◌↔◌, List, [], ◌∷◌, ◌++◌, length, Some, None, Ok, Err, Option, ◌==◌, ◌≢◌, sum, slice_index}
use Rattle.frames.specs.declared.frame.Frame.{Frame}
use Rattle.frames.specs.declared.frame.FrameFault.{FrameFault}
use Rattle.frames.specs.Digits.{is_digit, bytes_of}
use Rattle.frames.specs.Frames.{frame_bytes, line_for, line_of, behind, makes_record, FrameFits, Good, number_of, read_frame}

-- The length in bytes of a frame of each kind.
abbrev pub length_of : ℕ → Option ℕ
length_of kind =
    if kind == 1 then Some 35
    else if kind == 2 then Some 34
    else if kind == 3 then Some 52
    else if kind == 16 then Some 2
    else if kind == 17 then Some 34
    else if kind == 18 then Some 35
    else if kind == 32 then Some 4
    else if kind == 48 then Some 18
    else None

-- Of the first line of a text: a byte is no digit, the number of digits is odd or below four,
-- or no line feed ends it.
abbrev pub BadDigits : List ℕ → Type 0
BadDigits t =
    ((i : ℕ) × (i < length (line_of t)) × (is_digit (slice_index (line_of t) i) ≡ false))
    ⊎ ((length (line_of t) % 2 ≡ 1) ⊎ ((length (line_of t) < 4) ⊎ (behind t ≡ None)))

-- The last byte of the first line is not the sum of the others modulo 251.
abbrev pub WrongCheck : List ℕ → Type 0
WrongCheck t =
    (others : List ℕ) × (check : ℕ)
    × (bytes_of (line_of t) ≡ others ++ check ∷ []) × (check ≢ sum others % 251)

-- The first byte of the first line has no length, or another one than the frame's.
abbrev pub UnknownKind : List ℕ → Type 0
UnknownKind t =
    ¬ (length_of (slice_index (bytes_of (line_of t)) 0) ≡ Some (length (bytes_of (line_of t))))

-- The first line is that of a frame of numbers that fit their types, whose row makes no record.
abbrev pub WrongField : List ℕ → Type 0
WrongField t =
    (f : Frame) × (bytes_of (line_of t) ≡ frame_bytes f) × FrameFits f × (makes_record f ≡ false)

-- Reading the text gives a fault of the number n.
abbrev pub Refused : ℕ → List ℕ → Type 0
Refused n t = (e : FrameFault) × (read_frame t ≡ Err e) × (number_of e ≡ n)

-- A line is refused for the first of its faults, and a line without one is that of a good frame.
pub record FaultsStand (t : List ℕ) : Type 0 where
  pub digits : Refused 1 t ↔ BadDigits t
  pub check : Refused 2 t ↔ (¬ (BadDigits t) × WrongCheck t)
  pub kind : Refused 3 t ↔ (¬ (BadDigits t) × ¬ (WrongCheck t) × UnknownKind t)
  pub field : Refused 4 t ↔ (¬ (BadDigits t) × ¬ (WrongCheck t) × ¬ (UnknownKind t) × WrongField t)
  pub frame : (f : Frame) (rest : List ℕ)
      → (read_frame t ≡ Ok (f, rest)) ↔ ((t ≡ line_for f ++ rest) × Good f)
