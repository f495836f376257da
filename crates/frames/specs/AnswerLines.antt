-- The lines of answers: rows, "more remain", refusals.
use Rattle.std.specs.Prelude.{ℕ, Bool, ◌&&◌, if◌then◌else◌, List, [], ◌∷◌, length, Err, Result, nat_le}
use Rattle.std.specs.List.{flat_map, list_all}
use Rattle.std.specs.Option.{ok_or}
use Rattle.frames.specs.declared.answer_frames.WriteFault.{WriteFault}
use Rattle.frames.specs.declared.answer_frames.WriteFault.TheVariants.{TooWide, BufferShort}
use Rattle.frames.specs.Frames.{word_bytes, sealed, line_with, wrote_in, written_in}

-- A row, kind 31: the number of its columns, one byte, then two bytes a column.
abbrev pub row_line : List ℕ → List ℕ
row_line columns = line_with (sealed (49 ∷ length columns ∷ flat_map (word_bytes 2) columns))

-- "More remain", kind 32.
abbrev pub more_line : List ℕ
more_line = line_with (sealed (50 ∷ []))

-- A refusal, kind 3F: its number, one byte, then its line, four bytes.
abbrev pub refusal_line : ℕ → ℕ → List ℕ
refusal_line number line = line_with (sealed (63 ∷ number ∷ word_bytes 4 line))

-- The numbers of refusals to write.
abbrev pub write_fault_number : WriteFault → ℕ
write_fault_number TooWide = 22
write_fault_number BufferShort = 21

-- They lie in no line of a text.
abbrev pub write_fault_line : WriteFault → ℕ
write_fault_line TooWide = 0
write_fault_line BufferShort = 0

-- At most 255 columns, each of two bytes.
abbrev pub narrow : List ℕ → Bool
narrow columns = nat_le (length columns) 255 && list_all (λ c. nat_le c 65535) columns

-- What writing a line into a buffer gives: its length, or that there is no room.
abbrev pub wrote : List ℕ → List ℕ → Result ℕ WriteFault
wrote line out = ok_or (wrote_in line out) BufferShort

-- What writing a row gives: too wide a row is refused first.
abbrev pub wrote_row : List ℕ → List ℕ → Result ℕ WriteFault
wrote_row columns out = if narrow columns then wrote (row_line columns) out else Err TooWide

-- A buffer after a row was to be written: a refusal changes nothing.
abbrev pub row_written_in : List ℕ → List ℕ → List ℕ
row_written_in columns out = if narrow columns then written_in (row_line columns) out else out
