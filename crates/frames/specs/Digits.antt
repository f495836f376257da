-- Hexadecimal digits, 0-9 and A-F, and the bytes that they write, two digits a byte.
use Rattle.std.specs.Prelude.{ℕ, ◌+◌, ◌-◌, ◌*◌, ◌/◌, ◌%◌, Bool, not, ◌&&◌, ◌||◌, if◌then◌else◌, List, [], ◌∷◌, length, Some, None, Option, ◌==◌, nat_le, nat_lt, slice_index, position}
use Rattle.std.specs.List.{flat_map}
use Rattle.std.specs.Option.{option_map, option_or}
use Rattle.frames.specs.declared.frame.DigitFault.{DigitFault}
use Rattle.frames.specs.declared.frame.DigitFault.TheVariants.{BadByte, Odd, Few}

abbrev pub is_digit : ℕ → Bool
is_digit b = (nat_le 48 b && nat_le b 57) || (nat_le 65 b && nat_le b 70)

abbrev pub value_of : ℕ → ℕ
value_of b = if nat_le b 57 then b - 48 else b - 55

abbrev pub digit_of : ℕ → ℕ
digit_of v = if nat_lt v 10 then 48 + v else 55 + v

-- The digits of bytes.
abbrev pub hex_of : List ℕ → List ℕ
hex_of bytes = flat_map (λ b. digit_of (b / 16) ∷ digit_of (b % 16) ∷ []) bytes

-- The bytes of digits; a last odd digit counts for nothing.
abbrev pub bytes_of : List ℕ → List ℕ
bytes_of [] = []
bytes_of (h ∷ []) = []
bytes_of (h ∷ l ∷ ds) = (value_of h * 16 + value_of l) ∷ bytes_of ds

-- The first byte that is no digit, with its position.
abbrev pub first_bad : List ℕ → Option DigitFault
first_bad l = option_map (λ i. BadByte i (slice_index l i)) (position (λ b. not (is_digit b)) l)

-- An odd number of digits, or fewer than four.
abbrev pub count_fault : ℕ → Option DigitFault
count_fault n = if n % 2 == 0 then (if nat_lt n 4 then Some Few else None) else Some Odd

-- Why a line is no row of digits, an even number and four at least: the first that applies.
abbrev pub digit_fault : List ℕ → Option DigitFault
digit_fault l = option_or (first_bad l) (count_fault (length l))
