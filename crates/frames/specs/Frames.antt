-- Frames: a kind, fixed fields, and a check byte, which is the sum of the other bytes modulo 251.
use Rattle.std.specs.Prelude.{◌≡◌, ℕ, zero, suc, ◌+◌, ◌-◌, ◌*◌, ◌/◌, ◌%◌, ◌^◌, ◌<◌, Bool, true, false, if◌then◌else◌, List, [], ◌∷◌, ◌++◌, length, take, drop, Some, None, Ok, Err, Option, Result, ◌==◌, nat_lt, sum}
use Rattle.std.specs.Option.{option_map}
use Rattle.literals.specs.declared.literal_set.LiteralSet.{LiteralSet}
use Rattle.literals.specs.declared.condition.Condition.{Condition}
use Rattle.tables.specs.declared.row.RuleRow.{RuleRow}
use Rattle.tables.specs.declared.row.RuleRow.TheVariants.{Plain, Constraint, Choice}
use Rattle.tables.specs.Rows.{within, makes_rule, makes_fit}
use Rattle.frames.specs.declared.frame.DigitFault.{DigitFault}
use Rattle.frames.specs.declared.frame.DigitFault.TheVariants.{NoLineFeed}
use Rattle.frames.specs.declared.frame.Frame.{Frame}
use Rattle.frames.specs.declared.frame.Frame.TheVariants.{Rule, RankStep, Wish, Alternative, End, Fit}
use Rattle.frames.specs.declared.frame.FrameFault.{FrameFault}
use Rattle.frames.specs.declared.frame.FrameFault.TheVariants.{Digits, Check, Kind, Field}
use Rattle.frames.specs.Digits.{bytes_of, hex_of, digit_fault}

-- ---- words, sets and conditions

-- The number that bytes write, highest first.
abbrev pub word_of : List ℕ → ℕ
word_of [] = 0
word_of (b ∷ bs) = b * 256 ^ length bs + word_of bs

-- The lowest n bytes of a number, highest first.
abbrev pub word_bytes : ℕ → ℕ → List ℕ
word_bytes zero w = []
word_bytes (suc n) w = (w / 256 ^ n % 256) ∷ word_bytes n w

-- A set of literals: the words plus and minus.
abbrev pub set_of : List ℕ → LiteralSet
set_of bs = record { plus = word_of (take 8 bs); minus = word_of (drop 8 bs) }

abbrev pub set_bytes : LiteralSet → List ℕ
set_bytes s = word_bytes 8 s.plus ++ word_bytes 8 s.minus

-- A condition: exactly four words, wanted plus and minus, absent plus and minus.
abbrev pub condition_of : List ℕ → Option Condition
condition_of bs =
    if length bs == 32 then Some (record { wanted = set_of (take 16 bs); absent = set_of (drop 16 bs) })
    else None

abbrev pub condition_bytes : Condition → List ℕ
condition_bytes c = set_bytes c.wanted ++ set_bytes c.absent

-- ---- frames as bytes

-- A frame's bytes, of kind and fields: the check byte behind them.
abbrev pub sealed : List ℕ → List ℕ
sealed body = body ++ (sum body % 251) ∷ []

abbrev pub rule_bytes : RuleRow → List ℕ
rule_bytes (Plain code body) = sealed (1 ∷ code ∷ condition_bytes body)
rule_bytes (Constraint body) = sealed (2 ∷ condition_bytes body)
rule_bytes (Choice least greatest head body) =
    sealed (3 ∷ least ∷ greatest ∷ (set_bytes head ++ condition_bytes body))

abbrev pub frame_bytes : Frame → List ℕ
frame_bytes (Rule row) = rule_bytes row
frame_bytes RankStep = sealed (16 ∷ [])
frame_bytes (Wish body) = sealed (17 ∷ condition_bytes body)
frame_bytes (Alternative level condition) = sealed (18 ∷ level ∷ condition_bytes condition)
frame_bytes (End count) = sealed (32 ∷ word_bytes 2 count)
frame_bytes (Fit set) = sealed (48 ∷ set_bytes set)

-- The line of bytes: their digits and a line feed.
abbrev pub line_with : List ℕ → List ℕ
line_with bytes = hex_of bytes ++ 10 ∷ []

-- The line of a frame.
abbrev pub line_for : Frame → List ℕ
line_for f = line_with (frame_bytes f)

-- ---- the frame of bytes

abbrev pub plain_of : List ℕ → Option Frame
plain_of [] = None
plain_of (code ∷ rest) = option_map (λ body. Rule (Plain code body)) (condition_of rest)

abbrev pub choice_of : List ℕ → Option Frame
choice_of [] = None
choice_of (least ∷ []) = None
choice_of (least ∷ greatest ∷ rest) =
    option_map (λ body. Rule (Choice least greatest (set_of (take 16 rest)) body)) (condition_of (drop 16 rest))

abbrev pub rank_step_of : List ℕ → Option Frame
rank_step_of [] = Some RankStep
rank_step_of (b ∷ rest) = None

abbrev pub alternative_of : List ℕ → Option Frame
alternative_of [] = None
alternative_of (level ∷ rest) = option_map (λ c. Alternative level c) (condition_of rest)

abbrev pub end_of : List ℕ → Option Frame
end_of fields = if length fields == 2 then Some (End (word_of fields)) else None

abbrev pub fit_of : List ℕ → Option Frame
fit_of fields = if length fields == 16 then Some (Fit (set_of fields)) else None

-- What a kind and its fields say; nothing where the kind is unknown or the length is not its own.
abbrev pub said : ℕ → List ℕ → Option Frame
said kind fields =
    if kind == 1 then plain_of fields
    else if kind == 2 then option_map (λ body. Rule (Constraint body)) (condition_of fields)
    else if kind == 3 then choice_of fields
    else if kind == 16 then rank_step_of fields
    else if kind == 17 then option_map Wish (condition_of fields)
    else if kind == 18 then alternative_of fields
    else if kind == 32 then end_of fields
    else if kind == 48 then fit_of fields
    else None

-- Whether the row of a frame makes a record.
abbrev pub makes_record : Frame → Bool
makes_record (Rule row) = makes_rule row
makes_record RankStep = true
makes_record (Wish body) = true
makes_record (Alternative level condition) = within 1 8 level
makes_record (End count) = true
makes_record (Fit set) = makes_fit set

-- The fields are judged after the kind and the length.
abbrev pub in_range : Option Frame → Result Frame FrameFault
in_range None = Err Kind
in_range (Some f) = if makes_record f then Ok f else Err Field

-- What a frame's bytes but the last say.
abbrev pub said_by : List ℕ → Option Frame
said_by [] = None
said_by (kind ∷ fields) = said kind fields

-- The frame of a kind and its fields.
abbrev pub parsed : List ℕ → Result Frame FrameFault
parsed body = in_range (said_by body)

-- Whether the last byte is the sum of `sum` and the others, modulo 251.
abbrev pub checked_from : ℕ → List ℕ → Bool
checked_from sum [] = false
checked_from sum (c ∷ []) = c == sum % 251
checked_from sum (b ∷ c ∷ bs) = checked_from (sum + b) (c ∷ bs)

-- All but the last.
abbrev pub body_of : List ℕ → List ℕ
body_of bs = take (length bs - 1) bs

-- The frame of its bytes, check byte included.
abbrev pub framed : List ℕ → Result Frame FrameFault
framed bs = if checked_from 0 bs then parsed (body_of bs) else Err Check

-- ---- the frame of a line

-- The line at the front of a text, without its line feed.
abbrev pub line_of : List ℕ → List ℕ
line_of [] = []
line_of (b ∷ t) = if b == 10 then [] else b ∷ line_of t

-- What stands behind the first line feed, where there is one.
abbrev pub behind : List ℕ → Option (List ℕ)
behind [] = None
behind (b ∷ t) = if b == 10 then Some t else behind t

abbrev pub with_rest : List ℕ → Result Frame FrameFault → Result (Frame × List ℕ) FrameFault
with_rest rest (Ok f) = Ok (f, rest)
with_rest rest (Err e) = Err e

-- A line's digits are judged first, then its line feed, then its bytes.
abbrev pub judged
    : Option DigitFault → Option (List ℕ) → Result Frame FrameFault → Result (Frame × List ℕ) FrameFault
judged (Some d) after bytes = Err (Digits d)
judged None None bytes = Err (Digits NoLineFeed)
judged None (Some rest) bytes = with_rest rest bytes

-- The frame at the front of a text, with the text that follows it.
abbrev pub read_frame : List ℕ → Result (Frame × List ℕ) FrameFault
read_frame t = judged (digit_fault (line_of t)) (behind t) (framed (bytes_of (line_of t)))

-- The numbers of faults.
abbrev pub number_of : FrameFault → ℕ
number_of (Digits d) = 1
number_of Check = 2
number_of Kind = 3
number_of Field = 4

-- ---- frames that a line gives

abbrev pub SetFits : LiteralSet → Type 0
SetFits s = (s.plus < 2 ^ 64) × (s.minus < 2 ^ 64)

abbrev pub ConditionFits : Condition → Type 0
ConditionFits c = SetFits c.wanted × SetFits c.absent

abbrev pub RuleFits : RuleRow → Type 0
RuleFits (Plain code body) = (code < 256) × ConditionFits body
RuleFits (Constraint body) = ConditionFits body
RuleFits (Choice least greatest head body) =
    (least < 256) × (greatest < 256) × SetFits head × ConditionFits body

-- The numbers of a frame fit their types.
abbrev pub FrameFits : Frame → Type 0
FrameFits (Rule row) = RuleFits row
FrameFits RankStep = Unit {0}
FrameFits (Wish body) = ConditionFits body
FrameFits (Alternative level condition) = (level < 256) × ConditionFits condition
FrameFits (End count) = count < 2 ^ 16
FrameFits (Fit set) = SetFits set

-- A frame of numbers that fit their types, whose row makes a record.
abbrev pub Good : Frame → Type 0
Good f = FrameFits f × (makes_record f ≡ true)

-- ---- writing

-- What writing a line into a buffer gives: its length, where there is room.
abbrev pub wrote_in : List ℕ → List ℕ → Option ℕ
wrote_in line out = if nat_lt (length out) (length line) then None else Some (length line)

-- A buffer with a line written at its front.
abbrev pub overwritten : List ℕ → List ℕ → List ℕ
overwritten line out = line ++ drop (length line) out

-- A buffer after a line was to be written: as it was where there is no room.
abbrev pub written_in : List ℕ → List ℕ → List ℕ
written_in line out = if nat_lt (length out) (length line) then out else overwritten line out
