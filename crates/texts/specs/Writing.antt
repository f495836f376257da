-- The texts of tables, and the tables that have one.
use Rattle.std.specs.Prelude.{ℕ, ◌+◌, ◌-◌, Bool, true, if◌then◌else◌, ◌&&◌, List, [], ◌∷◌, ◌++◌, map, length, drop, replicate, Ok, Err, Result, ◌==◌, nat_le, nat_lt}
use Rattle.std.specs.List.{flat_map, list_all}
use Rattle.literals.specs.declared.literal_set.LiteralSet.{LiteralSet}
use Rattle.tables.specs.declared.row.WishRow.{WishRow}
use Rattle.tables.specs.declared.row.AlternativeRow.{AlternativeRow}
use Rattle.tables.specs.Rows.{makes_rule, makes_wish, makes_alternative, makes_fit}
use Rattle.frames.specs.declared.frame.Frame.{Frame}
use Rattle.frames.specs.declared.frame.Frame.TheVariants.{Rule, RankStep, Wish, Alternative, End, Fit}
use Rattle.frames.specs.Frames.{line_for}
use Rattle.texts.specs.declared.fault.Fault.TheVariants.{BufferShort, NoText}
use Rattle.texts.specs.declared.fault.Refusal.{Refusal}
use Rattle.texts.specs.Reading.{limit, refused}
use Rattle.texts.specs.Rows.{Tables}

-- The text of frames, the end frame with their number behind them.
abbrev pub ending : List Frame → List Frame
ending fs = fs ++ End (length fs) ∷ []

abbrev pub text_of : List Frame → List ℕ
text_of fs = flat_map line_for fs

-- The frames of a catalogue, but the end.
abbrev pub fit_frames : List LiteralSet → List Frame
fit_frames rows = map Fit rows

-- The frames of a book, but the end.
abbrev pub alternative_frame : AlternativeRow → Frame
alternative_frame a = Alternative a.level a.condition

-- the alternatives at the front that are of the last of n wishes; row by row, as the frames below are made (the library's
-- `take_while` is the `take` of a count)
abbrev pub of_last : ℕ → List AlternativeRow → List AlternativeRow
of_last n [] = []
of_last n (a ∷ xs) = (if a.wish + 1 == n then a ∷ of_last n xs else [])

-- the alternatives behind those
abbrev pub past_last : ℕ → List AlternativeRow → List AlternativeRow
past_last n [] = []
past_last n (a ∷ xs) = (if a.wish + 1 == n then past_last n xs else a ∷ xs)

-- wishes behind n others, the rank being r: the steps up to its rank, then the wish, then its alternatives
abbrev pub wish_frames : ℕ → ℕ → List WishRow → List AlternativeRow → List Frame
wish_frames r n [] xs = []
wish_frames r n (w ∷ ws) xs =
    replicate (w.rank - r) RankStep
    ++ (Wish w.body ∷ (map alternative_frame (of_last (n + 1) xs)
    ++ wish_frames (r + (w.rank - r)) (n + 1) ws (past_last (n + 1) xs)))

abbrev pub book_frames : Tables → List Frame
book_frames t = map Rule t.rules ++ wish_frames 1 0 t.wishes t.alternatives

-- The texts.
abbrev pub catalogue_text : List LiteralSet → List ℕ
catalogue_text rows = text_of (ending (fit_frames rows))

abbrev pub book_text : Tables → List ℕ
book_text t = text_of (ending (book_frames t))

-- no number is below the one before it, nor the first below `low` (the library says it by places, and as no test)
abbrev pub rising : ℕ → List ℕ → Bool
rising low [] = true
rising low (n ∷ ns) = nat_le low n && rising n ns

-- frames that one text can hold: it keeps the limit, and their number fits the end frame's two bytes
abbrev pub holdable : List Frame → Bool
holdable fs = nat_le (length (text_of (ending fs))) limit && nat_lt (length fs) 65536

-- Some text gives the rows of a catalogue.
abbrev pub writable_catalogue : List LiteralSet → Bool
writable_catalogue rows = list_all makes_fit rows && holdable (fit_frames rows)

-- wishes stand in the order of their ranks, and alternatives in the order of their wishes, none without its wish
abbrev pub orderly : List WishRow → List AlternativeRow → Bool
orderly wishes alternatives =
    rising 0 (map (λ w. w.rank) wishes)
    && (rising 0 (map (λ a. a.wish) alternatives)
    && list_all (λ a. nat_lt a.wish (length wishes)) alternatives)

-- each row of a book makes a record, and the rows stand in order
abbrev pub is_sound : Tables → Bool
is_sound t =
    list_all makes_rule t.rules
    && (list_all makes_wish t.wishes
    && (list_all makes_alternative t.alternatives && orderly t.wishes t.alternatives))

-- Some text gives the tables of a book.
abbrev pub writable_book : Tables → Bool
writable_book t = is_sound t && holdable (book_frames t)

-- What writing a text into `room` bytes gives: the number of bytes, or a refusal.
abbrev pub write_text : Bool → List ℕ → ℕ → Result ℕ Refusal
write_text writable text room =
    (if writable
    then (if nat_lt room (length text) then refused BufferShort 0 else Ok (length text))
    else refused NoText 0)

abbrev pub write_catalogue : List LiteralSet → ℕ → Result ℕ Refusal
write_catalogue rows room = write_text (writable_catalogue rows) (catalogue_text rows) room

abbrev pub write_book : Tables → ℕ → Result ℕ Refusal
write_book t room = write_text (writable_book t) (book_text t) room

-- A buffer after writing: the text at its front; a refusal changes nothing.
abbrev pub written : Result ℕ Refusal → List ℕ → List ℕ → List ℕ
written (Ok count) text out = text ++ drop count out
written (Err e) text out = out
