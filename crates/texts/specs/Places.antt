-- Which frames may stand where in a text.
use Rattle.std.specs.Prelude.{Bool, true, false, not, ◌&&◌, ◌||◌, List, None, nat_lt, count_by}
use Rattle.std.specs.List.{list_all, list_any, last_or}
use Rattle.std.specs.Option.{option_map_or}
use Rattle.frames.specs.declared.frame.Frame.{Frame}
use Rattle.frames.specs.declared.frame.Frame.TheVariants.{Rule, RankStep, Wish, Alternative, End, Fit}
use Rattle.texts.specs.declared.seen.TextKind.{TextKind}
use Rattle.texts.specs.declared.seen.TextKind.TheVariants.{Book, Catalogue}

abbrev pub is_rule : Frame → Bool
is_rule (Rule row) = true
is_rule _ = false

abbrev pub is_step : Frame → Bool
is_step RankStep = true
is_step _ = false

abbrev pub is_wish : Frame → Bool
is_wish (Wish body) = true
is_wish _ = false

abbrev pub is_alternative : Frame → Bool
is_alternative (Alternative level condition) = true
is_alternative _ = false

abbrev pub is_end : Frame → Bool
is_end (End count) = true
is_end _ = false

abbrev pub is_fit : Frame → Bool
is_fit (Fit set) = true
is_fit _ = false

-- of the last frame, if there is one
abbrev pub is_last : (Frame → Bool) → List Frame → Bool
is_last p fs = option_map_or p (last_or None fs) false

-- the text has its end frame
abbrev pub ended : List Frame → Bool
ended before = list_any is_end before

-- a wish, or an alternative of it
abbrev pub of_wish : Frame → Bool
of_wish f = is_wish f || is_alternative f

-- the frames that a book text may go on with: rules first, then rank steps (at most 15, since a wish's rank is 1 plus the
-- steps before it), wishes and alternatives; after a step comes a step or a wish, an alternative follows its wish or another
-- alternative, and the end frame is the last
abbrev pub in_book : List Frame → Frame → Bool
in_book before (Rule row) = list_all is_rule before
in_book before RankStep = not (ended before) && nat_lt (count_by is_step before) 15
in_book before (Wish body) = not (ended before)
in_book before (Alternative level condition) = is_last of_wish before
in_book before (End count) = not (ended before) && not (is_last is_step before)
in_book before (Fit set) = false

-- a catalogue text has fits, and then the end frame
abbrev pub in_catalogue : List Frame → Frame → Bool
in_catalogue before (End count) = not (ended before)
in_catalogue before (Fit set) = not (ended before)
in_catalogue before _ = false

-- the frame is in its place behind these frames
abbrev pub in_place : TextKind → List Frame → Frame → Bool
in_place Book before f = in_book before f
in_place Catalogue before f = in_catalogue before f
