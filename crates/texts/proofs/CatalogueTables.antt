-- The frames of a catalogue's rows, and the rows of its frames.
use Rattle.std.proofs.Common.{◌≡◌, ℕ, ◌+◌, ◌≤◌, true, false, List, [], ◌∷◌, ◌++◌, length, sym, refl, ap, ◌∙◌, arith}
use Rattle.std.specs.List.{All, AllByRecursion, list_all}
use Rattle.std.proofs.lemmas.List.{append_assoc, append-nil, length-append, length-map}
use Rattle.std.proofs.lemmas.Bool.{and_from, and_parts, eqb-true, eq-eqb, le-leb, leb-true, lt-ltb, ltb-true, not_from_false, false≢true}
use Rattle.literals.specs.declared.literal_set.LiteralSet.{LiteralSet}
use Rattle.tables.specs.Rows.{makes_fit}
use Rattle.frames.specs.declared.frame.Frame.{Frame}
use Rattle.frames.specs.declared.frame.Frame.TheVariants.{Rule, RankStep, Wish, Alternative, End, Fit}
use Rattle.frames.specs.Frames.{SetFits}
use Rattle.texts.specs.declared.seen.TextKind.TheVariants.{Catalogue}
use Rattle.texts.specs.Places.{ended}
use Rattle.texts.specs.Reading.{limit}
use Rattle.texts.specs.Rows.{fit_in, rows_from, rows_in}
use Rattle.texts.specs.Writing.{text_of, ending, fit_frames, holdable, writable_catalogue}
use Rattle.texts.specs.Turns.{InTurn}
use Rattle.texts.proofs.PlaceLaws.{placed, ended_still, none_behind}
use Rattle.texts.proofs.TurnLaws.{AllGood}
use Rattle.texts.proofs.TextFrames.{admits, good_last, all_passed, passed_all}

abbrev GoodFit : LiteralSet → Type 0
GoodFit s = SetFits s × (makes_fit s ≡ true)

-- frames in turn are fits, and then the end
fits_then_end : (tail before : List Frame) → ended before ≡ false → InTurn Catalogue before tail → ended (before ++ tail) ≡ true
    → (rows : List LiteralSet) × (tail ≡ fit_frames rows ++ End (length before + length rows) ∷ [])
fits_then_end [] before going t done = absurd (false≢true (sym going ∙ ap ended (sym (append-nil before)) ∙ done))
fits_then_end (Rule row ∷ tail) before going t done = absurd (false≢true (placed Catalogue before (Rule row) t.0).0)
fits_then_end (RankStep ∷ tail) before going t done = absurd (false≢true (placed Catalogue before RankStep t.0).0)
fits_then_end (Wish body ∷ tail) before going t done = absurd (false≢true (placed Catalogue before (Wish body) t.0).0)
fits_then_end (Alternative level condition ∷ tail) before going t done = absurd (false≢true (placed Catalogue before (Alternative level condition) t.0).0)
fits_then_end (End k ∷ tail) before going t done =
    let p = placed Catalogue before (End k) t.0 in
    ([], ap (λ x. End k ∷ x) (none_behind Catalogue before k tail t.1) ∙ ap (λ j. End j ∷ []) (eqb-true k (length before) p.1 ∙ omega arith))
fits_then_end (Fit set ∷ tail) before going t done =
    let (rows, is) = fits_then_end tail (before ++ Fit set ∷ []) (ended_still before (Fit set) going refl) t.1 (ap ended (append_assoc before (Fit set ∷ []) tail) ∙ done) in
    let long = length-append before (Fit set ∷ []) in
    (set ∷ rows, ap (λ x. Fit set ∷ x) is ∙ ap (λ k. Fit set ∷ (fit_frames rows ++ End k ∷ [])) (omega arith))

fits_turn : (rows : List LiteralSet) (before : List Frame) (k : ℕ) → ended before ≡ false → k ≡ length before + length rows → InTurn Catalogue before (fit_frames rows ++ End k ∷ [])
fits_turn [] before k going e = (admits Catalogue before (End k) (not_from_false _ going) (eq-eqb k (length before) (omega arith)), tt)
fits_turn (set ∷ rows) before k going e =
    let long = length-append before (Fit set ∷ []) in
    (admits Catalogue before (Fit set) (not_from_false _ going) refl, fits_turn rows (before ++ Fit set ∷ []) k (ended_still before (Fit set) going refl) (omega arith))

fits_good : (rows : List LiteralSet) (tail : List Frame) → AllByRecursion GoodFit rows → AllGood tail → AllGood (fit_frames rows ++ tail)
fits_good [] tail h g = g
fits_good (set ∷ rows) tail h g = (h.0, fits_good rows tail h.1 g)

good_fits : (rows : List LiteralSet) (tail : List Frame) → AllGood (fit_frames rows ++ tail) → AllByRecursion GoodFit rows
good_fits [] tail g = tt
good_fits (set ∷ rows) tail g = (g.0, good_fits rows tail g.1)

fits_rows : (rows : List LiteralSet) (s n k : ℕ) → rows_from fit_in s n (fit_frames rows ++ End k ∷ []) ≡ rows
fits_rows [] s n k = refl
fits_rows (set ∷ rows) s n k = ap (λ xs. set ∷ xs) (fits_rows rows (s + 0) (n + 0) k)

-- the frames of rows give the rows
pub catalogue_rows : (rows : List LiteralSet) → rows_in fit_in (ending (fit_frames rows)) ≡ rows
catalogue_rows rows = fits_rows rows 0 0 (length (fit_frames rows))

-- the frames of an accepted catalogue are those of its rows
pub catalogue_frames : (fs : List Frame) → InTurn Catalogue [] fs → ended fs ≡ true → fs ≡ ending (fit_frames (rows_in fit_in fs))
catalogue_frames fs t done =
    let (rows, is) = fits_then_end fs [] refl t done in
    let long = length-map rows Fit in
    let whole : fs ≡ ending (fit_frames rows) = is ∙ ap (λ k. fit_frames rows ++ End k ∷ []) (omega arith) in
    whole ∙ ap (λ x. ending (fit_frames x)) (sym (ap (rows_in fit_in) whole ∙ catalogue_rows rows))

-- the frames of writable rows stand in turn
pub catalogue_turn : (rows : List LiteralSet) → InTurn Catalogue [] (ending (fit_frames rows))
catalogue_turn rows = let long = length-map rows Fit in fits_turn rows [] (length (fit_frames rows)) refl (omega arith)

-- and each is good
pub catalogue_good : (rows : List LiteralSet) → All SetFits rows → writable_catalogue rows ≡ true → AllGood (ending (fit_frames rows)) × (length (text_of (ending (fit_frames rows))) ≤ limit)
catalogue_good rows fit w =
    let (made, held) = and_parts (list_all makes_fit rows) (holdable (fit_frames rows)) w in
    let (short, few) = and_parts _ _ held in
    let few' = ltb-true (length (fit_frames rows)) 65536 few in
    (fits_good rows (End (length (fit_frames rows)) ∷ []) (all_passed SetFits makes_fit rows fit made) ((few', refl), tt), leb-true _ _ short)

-- the rows of good frames are writable
pub catalogue_writable : (rows : List LiteralSet) → AllGood (ending (fit_frames rows)) → length (text_of (ending (fit_frames rows))) ≤ limit → All SetFits rows × (writable_catalogue rows ≡ true)
catalogue_writable rows good h =
    let (fit, made) = passed_all SetFits makes_fit rows (good_fits rows (End (length (fit_frames rows)) ∷ []) good) in
    let few = (good_last (fit_frames rows) (End (length (fit_frames rows))) good).0 in
    (fit, and_from _ _ made (and_from _ _ (le-leb (length (text_of (ending (fit_frames rows)))) limit h) (lt-ltb (length (fit_frames rows)) 65536 few)))
