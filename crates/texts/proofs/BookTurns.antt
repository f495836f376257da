-- Frames in turn in a book are the frames of the tables that they give.
use Rattle.std.proofs.Common.{◌≡◌, ℕ, suc, ◌+◌, ◌-◌, ◌<◌, ◌≤◌, Bool, true, false, not, ◌&&◌, List, [], ◌∷◌, ◌++◌, map, length, replicate, sym, refl, ap, ◌∙◌, subst, arith}
use Rattle.std.specs.List.{list_all}
use Rattle.std.proofs.lemmas.List.Folds.{list_all-append}
use Rattle.std.proofs.lemmas.List.{append_assoc, append-nil, length-append}
use Rattle.std.proofs.lemmas.Bool.{and_parts, and_right, eq-eqb, ne_eqb, eqb-true, cond-true, cond-false, false≢true}
use Rattle.literals.specs.declared.condition.Condition.{Condition}
use Rattle.tables.specs.declared.row.WishRow.{WishRow}
use Rattle.tables.specs.declared.row.AlternativeRow.{AlternativeRow}
use Rattle.frames.specs.declared.frame.Frame.{Frame}
use Rattle.frames.specs.declared.frame.Frame.TheVariants.{Rule, RankStep, Wish, Alternative, End, Fit}
use Rattle.texts.specs.declared.seen.TextKind.TheVariants.{Book}
use Rattle.texts.specs.Places.{is_rule, is_step, is_last, of_wish, ended}
use Rattle.texts.specs.Rows.{rule_in, wish_in, alternative_in, rows_from, tables_of}
use Rattle.texts.specs.Writing.{alternative_frame, of_last, past_last, wish_frames, book_frames, ending}
use Rattle.texts.specs.Turns.{InTurn}
use Rattle.texts.proofs.PlaceLaws.{placed, ended_still, is_last_more, on_step, never_ended, never_wish, none_behind}

pub all_more : (p : Frame → Bool) (f : Frame) (fs : List Frame) → list_all p (fs ++ f ∷ []) ≡ list_all p fs && p f
all_more p f fs = list_all-append p fs (f ∷ []) ∙ ap (λ b. list_all p fs && b) (and_true (p f))
  where
    and_true : (b : Bool) → b && true ≡ b
    and_true true = refl
    and_true false = refl

all_not : (p : Frame → Bool) (f : Frame) (fs : List Frame) → p f ≡ false → list_all p (fs ++ f ∷ []) ≡ false
all_not p f fs e = all_more p f fs ∙ ap (λ b. list_all p fs && b) e ∙ and_right (list_all p fs) false refl

over : {b : Bool} → b ≡ true → not b ≡ true → ⊥
over {b} e n = false≢true (sym (ap not e) ∙ n)

-- alternatives belong to the last wish before them, or to a later one
abbrev Late : ℕ → List AlternativeRow → Type 0
Late m [] = Unit {0}
Late m (a ∷ rest) = m ≤ a.wish + 1

late : (s m k : ℕ) (tail : List Frame) → 1 ≤ k → k ≤ m → Late k (rows_from alternative_in s m tail)
late s m k [] h l = tt
late s m k (Rule row ∷ tail) h l = late (s + 0) (m + 0) k tail h (omega arith)
late s m k (RankStep ∷ tail) h l = late (s + 1) (m + 0) k tail h (omega arith)
late s m k (Wish body ∷ tail) h l = late (s + 0) (m + 1) k tail h (omega arith)
late s m k (Alternative level condition ∷ tail) h l = omega arith
late s m k (End n ∷ tail) h l = late (s + 0) (m + 0) k tail h (omega arith)
late s m k (Fit set ∷ tail) h l = late (s + 0) (m + 0) k tail h (omega arith)

none_of_last : (m k : ℕ) (rows : List AlternativeRow) → m < k → Late k rows → (of_last m rows ≡ []) × (past_last m rows ≡ rows)
none_of_last m k [] h l = (refl, refl)
none_of_last m k (a ∷ rows) h l = let other = ne_eqb (a.wish + 1) m (λ e. omega arith) in (cond-false _ _ _ other, cond-false _ _ _ other)

-- the frames behind m wishes, the last of which may still get alternatives
abbrev pub shape : ℕ → ℕ → List WishRow → List AlternativeRow → List Frame
shape r m ws rows = map alternative_frame (of_last m rows) ++ wish_frames r m ws (past_last m rows)

pub shape_none : (r m : ℕ) (ws : List WishRow) (rows : List AlternativeRow) → (of_last m rows ≡ []) × (past_last m rows ≡ rows) → shape r m ws rows ≡ wish_frames r m ws rows
shape_none r m ws rows p = ap (λ x. map alternative_frame x ++ wish_frames r m ws (past_last m rows)) p.0 ∙ ap (wish_frames r m ws) p.1

-- a rank step before a wish of a higher rank
pub step_in : (r m : ℕ) (w : WishRow) (ws : List WishRow) (rows : List AlternativeRow) → r + 1 ≤ w.rank → RankStep ∷ wish_frames (r + 1) m (w ∷ ws) rows ≡ wish_frames r m (w ∷ ws) rows
step_in r m w ws rows h =
    let more : suc (w.rank - (r + 1)) ≡ w.rank - r = omega arith in
    let same : r + 1 + (w.rank - (r + 1)) ≡ r + (w.rank - r) = omega arith in
    let after : ℕ → List Frame = λ k. Wish w.body ∷ (map alternative_frame (of_last (m + 1) rows) ++ wish_frames k (m + 1) ws (past_last (m + 1) rows)) in
    ap (λ k. RankStep ∷ (replicate (w.rank - (r + 1)) RankStep ++ after k)) same ∙ ap (λ k. replicate k RankStep ++ after (r + (w.rank - r))) more

-- a wish of a rank that is reached
pub wish_in_lem : (r m : ℕ) (w : WishRow) (ws : List WishRow) (rows : List AlternativeRow) → w.rank ≤ r → Wish w.body ∷ shape r (m + 1) ws rows ≡ wish_frames r m (w ∷ ws) rows
wish_in_lem r m w ws rows e =
    let none : 0 ≡ w.rank - r = omega arith in
    let same : r ≡ r + (w.rank - r) = omega arith in
    let after : ℕ → List Frame = λ k. Wish w.body ∷ (map alternative_frame (of_last (m + 1) rows) ++ wish_frames k (m + 1) ws (past_last (m + 1) rows)) in
    ap after same ∙ ap (λ k. replicate k RankStep ++ after (r + (w.rank - r))) none

-- an alternative of the last wish
pub alternative_in_lem : (r m : ℕ) (ws : List WishRow) (a : AlternativeRow) (rows : List AlternativeRow) → a.wish + 1 ≡ m → alternative_frame a ∷ shape r m ws rows ≡ shape r m ws (a ∷ rows)
alternative_in_lem r m ws a rows e =
    let here = eq-eqb (a.wish + 1) m e in
    sym (ap (λ x. map alternative_frame x ++ wish_frames r m ws (past_last m (a ∷ rows))) (cond-true _ _ _ here) ∙ ap (λ x. alternative_frame a ∷ (map alternative_frame (of_last m rows) ++ wish_frames r m ws x)) (cond-true _ _ _ here))

-- one frame in front
grow : (f : Frame) (before xs ys tail : List Frame) → tail ≡ xs ++ End (length (before ++ f ∷ []) + length xs) ∷ [] → f ∷ xs ≡ ys → f ∷ tail ≡ ys ++ End (length before + length ys) ∷ []
grow f before xs ys tail e p =
    let long = length-append before (f ∷ []) in
    ap (λ t. f ∷ t) e ∙ ap (λ k. f ∷ (xs ++ End k ∷ [])) (omega arith) ∙ ap (λ zs. zs ++ End (length before + length zs) ∷ []) p

head_rule : List Frame → Bool
head_rule [] = false
head_rule (f ∷ fs) = is_rule f

abbrev wish_rows : ℕ → ℕ → List Frame → List WishRow
wish_rows s n tail = rows_from wish_in s n tail

abbrev alternative_rows : ℕ → ℕ → List Frame → List AlternativeRow
alternative_rows s n tail = rows_from alternative_in s n tail

-- frames that end a book behind its rules
record Wishes (before tail : List Frame) (s n r m : ℕ) : Type 0 where
  ruleless : rows_from rule_in s n tail ≡ []
  shaped : tail ≡ shape r m (wish_rows s n tail) (alternative_rows s n tail) ++ End (length before + length (shape r m (wish_rows s n tail) (alternative_rows s n tail))) ∷ []
  ahead : is_last is_step before ≡ true → (w : WishRow) × (ws : List WishRow) × (wish_rows s n tail ≡ w ∷ ws) × (r ≤ w.rank)
  apart : is_last of_wish before ≡ false → (of_last m (alternative_rows s n tail) ≡ []) × (past_last m (alternative_rows s n tail) ≡ alternative_rows s n tail)

module _ (before : List Frame) (s n r m : ℕ) (rank : r ≡ s + 1) (number : m ≡ n) where
  after_step : (tail : List Frame) → Wishes (before ++ RankStep ∷ []) tail (s + 1) (n + 0) (r + 1) m → Wishes before (RankStep ∷ tail) s n r m
  after_step tail ih =
      let (w, ws, is, high) = ih.ahead (is_last_more is_step RankStep before) in
      let none = ih.apart (is_last_more of_wish RankStep before) in
      let rows = alternative_rows (s + 1) (n + 0) tail in
      let all = wish_rows (s + 1) (n + 0) tail in
      let same : RankStep ∷ shape (r + 1) m all rows ≡ shape r m all rows =
      ap (λ x. RankStep ∷ x) (shape_none (r + 1) m all rows none ∙ ap (λ x. wish_frames (r + 1) m x rows) is) ∙ step_in r m w ws rows high ∙ sym (shape_none r m all rows none ∙ ap (λ x. wish_frames r m x rows) is) in
      record {
        ruleless = ih.ruleless;
        shaped = grow RankStep before _ _ tail ih.shaped same;
        ahead = λ e. (w, ws, is, omega arith);
        apart = λ e. none;
      }

  after_wish : (body : Condition) (tail : List Frame) → Wishes (before ++ Wish body ∷ []) tail (s + 0) (n + 1) r (m + 1) → Wishes before (Wish body ∷ tail) s n r m
  after_wish body tail ih =
      let w : WishRow = record { rank = s + 1; body = body } in
      let rows = alternative_rows (s + 0) (n + 1) tail in
      let all = wish_rows (s + 0) (n + 1) tail in
      let none = none_of_last m (m + 1) rows (omega arith) (late (s + 0) (n + 1) (m + 1) tail (omega arith) (omega arith)) in
      record {
        ruleless = ih.ruleless;
        shaped = grow (Wish body) before _ _ tail ih.shaped (wish_in_lem r m w all rows (omega arith) ∙ sym (shape_none r m (w ∷ all) rows none));
        ahead = λ e. (w, all, refl, omega arith);
        apart = λ e. none;
      }

  after_alternative : (level : ℕ) (condition : Condition) (tail : List Frame) → 1 ≤ n → is_last of_wish before ≡ true → Wishes (before ++ Alternative level condition ∷ []) tail (s + 0) (n + 0) r m → Wishes before (Alternative level condition ∷ tail) s n r m
  after_alternative level condition tail some on ih =
      let a : AlternativeRow = record { wish = n - 1; level = level; condition = condition } in
      record {
        ruleless = ih.ruleless;
        shaped = grow (Alternative level condition) before _ _ tail ih.shaped (alternative_in_lem r m (wish_rows (s + 0) (n + 0) tail) a (alternative_rows (s + 0) (n + 0) tail) (omega arith));
        ahead = λ e. absurd (false≢true (sym (on_step before e) ∙ on));
        apart = λ e. absurd (false≢true (sym e ∙ on));
      }

  at_end : (k : ℕ) → k ≡ length before → not (is_last is_step before) ≡ true → Wishes before (End k ∷ []) s n r m
  at_end k e off =
      record {
        ruleless = refl;
        shaped = ap (λ j. End j ∷ []) (e ∙ omega arith);
        ahead = λ on. absurd (over on off);
        apart = λ x. (refl, refl);
      }

-- behind its rules
wishes_end : (tail before : List Frame) (s n r m : ℕ) → r ≡ s + 1 → m ≡ n → (is_last of_wish before ≡ true → 1 ≤ n) → (head_rule tail ≡ true → list_all is_rule before ≡ false)
    → ended before ≡ false → InTurn Book before tail → ended (before ++ tail) ≡ true → Wishes before tail s n r m
unfolding head_rule
wishes_end [] before s n r m rank number on no_rule going t done = absurd (false≢true (sym going ∙ ap ended (sym (append-nil before)) ∙ done))
wishes_end (Rule row ∷ tail) before s n r m rank number on no_rule going t done = absurd (false≢true (sym (no_rule refl) ∙ (placed Book before (Rule row) t.0).0))
wishes_end (RankStep ∷ tail) before s n r m rank number on no_rule going t done =
    after_step before s n r m rank number tail
    (wishes_end tail (before ++ RankStep ∷ []) (s + 1) (n + 0) (r + 1) m (omega arith) (omega arith) (λ e. absurd (false≢true (sym (is_last_more of_wish RankStep before) ∙ e))) (λ e. all_not is_rule RankStep before refl)
    (ended_still before RankStep going refl) t.1 (ap ended (append_assoc before (RankStep ∷ []) tail) ∙ done))
wishes_end (Wish body ∷ tail) before s n r m rank number on no_rule going t done =
    after_wish before s n r m rank number body tail
    (wishes_end tail (before ++ Wish body ∷ []) (s + 0) (n + 1) r (m + 1) (omega arith) (omega arith) (λ e. omega arith) (λ e. all_not is_rule (Wish body) before refl)
    (ended_still before (Wish body) going refl) t.1 (ap ended (append_assoc before (Wish body ∷ []) tail) ∙ done))
wishes_end (Alternative level condition ∷ tail) before s n r m rank number on no_rule going t done =
    let last_wish = (placed Book before (Alternative level condition) t.0).0 in
    let some = on last_wish in
    after_alternative before s n r m rank number level condition tail some last_wish
    (wishes_end tail (before ++ Alternative level condition ∷ []) (s + 0) (n + 0) r m (omega arith) (omega arith) (λ e. omega arith) (λ e. all_not is_rule (Alternative level condition) before refl)
    (ended_still before (Alternative level condition) going refl) t.1 (ap ended (append_assoc before (Alternative level condition ∷ []) tail) ∙ done))
wishes_end (End k ∷ tail) before s n r m rank number on no_rule going t done =
    let p = placed Book before (End k) t.0 in
    let P : List Frame → Type 0 = λ x. Wishes before (End k ∷ x) s n r m in
    subst P (sym (none_behind Book before k tail t.1)) (at_end before s n r m rank number k (eqb-true k (length before) p.1) (and_parts _ _ p.0).1)
wishes_end (Fit set ∷ tail) before s n r m rank number on no_rule going t done = absurd (false≢true (placed Book before (Fit set) t.0).0)

-- with its rules
abbrev book_shape : List Frame → List Frame
book_shape tail = map Rule (rows_from rule_in 0 0 tail) ++ wish_frames 1 0 (wish_rows 0 0 tail) (alternative_rows 0 0 tail)

abbrev Whole : List Frame → List Frame → Type 0
Whole before tail = tail ≡ book_shape tail ++ End (length before + length (book_shape tail)) ∷ []

-- where the rules are over
rules_over : (tail before : List Frame) → head_rule tail ≡ false → list_all is_rule before ≡ true → InTurn Book before tail → ended (before ++ tail) ≡ true → Whole before tail
rules_over tail before h rules t done =
    let off = never_wish before rules in
    let w = wishes_end tail before 0 0 1 0 refl refl (λ e. absurd (false≢true (sym off ∙ e))) (λ e. absurd (false≢true (sym h ∙ e))) (never_ended before rules) t done in
    let rows = alternative_rows 0 0 tail in
    let all = wish_rows 0 0 tail in
    let same : shape 1 0 all rows ≡ book_shape tail = shape_none 1 0 all rows (w.apart off) ∙ ap (λ x. map Rule x ++ wish_frames 1 0 all rows) (sym w.ruleless) in
    w.shaped ∙ ap (λ x. x ++ End (length before + length x) ∷ []) same

pub rules_end : (tail before : List Frame) → list_all is_rule before ≡ true → InTurn Book before tail → ended (before ++ tail) ≡ true → Whole before tail
unfolding head_rule
rules_end [] before rules t done = rules_over [] before refl rules t done
rules_end (Rule row ∷ tail) before rules t done =
    grow (Rule row) before (book_shape tail) (book_shape (Rule row ∷ tail)) tail
    (rules_end tail (before ++ Rule row ∷ []) (all_more is_rule (Rule row) before ∙ ap (λ b. b && true) rules) t.1 (ap ended (append_assoc before (Rule row ∷ []) tail) ∙ done)) refl
rules_end (RankStep ∷ tail) before rules t done = rules_over (RankStep ∷ tail) before refl rules t done
rules_end (Wish body ∷ tail) before rules t done = rules_over (Wish body ∷ tail) before refl rules t done
rules_end (Alternative level condition ∷ tail) before rules t done = rules_over (Alternative level condition ∷ tail) before refl rules t done
rules_end (End k ∷ tail) before rules t done = rules_over (End k ∷ tail) before refl rules t done
rules_end (Fit set ∷ tail) before rules t done = rules_over (Fit set ∷ tail) before refl rules t done

-- the frames of an accepted book are those of its tables
pub book_frames_lem : (fs : List Frame) → InTurn Book [] fs → ended fs ≡ true → fs ≡ ending (book_frames (tables_of fs))
book_frames_lem fs t done = rules_end fs [] refl t done ∙ ap (λ k. book_shape fs ++ End k ∷ []) (omega arith)
