-- The rows that frames give, with frames behind others.
use Rattle.std.proofs.Common.{◌≡◌, ℕ, ◌+◌, ◌≤◌, cond, List, [], ◌∷◌, ◌++◌, length, take, drop, set, Some, None, Option, sym, refl, ap, ◌∙◌, arith}
use Rattle.std.proofs.lemmas.List.{append-nil, length-append, length-set, length-take-le, take-append-drop, take_more_set, drop-set-lt, drop-drop}
use Rattle.frames.specs.declared.frame.Frame.{Frame}
use Rattle.std.specs.List.{count_by}
use Rattle.texts.specs.Places.{is_step, is_wish}
use Rattle.tables.specs.Tables.{onto}
use Rattle.texts.specs.Rows.{rows_from, rows_in, overwritten}
use Rattle.texts.specs.Summary.{placed_at}
use Rattle.texts.proofs.SummaryLaws.{count_cons}

onto_append : {R : Type 0} (o : Option R) (xs ys : List R) → onto o (xs ++ ys) ≡ onto o xs ++ ys
onto_append None xs ys = refl
onto_append (Some x) xs ys = refl

module _ {R : Type 0} (given : ℕ → ℕ → Frame → Option R) where
  pub rows_append : (s n : ℕ) (xs ys : List Frame) → rows_from given s n (xs ++ ys) ≡ rows_from given s n xs ++ rows_from given (s + count_by is_step xs) (n + count_by is_wish xs) ys
  rows_append s n [] ys = ap (λ k. rows_from given k n ys) (omega arith) ∙ ap (λ k. rows_from given (s + 0) k ys) (omega arith)
  rows_append s n (f ∷ xs) ys =
      let s' = s + cond (is_step f) 1 0 in
      let n' = n + cond (is_wish f) 1 0 in
      let step = count_cons is_step f xs in
      let wish = count_cons is_wish f xs in
      ap (onto (given s n f)) (rows_append s' n' xs ys) ∙ onto_append (given s n f) (rows_from given s' n' xs) (rows_from given (s' + count_by is_step xs) (n' + count_by is_wish xs) ys)
      ∙ ap (λ k. onto (given s n f) (rows_from given s' n' xs) ++ rows_from given k (n' + count_by is_wish xs) ys) (omega arith)
      ∙ ap (λ k. onto (given s n f) (rows_from given s' n' xs) ++ rows_from given (s + count_by is_step (f ∷ xs)) k ys) (omega arith)

  -- one frame more
  pub rows_more : (fs : List Frame) (f : Frame) → rows_in given (fs ++ f ∷ []) ≡ rows_in given fs ++ onto (given (count_by is_step fs) (count_by is_wish fs) f) []
  rows_more fs f =
      rows_append 0 0 fs (f ∷ []) ∙ ap (λ k. rows_in given fs ++ onto (given k (0 + count_by is_wish fs) f) []) (omega arith) ∙ ap (λ k. rows_in given fs ++ onto (given (count_by is_step fs) k f) []) (omega arith)

  -- no fewer rows than those of the front
  pub rows_front : (xs ys : List Frame) → length (rows_in given xs) ≤ length (rows_in given (xs ++ ys))
  rows_front xs ys = let e = ap length (rows_append 0 0 xs ys) in let l = length-append (rows_in given xs) (rows_from given (0 + count_by is_step xs) (0 + count_by is_wish xs) ys) in omega arith

-- a table whose first rows are known, with one row more
module _ {R : Type 0} (table table₀ rows : List R) (n : ℕ) (front : take n table ≡ rows) (back : drop n table ≡ drop n table₀) where
  abbrev Filled : List R → List R → ℕ → Type 0
  Filled t xs k = (k ≤ length t) × (take k t ≡ xs) × (drop k t ≡ drop k table₀)

  pub row_put : (o : Option R) (k : ℕ) → k ≡ n + length (onto o []) → k ≤ length table → Filled (placed_at table n o) (rows ++ onto o []) k
  row_put None k e h =
      let same : k ≡ n = e ∙ omega arith in
      (h, ap (λ j. take j table) same ∙ front ∙ sym (append-nil rows), ap (λ j. drop j table) same ∙ back ∙ ap (λ j. drop j table₀) (sym same))
  row_put (Some x) k e h = (
    simp length-set (omega arith),
    ap (λ j. take j (set table n x)) e ∙ take_more_set table n x (omega arith) ∙ ap (λ t. t ++ x ∷ []) front,
    ap (λ j. drop j (set table n x)) e ∙ drop-set-lt (n + 1) table n x (omega arith) ∙ sym (drop-drop 1 n table) ∙ ap (drop 1) back ∙ drop-drop 1 n table₀ ∙ ap (λ j. drop j table₀) (sym e),
  )

  pub all_put : n ≤ length table → table ≡ overwritten rows table₀
  all_put h =
      let long = length-take-le n table h in
      sym (take-append-drop n table) ∙ ap (λ t. t ++ drop n table) front ∙ ap (λ t. rows ++ t) back ∙ ap (λ k. rows ++ drop k table₀) (sym long ∙ ap length front)
