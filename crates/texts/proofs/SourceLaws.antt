-- All frames of a book's tables.
use Rattle.std.proofs.Common.{◌≡◌, ℕ, ◌+◌, false, List, [], ◌∷◌, ◌++◌, map, refl, ap, arith}
use Rattle.std.proofs.lemmas.Bool.{cond-false, ne_eqb}
use Rattle.tables.specs.declared.row.AlternativeRow.{AlternativeRow}
use Rattle.frames.specs.declared.frame.Frame.TheVariants.{Rule}
use Rattle.texts.specs.Summary.{book_left, starts_last}
use Rattle.texts.specs.Rows.{Tables}
use Rattle.texts.specs.Writing.{of_last, past_last, book_frames}
use Rattle.texts.proofs.BookTurns.{shape_none}

not_last : (n : ℕ) (rows : List AlternativeRow) → starts_last n rows ≡ false → (of_last n rows ≡ []) × (past_last n rows ≡ rows)
not_last n [] e = (refl, refl)
not_last n (a ∷ rows) e = (cond-false _ _ _ e, cond-false _ _ _ e)

-- at the start all frames of the book are left
none_yet : (rows : List AlternativeRow) → starts_last 0 rows ≡ false
none_yet [] = refl
none_yet (a ∷ rows) = ne_eqb (a.wish + 1) 0 (λ e. omega arith)

pub all_left : (t : Tables) → book_left t 1 0 ≡ book_frames t
all_left t = ap (λ x. map Rule t.rules ++ x) (shape_none 1 0 t.wishes t.alternatives (not_last 0 t.alternatives (none_yet t.alternatives)))
