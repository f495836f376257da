-- The fits that the rows of a catalogue list, row by row.
use Rattle.std.proofs.Common.{◌≡◌, ℕ, ◌+◌, ◌<◌, ◌≤◌, ◌⊎◌, List, [], ◌∷◌, ◌++◌, length, get_or, take, Some, Option, sym, subst, inl, inr, ⊎_elim}
use Rattle.std.proofs.ByRecursion.{has_append_left, has_push, has_push_cases}
use Rattle.std.proofs.lemmas.List.{take_more, take_all}
use Rattle.literals.specs.declared.literal_set.LiteralSet.{LiteralSet}
use Rattle.picks.specs.declared.fit.Fit.{Fit}
use Rattle.picks.specs.declared.picks.Picks.{Picks}
use Rattle.fits.specs.First.{First, Next}
use Rattle.fits.specs.Listed.{Listed}
use Rattle.fits.proofs.Firsts.{first_either, first_like}

module _ (picks : Picks) (after : Option Fit) where
  -- one row more
  pub push_row : (xs : List LiteralSet) (row : LiteralSet) (x y r : Option Fit)
      → First (Next (Listed xs) picks after) x
      → First (Next (λ f. f.literals ≡ row) picks after) y
      → First (λ f. (x ≡ Some f) ⊎ (y ≡ Some f)) r
      → First (Next (Listed (xs ++ row ∷ [])) picks after) r
  push_row xs row x y r p q h = first_like _ _ to from r (first_either _ _ x y r p q h) where
    to : (f : Fit) → Next (Listed xs) picks after f ⊎ Next (λ g. g.literals ≡ row) picks after f → Next (Listed (xs ++ row ∷ [])) picks after f
    to f (inl n) = (has_append_left xs (row ∷ []) f.literals n.0, n.1, n.2)
    to f (inr n) = (subst (λ s. Listed (xs ++ s ∷ []) f) n.0 (has_push xs f.literals), n.1, n.2)

    from : (f : Fit) → Next (Listed (xs ++ row ∷ [])) picks after f → Next (Listed xs) picks after f ⊎ Next (λ g. g.literals ≡ row) picks after f
    from f n = ⊎_elim (λ l. inl (l, n.1, n.2)) (λ e. inr (sym e, n.1, n.2)) (has_push_cases xs row f.literals n.0)

  pub row_more : (rows : List LiteralSet) (i : ℕ) (d : LiteralSet) → i < length rows → (x y r : Option Fit)
      → First (Next (Listed (take i rows)) picks after) x
      → First (Next (λ f. f.literals ≡ get_or rows i d) picks after) y
      → First (λ f. (x ≡ Some f) ⊎ (y ≡ Some f)) r
      → First (Next (Listed (take (i + 1) rows)) picks after) r
  row_more rows i d l x y r p q h = subst (λ xs. First (Next (Listed xs) picks after) r) (sym (take_more rows i d l)) (push_row (take i rows) (get_or rows i d) x y r p q h)

  pub rows_all : (rows : List LiteralSet) (i : ℕ) → length rows ≤ i → (r : Option Fit)
      → First (Next (Listed (take i rows)) picks after) r → First (Next (Listed rows) picks after) r
  rows_all rows i l r h = subst (λ xs. First (Next (Listed xs) picks after) r) (take_all i rows l) h
