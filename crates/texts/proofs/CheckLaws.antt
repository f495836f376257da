-- Numbers that do not fall, as the library's test of their rows finds it.
use Rattle.std.proofs.Common.{◌≡◌, ℕ, zero, suc, ◌<◌, ◌≤◌, Bool, true, false, leb, List, [], ◌∷◌, map, length, get_or, Some, sym, refl, subst, arith, add-one}
use Rattle.std.specs.Ordering.{is_some_and, is_le, nat_cmp}
use Rattle.std.specs.List.{IsAllAdjacentAnswer}
use Rattle.std.proofs.lemmas.Bool.{and_from, and_left, and_right, le-leb, lt-leb}
use Rattle.std.proofs.lemmas.Bool.Decides.{nat_tests}
use Rattle.std.proofs.lemmas.Map.Keys.{le_from_is_le}
use Rattle.texts.specs.Writing.{rising}

module _ {A : Type 0} (key : A → ℕ) where
  abbrev in_order : A → A → Bool
  in_order x y = is_some_and is_le (Some (nat_cmp (key x) (key y)))

  not_above : (x y : A) → true ≡ in_order x y → key x ≤ key y
  not_above x y e = le_from_is_le (key x) (key y) (sym e)

  above : (x y : A) → false ≡ in_order x y → key y < key x
  above x y e = grind (arith, nat_tests)

  up : (x : A) (xs : List A) (low : ℕ) → low ≤ key x → ((k : ℕ) (d : A) → suc k < length (x ∷ xs) → key (get_or (x ∷ xs) k d) ≤ key (get_or (x ∷ xs) (suc k) d)) → rising low (map key (x ∷ xs)) ≡ true
  up x [] low l h = and_from (leb low (key x)) true (le-leb low (key x) l) refl
  up x (y ∷ ys) low l h = and_from (leb low (key x)) _ (le-leb low (key x) l) (up y ys (key x) (h 0 x (omega arith)) (λ k d b. h (suc k) d (omega arith)))

  down : (k : ℕ) (xs : List A) (low : ℕ) → suc k < length xs → ((d : A) → key (get_or xs (suc k) d) < key (get_or xs k d)) → rising low (map key xs) ≡ false
  down k [] low b h = absurd (omega arith)
  down k (x ∷ []) low b h = absurd (omega arith)
  down zero (x ∷ y ∷ ys) low b h = and_right (leb low (key x)) _ (and_left _ _ (lt-leb (key x) (key y) (h x)))
  down (suc k) (x ∷ y ∷ ys) low b h = and_right (leb low (key x)) _ (down k (y ∷ ys) (key x) (omega arith) h)

  pub rises : (xs : List A) (r : Bool) → IsAllAdjacentAnswer (λ x y b. b ≡ in_order x y) xs r → r ≡ rising 0 (map key xs)
  rises [] true h = refl
  rises (x ∷ xs) true h = sym (up x xs 0 (omega arith) (λ k d b. not_above (get_or (x ∷ xs) k d) (get_or (x ∷ xs) (suc k) d) (let P : ℕ → Type 0 = λ j. true ≡ in_order (get_or (x ∷ xs) k d) (get_or (x ∷ xs) j d) in subst P (add-one k) (h k d (omega arith)))))
  rises xs false h = sym (down h.0 xs 0 (omega arith) (λ d. above (get_or xs h.0 d) (get_or xs (suc h.0) d) (let P : ℕ → Type 0 = λ k. false ≡ in_order (get_or xs h.0 d) (get_or xs k d) in subst P (add-one h.0) (h.2 d))))
