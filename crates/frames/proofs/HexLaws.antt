-- Laws of digits and bytes.
use Rattle.std.proofs.Common.{◌≡◌, ℕ, zero, suc, not, ◌+◌, ◌*◌, ◌/◌, ◌%◌, ◌<◌, ◌≤◌, Bool, true, false, cond, ◌&&◌, eqb, ltb, List, [], ◌∷◌, length, get_or, drop, Some, None, Option, refl, arith}
use Rattle.frames.specs.declared.frame.DigitFault.{DigitFault}
use Rattle.frames.specs.declared.frame.DigitFault.TheVariants.{BadByte, Odd, Few}
use Rattle.std.proofs.lemmas.Bool.{and_parts, and_from, eqb-true, ltb-false}
use Rattle.std.specs.List.{list_all, position, position_or_len}
use Rattle.std.specs.Option.{option_map, option_or}
use Rattle.frames.specs.Digits.{is_digit, hex_of, bytes_of, first_bad, count_fault, digit_fault}

pub length_hex_of : (bs : List ℕ) → length (hex_of bs) ≡ 2 * length bs
length_hex_of [] = refl
length_hex_of (b ∷ bs) = let e = length_hex_of bs in omega arith

pub digit_at : (l : List ℕ) (k : ℕ) → list_all is_digit l ≡ true → k < length l → is_digit (get_or l k 0) ≡ true
digit_at [] k e h = absurd (omega arith)
digit_at (x ∷ l) zero e h = (and_parts (is_digit x) (list_all is_digit l) e).0
digit_at (x ∷ l) (suc k) e h = digit_at l k (and_parts (is_digit x) (list_all is_digit l) e).1 (omega arith)

pub digits_front : (r : List ℕ) → 2 ≤ length r → list_all is_digit r ≡ true → list_all is_digit (drop 2 r) ≡ true
digits_front [] h e = absurd (omega arith)
digits_front (x ∷ []) h e = absurd (omega arith)
digits_front (x ∷ y ∷ r) h e = (and_parts (is_digit y) (list_all is_digit r) (and_parts (is_digit x) (is_digit y && list_all is_digit r) e).1).1

pub some_none : {A : Type 0} {x : A} → ◌≡◌ {A = Option A} (Some x) None → ⊥
some_none e = let z : ◌≡◌ {A = ℕ} 0 1 = cc in omega arith

-- no byte that is no digit
all_good : (l : List ℕ) → length l ≤ position_or_len (λ b. not (is_digit b)) l → list_all is_digit l ≡ true
all_good [] h = refl
all_good (b ∷ l) h = at (is_digit b) refl (all_good l) h where
  at : (d : Bool) → is_digit b ≡ d → (length l ≤ position_or_len (λ c. not (is_digit c)) l → list_all is_digit l ≡ true)
      → suc (length l) ≤ cond (not (not d)) (1 + position_or_len (λ c. not (is_digit c)) l) 0 → list_all is_digit (b ∷ l) ≡ true
  at true e rest g = and_from _ _ e (rest (omega arith))
  at false e rest g = absurd (omega arith)

-- a search for a place that gives none went through the whole list
pub none_found : (n m : ℕ) → ◌≡◌ {A = Option ℕ} (cond (ltb n m) (Some n) None) None → m ≤ n
none_found n m e = at (ltb n m) refl e where
  at : (d : Bool) → ltb n m ≡ d → ◌≡◌ {A = Option ℕ} (cond d (Some n) None) None → m ≤ n
  at true p g = absurd (some_none g)
  at false p g = ltb-false n m p

map_none : {A B : Type 0} (f : A → B) (o : Option A) → option_map f o ≡ None → o ≡ None
map_none f None e = refl
map_none f (Some x) e = absurd (some_none e)

first_bad_none : (l : List ℕ) → first_bad l ≡ None → list_all is_digit l ≡ true
first_bad_none l e = all_good l (none_found _ (length l) (map_none (λ i. BadByte i (get_or l i 0)) (position (λ b. not (is_digit b)) l) e))

or_none : {A : Type 0} (o p : Option A) → option_or o p ≡ None → (o ≡ None) × (p ≡ None)
or_none None p e = (refl, e)
or_none (Some x) p e = absurd (some_none e)

even_four : (a b : Bool) → ◌≡◌ {A = Option DigitFault} (cond a (cond b (Some Few) None) (Some Odd)) None → (a ≡ true) × (b ≡ false)
even_four true true e = absurd (some_none e)
even_four true false e = (refl, refl)
even_four false b e = absurd (some_none e)

-- what a line without fault is
pub faultless : (l : List ℕ) → digit_fault l ≡ None → (list_all is_digit l ≡ true) × (length l % 2 ≡ 0) × (4 ≤ length l)
faultless l e =
    let parts = or_none (first_bad l) (count_fault (length l)) e in
    let count = even_four (eqb (length l % 2) 0) (ltb (length l) 4) parts.1 in
    (first_bad_none l parts.0, eqb-true _ _ count.0, ltb-false _ _ count.1)

pub length_bytes_of : (l : List ℕ) → length (bytes_of l) ≡ length l / 2
length_bytes_of [] = refl
length_bytes_of (x ∷ []) = omega arith
length_bytes_of (x ∷ y ∷ l) = let e = length_bytes_of l in omega arith
