-- Digits and bytes answer to each other.
use Rattle.std.proofs.Common.{◌≡◌, ℕ, zero, suc, ◌+◌, ◌-◌, ◌*◌, ◌/◌, ◌%◌, ◌<◌, ◌≤◌, true, false, ◌&&◌, eqb, List, [], ◌∷◌, ◌++◌, length, get_or, take, drop, not, le_refl, Some, None, Ok, Err, Option, Result, refl, ap, ◌∙◌, arith}
use Rattle.std.proofs.lemmas.Bool.{and_parts, and_from, eq-eqb, not_from_true, le-ltb, cond-true, cond-false}
use Rattle.std.proofs.lemmas.Bool.Decides.{nat_tests}
use Rattle.std.specs.List.{list_all}
use Rattle.std.specs.Option.{option_map, option_or}
use Rattle.std.proofs.lemmas.List.Sums.{position_or_len_is}
use Rattle.frames.specs.declared.frame.DigitFault.TheVariants.{BadByte}
use Rattle.frames.specs.Digits.{is_digit, value_of, digit_of, hex_of, bytes_of, first_bad, count_fault, digit_fault}
use Rattle.frames.specs.Frames.{body_of, line_of, behind}
pub use Rattle.frames.proofs.HexLaws.{some_none}
use Rattle.frames.proofs.HexLaws.{length_hex_of, digit_at}
use Rattle.frames.proofs.WordLaws.{Bytes}

-- ---- constructors

pub ok_err : {A B : Type 0} {x : A} {y : B} → ◌≡◌ {A = Result A B} (Ok x) (Err y) → ⊥
ok_err e = let z : ◌≡◌ {A = ℕ} 0 1 = cc in omega arith

pub ok_same : {A B : Type 0} {x y : A} → ◌≡◌ {A = Result A B} (Ok x) (Ok y) → x ≡ y
ok_same e = cc

pub err_same : {A B : Type 0} {x y : B} → ◌≡◌ {A = Result A B} (Err x) (Err y) → x ≡ y
err_same e = cc

pub some_same : {A : Type 0} {x y : A} → ◌≡◌ {A = Option A} (Some x) (Some y) → x ≡ y
some_same e = cc

-- ---- digits and values

pub value_small : (b : ℕ) → is_digit b ≡ true → value_of b < 16
value_small b e = grind (arith, nat_tests)

pub digit_back : (b : ℕ) → is_digit b ≡ true → digit_of (value_of b) ≡ b
digit_back b e = grind (arith, nat_tests)

pub digit_good : (v : ℕ) → v < 16 → is_digit (digit_of v) ≡ true
digit_good v e = grind (arith, nat_tests)

pub value_back : (v : ℕ) → v < 16 → value_of (digit_of v) ≡ v
value_back v e = grind (arith, nat_tests)

pub hex_back : (l : List ℕ) → list_all is_digit l ≡ true → length l % 2 ≡ 0 → hex_of (bytes_of l) ≡ l
hex_back [] a e = refl
hex_back (x ∷ []) a e = absurd (omega arith)
hex_back (x ∷ y ∷ l) a e =
    let p = and_parts (is_digit x) (is_digit y && list_all is_digit l) a in
    let q = and_parts (is_digit y) (list_all is_digit l) p.1 in
    let sx = value_small x p.0 in
    let sy = value_small y q.0 in
    let byte = value_of x * 16 + value_of y in
    let high : digit_of (byte / 16) ≡ x = ap digit_of (omega arith) ∙ digit_back x p.0 in
    let low : digit_of (byte % 16) ≡ y = ap digit_of (omega arith) ∙ digit_back y q.0 in
    let rest = hex_back l q.1 (omega arith) in
    ap (λ h. h ∷ digit_of (byte % 16) ∷ hex_of (bytes_of l)) high ∙ ap (λ h. x ∷ h ∷ hex_of (bytes_of l)) low ∙ ap (λ t. x ∷ y ∷ t) rest

-- digits bound the bytes that they write
pub bytes_small : (l : List ℕ) → list_all is_digit l ≡ true → Bytes (bytes_of l)
bytes_small [] a = tt
bytes_small (x ∷ []) a = tt
bytes_small (x ∷ y ∷ l) a =
    let p = and_parts (is_digit x) (is_digit y && list_all is_digit l) a in
    let q = and_parts (is_digit y) (list_all is_digit l) p.1 in
    let sx = value_small x p.0 in
    let sy = value_small y q.0 in (omega arith, bytes_small l q.1)

pub take_small : (n : ℕ) (bs : List ℕ) → Bytes bs → Bytes (take n bs)
take_small zero bs s = tt
take_small (suc n) [] s = tt
take_small (suc n) (b ∷ bs) s = (s.0, take_small n bs s.1)

pub body_small : (bs : List ℕ) → Bytes bs → Bytes (body_of bs)
body_small bs s = take_small (length bs - 1) bs s

pub drop_small : (n : ℕ) (bs : List ℕ) → Bytes bs → Bytes (drop n bs)
drop_small zero bs s = s
drop_small (suc n) [] s = tt
drop_small (suc n) (b ∷ bs) s = drop_small n bs s.1

-- the digits of bytes
pub hex_good : (bs : List ℕ) → Bytes bs → list_all is_digit (hex_of bs) ≡ true
hex_good [] s = refl
hex_good (b ∷ bs) s =
    let small = s.0 in
    and_from _ _ (digit_good (b / 16) (omega arith)) (and_from _ _ (digit_good (b % 16) (omega arith)) (hex_good bs s.1))

pub bytes_back : (bs : List ℕ) → Bytes bs → bytes_of (hex_of bs) ≡ bs
bytes_back [] s = refl
bytes_back (b ∷ bs) s =
    let small = s.0 in
    let high = value_back (b / 16) (omega arith) in
    let low = value_back (b % 16) (omega arith) in
    ap (λ x. x ∷ bytes_of (hex_of bs)) (ap (λ x. x * 16 + value_of (digit_of (b % 16))) high ∙ ap (λ x. b / 16 * 16 + x) low ∙ omega arith) ∙ ap (λ t. b ∷ t) (bytes_back bs s.1)

none_bad : (l : List ℕ) → list_all is_digit l ≡ true → first_bad l ≡ None
none_bad l a =
    let n = position_or_len_is (λ b. not (is_digit b)) l (length l) 0 (le_refl _) (λ k h. not_from_true _ (digit_at l k a h)) (λ h. absurd (omega arith)) in
    ap (option_map (λ i. BadByte i (get_or l i 0))) (cond-false _ _ _ (le-ltb _ (length l) (omega arith)))

-- a row of digits, an even number and four at least, has no fault
pub digits_good : (l : List ℕ) → list_all is_digit l ≡ true → length l % 2 ≡ 0 → 4 ≤ length l → digit_fault l ≡ None
digits_good l a e h =
    ap (λ o. option_or o (count_fault (length l))) (none_bad l a) ∙ cond-true _ _ _ (eq-eqb (length l % 2) 0 e) ∙ cond-false _ _ _ (le-ltb (length l) 4 h)

pub good_line : (bs : List ℕ) → Bytes bs → 2 ≤ length bs → digit_fault (hex_of bs) ≡ None
good_line bs s two = let n = length_hex_of bs in digits_good (hex_of bs) (hex_good bs s) (omega arith) (omega arith)

-- ---- a line up to its line feed

no_feed : (b : ℕ) → is_digit b ≡ true → eqb b 10 ≡ false
no_feed b e = grind (arith, nat_tests)

pub line_back : (l r : List ℕ) → list_all is_digit l ≡ true → line_of (l ++ 10 ∷ r) ≡ l
line_back [] r a = refl
line_back (b ∷ l) r a = let p = and_parts (is_digit b) (list_all is_digit l) a in cond-false _ _ _ (no_feed b p.0) ∙ ap (λ t. b ∷ t) (line_back l r p.1)

pub behind_back : (l r : List ℕ) → list_all is_digit l ≡ true → behind (l ++ 10 ∷ r) ≡ Some r
behind_back [] r a = refl
behind_back (b ∷ l) r a = let p = and_parts (is_digit b) (list_all is_digit l) a in cond-false _ _ _ (no_feed b p.0) ∙ behind_back l r p.1
