-- Words and their bytes.
use Rattle.std.proofs.Common.{◌≡◌, ℕ, zero, suc, sum, ◌+◌, ◌*◌, ◌/◌, ◌%◌, ◌^◌, ◌<◌, ◌≤◌, ◌-◌, List, [], ◌∷◌, ◌++◌, length, take, drop, sym, refl, ap, ◌∙◌, mul_assoc, arith}
use native.Mathlib.Nat.{pow-succ', mul-add-div_right}
use Rattle.std.proofs.lemmas.List.Sums.{sum_by-cons}
use Rattle.std.proofs.lemmas.List.{take_all}
use lib.Arith.{digits_lt, digits_div, mod-mul}
use Rattle.frames.specs.Frames.{word_of, word_bytes, body_of}

abbrev pub Bytes : List ℕ → Type 0
Bytes [] = Unit {0}
Bytes (b ∷ bs) = (b < 256) × Bytes bs

pub bytes_append : (xs ys : List ℕ) → Bytes xs → Bytes ys → Bytes (xs ++ ys)
bytes_append [] ys p q = q
bytes_append (x ∷ xs) ys p q = (p.0, bytes_append xs ys p.1 q)

pub sum-cons : (b : ℕ) (bs : List ℕ) → sum (b ∷ bs) ≡ b + sum bs
sum-cons b bs = sum_by-cons (λ x. x) b bs

-- all but the last, of two or more
pub body_cons : (b c : ℕ) (bs : List ℕ) → body_of (b ∷ c ∷ bs) ≡ b ∷ body_of (c ∷ bs)
body_cons b c bs = let n : suc (suc (length bs)) - 1 ≡ suc (suc (length bs) - 1) = omega arith in ap (λ k. take k (b ∷ c ∷ bs)) n

pub power_positive : (n : ℕ) → 0 < 256 ^ n
power_positive zero = omega arith
power_positive (suc n) = let p = power_positive n in rw pow-succ' (omega arith)

-- what lies above the lowest m bytes does not count
skip : (m c r : ℕ) → word_bytes m (c * 256 ^ m + r) ≡ word_bytes m r
skip zero c r = refl
skip (suc m) c r =
    let is : c * 256 ^ suc m + r ≡ (c * 256) * 256 ^ m + r = ap (λ p. c * p + r) (pow-succ' 256 m) ∙ ap (λ y. y + r) (sym (mul_assoc c 256 (256 ^ m))) in
    let high : (c * 256 ^ suc m + r) / 256 ^ m ≡ c * 256 + r / 256 ^ m = ap (λ x. x / 256 ^ m) is ∙ mul-add-div_right (power_positive m) (c * 256) r in
    let head : (c * 256 ^ suc m + r) / 256 ^ m % 256 ≡ r / 256 ^ m % 256 = ap (λ x. x % 256) high ∙ omega arith in
    ap (λ h. h ∷ word_bytes m (c * 256 ^ suc m + r)) head ∙ ap (λ t. (r / 256 ^ m % 256) ∷ t) (ap (word_bytes m) is ∙ skip m (c * 256) r)

pub word_of_lt : (bs : List ℕ) → Bytes bs → word_of bs < 256 ^ length bs
word_of_lt [] s = omega arith
word_of_lt (b ∷ bs) s = rw pow-succ' (digits_lt s.0 (word_of_lt bs s.1))

pub word_exact : (bs : List ℕ) → Bytes bs → word_bytes (length bs) (word_of bs) ≡ bs
word_exact [] s = refl
word_exact (b ∷ bs) s =
    let small = s.0 in
    let head : (b * 256 ^ length bs + word_of bs) / 256 ^ length bs % 256 ≡ b = ap (λ x. x % 256) (digits_div b (word_of_lt bs s.1)) ∙ omega arith in
    ap (λ h. h ∷ word_bytes (length bs) (b * 256 ^ length bs + word_of bs)) head ∙ ap (λ t. b ∷ t) (skip (length bs) b (word_of bs) ∙ word_exact bs s.1)

pub length_word_bytes : (n w : ℕ) → length (word_bytes n w) ≡ n
length_word_bytes zero w = refl
length_word_bytes (suc n) w = ap suc (length_word_bytes n w)

pub word_bytes_bytes : (n w : ℕ) → Bytes (word_bytes n w)
word_bytes_bytes zero w = tt
word_bytes_bytes (suc n) w = (omega arith, word_bytes_bytes n w)

pub word_of_bytes : (n w : ℕ) → word_of (word_bytes n w) ≡ w % 256 ^ n
word_of_bytes zero w = omega arith
word_of_bytes (suc n) w =
    let split : w % (256 * 256 ^ n) ≡ (w / 256 ^ n % 256) * 256 ^ n + w % 256 ^ n = mod-mul w (omega arith) (power_positive n) in
    ap (λ k. (w / 256 ^ n % 256) * 256 ^ k + word_of (word_bytes n w)) (length_word_bytes n w)
    ∙ ap (λ y. (w / 256 ^ n % 256) * 256 ^ n + y) (word_of_bytes n w) ∙ sym split ∙ ap (λ p. w % p) (sym (pow-succ' 256 n))

-- what `to_be_bytes` gives
pub be_word : (w : ℕ) (bs : List ℕ)
    → bs ≡ (w / 72057594037927936 % 256) ∷ (w / 281474976710656 % 256) ∷ (w / 1099511627776 % 256) ∷ (w / 4294967296 % 256) ∷ (w / 16777216 % 256) ∷ (w / 65536 % 256) ∷ (w / 256 % 256) ∷ (w % 256) ∷ []
    → bs ≡ word_bytes 8 w
be_word w bs e =
    e ∙ ap (λ x. (w / 72057594037927936 % 256) ∷ (w / 281474976710656 % 256) ∷ (w / 1099511627776 % 256) ∷ (w / 4294967296 % 256) ∷ (w / 16777216 % 256) ∷ (w / 65536 % 256) ∷ (w / 256 % 256) ∷ x ∷ []) (omega arith)

pub be_pair : (w : ℕ) (bs : List ℕ) → bs ≡ (w / 256 % 256) ∷ (w % 256) ∷ [] → bs ≡ word_bytes 2 w
be_pair w bs e = e ∙ ap (λ x. (w / 256 % 256) ∷ x ∷ []) (omega arith)

pub be_four : (w : ℕ) (bs : List ℕ) → bs ≡ (w / 16777216 % 256) ∷ (w / 65536 % 256) ∷ (w / 256 % 256) ∷ (w % 256) ∷ [] → bs ≡ word_bytes 4 w
be_four w bs e = e ∙ ap (λ x. (w / 16777216 % 256) ∷ (w / 65536 % 256) ∷ (w / 256 % 256) ∷ x ∷ []) (omega arith)

-- the lowest n bytes of a word
drop_word : (k n w : ℕ) → drop k (word_bytes (k + n) w) ≡ word_bytes n w
drop_word zero n w = let e : 0 + n ≡ n = omega arith in ap (λ m. word_bytes m w) e
drop_word (suc k) n w = let e : suc k + n ≡ suc (k + n) = omega arith in ap (λ m. drop (suc k) (word_bytes m w)) e ∙ drop_word k n w

pub low_bytes : (n w : ℕ) (bs : List ℕ) → n ≤ 8 → bs ≡ word_bytes 8 w → take (8 - (8 - n)) (drop (8 - n) bs) ≡ word_bytes n w
low_bytes n w bs h e =
    let eight : 8 ≡ 8 - n + n = omega arith in
    let all : word_bytes 8 w ≡ word_bytes (8 - n + n) w = ap (λ m. word_bytes m w) eight in
    let long = length_word_bytes n w in
    ap (λ b. take (8 - (8 - n)) (drop (8 - n) b)) (e ∙ all) ∙ ap (take (8 - (8 - n))) (drop_word (8 - n) n w) ∙ take_all (8 - (8 - n)) (word_bytes n w) (omega arith)
