-- Laws of writing.
use Rattle.std.proofs.Common.{◌≡◌, ℕ, suc, sum, ◌+◌, ◌-◌, ◌*◌, ◌%◌, ◌<◌, ◌≤◌, List, [], ◌∷◌, ◌++◌, length, get_or, take, drop, Some, Option, sym, ap, ◌∙◌, le_refl, mul-suc, arith}
use Rattle.std.proofs.Math.Nat.{mul-le-mul_left}
use borrow.Rule.Slice.PartMut.{put_mid}
use Rattle.std.specs.List.{flat_map}
use Rattle.std.proofs.lemmas.List.{append_assoc, append-nil, length-append, length-drop, take_at, take_rest, take_more, drop_at, drop_all, length-take-le, flat_map_more}
use Rattle.std.proofs.lemmas.Bool.{le-ltb, cond-false}
use Rattle.literals.specs.declared.condition.Condition.{Condition}
use Rattle.frames.specs.Digits.{hex_of}
use Rattle.frames.specs.Frames.{word_bytes, condition_bytes, sealed, line_with, overwritten, wrote_in, written_in}
use Rattle.frames.proofs.HexLaws.{length_hex_of}
use Rattle.frames.proofs.WordLaws.{length_word_bytes}

-- what a slice holds after its tail was lent and written
pub tail_written : {X : Type 0} (xs ys front back : List X) (n : ℕ) → xs ≡ front ++ back → length front ≡ n → put_mid n (length xs - n) xs ys ≡ front ++ ys
tail_written xs ys front back n e l =
    let first : take n xs ≡ front = ap (take n) e ∙ take_at front back n l in
    let none : drop (length xs - n) (drop n xs) ≡ [] = drop_all (length xs - n) (drop n xs) (simp length-drop (le_refl (length xs - n))) in
    ap (λ t. take n xs ++ (ys ++ t)) none ∙ ap (λ t. take n xs ++ t) (append-nil ys) ∙ ap (λ t. t ++ ys) first

-- the tail that is lent
pub tail_is : {X : Type 0} (xs front back : List X) (n : ℕ) → xs ≡ front ++ back → length front ≡ n → take (length xs - n) (drop n xs) ≡ back
tail_is xs front back n e l = take_rest xs n ∙ ap (drop n) e ∙ drop_at front back n l

-- the length of a line
pub line_with_long : (body : List ℕ) → length (line_with (sealed body)) ≡ 2 * length body + 3
line_with_long body =
    let l = length_hex_of (sealed body) in
    let m = length-append body ((sum body % 251) ∷ []) in
    length-append (hex_of (sealed body)) (10 ∷ []) ∙ omega arith

-- a line and a buffer with room for it
module _ (line out : List ℕ) where
  pub room_result : length line ≤ length out → Some (length line) ≡ wrote_in line out
  room_result h = sym (cond-false _ _ _ (le-ltb (length out) (length line) h))

  pub room_buffer : length line ≤ length out → overwritten line out ≡ written_in line out
  room_buffer h = sym (cond-false _ _ _ (le-ltb (length out) (length line) h))

joined_long : (n : ℕ) (xs : List ℕ) → length (flat_map (word_bytes n) xs) ≡ n * length xs
joined_long n [] = omega arith
joined_long n (x ∷ xs) =
    let e = joined_long n xs in
    let s = mul-suc n (length xs) in
    length-append (word_bytes n x) (flat_map (word_bytes n) xs) ∙ ap (λ k. k + length (flat_map (word_bytes n) xs)) (length_word_bytes n x) ∙ omega arith

-- numbers of n bytes each behind a head
module _ (n : ℕ) (head xs : List ℕ) (i : ℕ) (h : i < length xs) where
  pub number_more : (head ++ flat_map (word_bytes n) (take i xs)) ++ word_bytes n (get_or xs i 0) ≡ head ++ flat_map (word_bytes n) (take (i + 1) xs)
  number_more = flat_map_more (word_bytes n) head (take i xs) (get_or xs i 0) ∙ ap (λ l. head ++ flat_map (word_bytes n) l) (sym (take_more xs i 0 h))

  pub number_fits : (room : ℕ) → length head + n * length xs ≤ room → length (head ++ flat_map (word_bytes n) (take i xs)) + n ≤ room
  number_fits room fits =
      let long = length-append head (flat_map (word_bytes n) (take i xs)) in
      let joined : length (flat_map (word_bytes n) (take i xs)) ≡ n * i = joined_long n (take i xs) ∙ ap (λ k. n * k) (length-take-le i xs (omega arith)) in
      let more = mul-suc n i in
      let all : n * suc i ≤ n * length xs = mul-le-mul_left n h in omega arith

-- the words of a condition
pub condition_words : (c : Condition) (ws : List ℕ) → ws ≡ c.wanted.plus ∷ c.wanted.minus ∷ c.absent.plus ∷ c.absent.minus ∷ [] → flat_map (word_bytes 8) ws ≡ condition_bytes c
condition_words c ws e = ap (flat_map (word_bytes 8)) e

-- a line written into the tail behind a front
module _ (line front back out : List ℕ) (n : ℕ) (e : out ≡ front ++ back) (l : length front ≡ n) (room : length line ≤ length back) where
  pub line_count : (r : Option ℕ) → r ≡ wrote_in line (take (length out - n) (drop n out)) → r ≡ Some (length line)
  line_count r w = w ∙ ap (wrote_in line) (tail_is out front back n e l) ∙ sym (room_result line back room)

  pub line_after : (last : List ℕ) → last ≡ written_in line (take (length out - n) (drop n out)) → put_mid n (length out - n) out last ≡ (front ++ line) ++ drop (length line) back
  line_after last w =
      tail_written out last front back n e l ∙ ap (λ t. front ++ t) (w ∙ ap (written_in line) (tail_is out front back n e l) ∙ sym (room_buffer line back room)) ∙ sym (append_assoc front line (drop (length line) back))
