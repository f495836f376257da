-- Each number of a fault means what it says.
use Rattle.std.proofs.Common.{◌≡◌, ℕ, suc, not, sum, ◌↔◌, ◌+◌, ◌%◌, ◌<◌, ◌≤◌, Bool, true, false, cond, eqb, ltb, ◌⊎◌, List, [], ◌∷◌, ◌++◌, length, get_or, Some, None, Ok, Err, Option, Result, sym, refl, ap, ◌∙◌, inl, inr, zero-add, arith}
use Rattle.std.proofs.lemmas.List.{same_from_push, length_push}
use Rattle.std.proofs.lemmas.Bool.{eqb-true, eqb-false, ltb-true, cond-true, cond-false, not-true, false≢true}
use Rattle.frames.specs.declared.frame.DigitFault.{DigitFault}
use Rattle.frames.specs.declared.frame.DigitFault.TheVariants.{BadByte, Odd, Few}
use Rattle.frames.specs.declared.frame.Frame.{Frame}
use Rattle.frames.specs.declared.frame.FrameFault.{FrameFault}
use Rattle.frames.specs.declared.frame.FrameFault.TheVariants.{Check, Kind, Field}
use Rattle.std.specs.List.{position_or_len}
use Rattle.std.specs.Option.{option_map, option_or}
use Rattle.std.proofs.lemmas.List.Sums.{passes_at_first}
use Rattle.frames.specs.Digits.{is_digit, bytes_of, first_bad, count_fault, digit_fault}
use Rattle.frames.specs.Frames.{frame_bytes, said, makes_record, in_range, parsed, checked_from, body_of, framed, sealed, line_of, behind, with_rest, judged, read_frame, number_of}
use Rattle.frames.specs.Faults.{length_of, BadDigits, WrongCheck, UnknownKind, WrongField, Refused, FaultsStand}
use Rattle.frames.proofs.HexLaws.{faultless, digit_at, length_bytes_of}
use Rattle.frames.proofs.WordLaws.{Bytes, sum-cons, body_cons}
use Rattle.frames.proofs.DigitLaws.{some_none, ok_err, bytes_small, body_small}
use Rattle.frames.proofs.KindLaws.{Told, told}
use Rattle.frames.proofs.LineLaws.{framed_fits, read_exact, read_good, read_back, checked_sealed}

-- ---- digits

abbrev SomeBad : List ℕ → Type 0
SomeBad l = (i : ℕ) × (i < length l) × (is_digit (get_or l i 0) ≡ false)

first_bad_lem : (l : List ℕ) (x : DigitFault) → first_bad l ≡ Some x → SomeBad l
first_bad_lem l x e = at (ltb (position_or_len (λ b. not (is_digit b)) l) (length l)) refl e where
  at : (d : Bool) → ltb (position_or_len (λ b. not (is_digit b)) l) (length l) ≡ d
      → option_map (λ i. BadByte i (get_or l i 0)) (cond d (Some (position_or_len (λ b. not (is_digit b)) l)) None) ≡ Some x → SomeBad l
  at true p h =
      let inside = ltb-true _ (length l) p in
      (position_or_len (λ b. not (is_digit b)) l, inside, not-true _ (passes_at_first (λ b. not (is_digit b)) l 0 inside))
  at false p h = absurd (some_none (sym h))

bad_count : (n : ℕ) (x : DigitFault) → count_fault n ≡ Some x → (n % 2 ≡ 1) ⊎ (n < 4)
bad_count n x e = at (eqb (n % 2) 0) (ltb n 4) refl refl e where
  at : (a b : Bool) → eqb (n % 2) 0 ≡ a → ltb n 4 ≡ b → cond a (cond b (Some Few) None) (Some Odd) ≡ Some x → (n % 2 ≡ 1) ⊎ (n < 4)
  at true true p q h = inr (ltb-true n 4 q)
  at true false p q h = absurd (some_none (sym h))
  at false b p q h = let odd = eqb-false (n % 2) 0 p in inl (odd_one n odd) where
    odd_one : (n : ℕ) → (n % 2 ≡ 0 → ⊥) → n % 2 ≡ 1
    odd_one n h = omega arith

digits_bad : (t : List ℕ) (x : DigitFault) → digit_fault (line_of t) ≡ Some x → BadDigits t
digits_bad t x e = at (first_bad (line_of t)) refl e where
  count : ((length (line_of t) % 2 ≡ 1) ⊎ (length (line_of t) < 4)) → BadDigits t
  count (inl h) = inr (inl h)
  count (inr h) = inr (inr (inl h))

  at : (o : Option DigitFault) → first_bad (line_of t) ≡ o → option_or o (count_fault (length (line_of t))) ≡ Some x → BadDigits t
  at (Some y) g h = inl (first_bad_lem (line_of t) y g)
  at None g h = count (bad_count (length (line_of t)) x h)

not_bad : (t r : List ℕ) → digit_fault (line_of t) ≡ None → behind t ≡ Some r → BadDigits t → ⊥
not_bad t r d b (inl (i, h, e)) = false≢true (sym e ∙ digit_at (line_of t) i (faultless (line_of t) d).0 h)
not_bad t r d b (inr (inl odd)) = let even = (faultless (line_of t) d).1 in omega arith
not_bad t r d b (inr (inr (inl few))) = let four = (faultless (line_of t) d).2 in omega arith
not_bad t r d b (inr (inr (inr none))) = some_none (sym b ∙ none)

-- ---- the check byte

-- the last byte, and what it is compared with
last_byte : (s : ℕ) (bs : List ℕ) → 1 ≤ length bs → (c : ℕ) × (bs ≡ body_of bs ++ c ∷ []) × (checked_from s bs ≡ eqb c ((s + sum (body_of bs)) % 251))
last_byte s [] h = absurd (omega arith)
last_byte s (c ∷ []) h = (c, refl, ap (λ k. eqb c (k % 251)) (omega arith))
last_byte s (b ∷ c ∷ bs) h =
    let (d, e, f) = last_byte (s + b) (c ∷ bs) (omega arith) in
    let cut = body_cons b c bs in
    let all = ap sum cut ∙ sum-cons b (body_of (c ∷ bs)) in
    (d, ap (λ x. b ∷ x) e ∙ ap (λ x. x ++ d ∷ []) (sym cut), f ∙ ap (λ k. eqb d (k % 251)) (omega arith))

module _ (t : List ℕ) (some : 1 ≤ length (bytes_of (line_of t))) where
  check_wrong : checked_from 0 (bytes_of (line_of t)) ≡ false → WrongCheck t
  check_wrong e =
      let (c, is, test) = last_byte 0 (bytes_of (line_of t)) some in
      (body_of (bytes_of (line_of t)), c, is, λ h. eqb-false c _ (sym test ∙ e) (h ∙ ap (λ k. k % 251) (sym (zero-add (sum (body_of (bytes_of (line_of t))))))))

  check_right : checked_from 0 (bytes_of (line_of t)) ≡ true → WrongCheck t → ⊥
  check_right e (others, check, is, wrong) =
      let (c, is', test) = last_byte 0 (bytes_of (line_of t)) some in
      let same = same_from_push others (body_of (bytes_of (line_of t))) check c (sym is ∙ is') in
      wrong (same.1 ∙ eqb-true c _ (sym test ∙ e) ∙ ap (λ k. k % 251) (zero-add (sum (body_of (bytes_of (line_of t))))) ∙ ap (λ l. sum l % 251) (sym same.0))

-- ---- what reading a text comes to

abbrev result_number : Result (Frame × List ℕ) FrameFault → ℕ
result_number (Ok p) = 0
result_number (Err e) = number_of e

data Outcome (t : List ℕ) : Type 0 where
  bad_digits : result_number (read_frame t) ≡ 1 → BadDigits t → Outcome t
  wrong_check : result_number (read_frame t) ≡ 2 → (BadDigits t → ⊥) → WrongCheck t → Outcome t
  unknown_kind : result_number (read_frame t) ≡ 3 → (BadDigits t → ⊥) → (WrongCheck t → ⊥) → UnknownKind t → Outcome t
  wrong_field : result_number (read_frame t) ≡ 4 → (BadDigits t → ⊥) → (WrongCheck t → ⊥) → (UnknownKind t → ⊥) → WrongField t → Outcome t
  a_frame : result_number (read_frame t) ≡ 0 → (BadDigits t → ⊥) → (WrongCheck t → ⊥) → (UnknownKind t → ⊥) → (WrongField t → ⊥) → Outcome t

-- a line of good digits with a right check byte
module _ (t r : List ℕ) (d : digit_fault (line_of t) ≡ None) (b : behind t ≡ Some r) (right : checked_from 0 (bytes_of (line_of t)) ≡ true) where
  abbrev bytes : List ℕ
  bytes = bytes_of (line_of t)

  read_is : (e : Result Frame FrameFault) → framed bytes ≡ e → read_frame t ≡ with_rest r e
  read_is e f = (λ i. judged (d i) (b i) (f i))

  some_bytes : 2 ≤ length bytes
  some_bytes = let l = length_bytes_of (line_of t) in let four = (faultless (line_of t) d).2 in omega arith

  whole : bytes ≡ sealed (body_of bytes)
  whole = checked_sealed 0 bytes right ∙ ap (λ k. body_of bytes ++ (k % 251) ∷ []) (zero-add (sum (body_of bytes)))

  not_wrong : WrongCheck t → ⊥
  not_wrong = let two = some_bytes in check_right t (omega arith) right

  -- the kind and the fields
  module _ (k : ℕ) (fields : List ℕ) (body : body_of bytes ≡ k ∷ fields) where
    long : length bytes ≡ 2 + length fields
    long = ap length (whole ∙ ap sealed body) ∙ length_push (k ∷ fields) (sum (k ∷ fields) % 251) ∙ omega arith

    kind : get_or bytes 0 0 ≡ k
    kind = ap (λ l. get_or l 0 0) (whole ∙ ap sealed body)

    framed_is : (o : Option Frame) → said k fields ≡ o → framed bytes ≡ in_range o
    framed_is o e = cond-true _ _ _ right ∙ ap parsed body ∙ ap in_range e

    said_what : (o : Option Frame) → said k fields ≡ o → Told k fields o (length_of k) → Outcome t
    said_what None e unknown =
        unknown_kind (ap result_number (read_is (Err Kind) (framed_is None e))) (not_bad t r d b) not_wrong (λ h. unknown (sym (ap length_of kind) ∙ h ∙ ap (λ n. Some n) long))
    said_what (Some f) e (length_is, same, fits) = in_range_lem (makes_record f) refl where
      frame_is : bytes ≡ frame_bytes f
      frame_is = whole ∙ ap sealed body ∙ sym same

      not_unknown : UnknownKind t → ⊥
      not_unknown u = u (ap length_of kind ∙ length_is ∙ ap (λ n. Some n) (sym long))

      in_range_lem : (m : Bool) → makes_record f ≡ m → Outcome t
      in_range_lem false g =
          wrong_field (ap result_number (read_is (Err Field) (framed_is (Some f) e ∙ cond-false _ _ _ g))) (not_bad t r d b) not_wrong not_unknown (f, frame_is, fits, g)
      in_range_lem true g =
          let ok : framed bytes ≡ Ok f = framed_is (Some f) e ∙ cond-true _ _ _ g in
          a_frame (ap result_number (read_is (Ok f) ok)) (not_bad t r d b) not_wrong not_unknown
          (λ (h, h_is, h_fits, h_makes). ok_err (sym ok ∙ ap framed h_is ∙ framed_fits h h_fits ∙ cond-false _ _ _ h_makes))

  checked_right : Outcome t
  checked_right = by_body (body_of bytes) refl where
    by_body : (l : List ℕ) → body_of bytes ≡ l → Outcome t
    by_body [] e = absurd (let two = some_bytes in let one = ap length (whole ∙ ap sealed e) in omega arith)
    by_body (k ∷ fields) e =
        let small = body_small bytes (bytes_small (line_of t) (faultless (line_of t) d).0) in
        let small' : Bytes (k ∷ fields) = rw e at small in
        said_what k fields e (said k fields) refl (told k fields small'.1)

outcome : (t : List ℕ) → Outcome t
outcome t = by_digits (digit_fault (line_of t)) refl (behind t) refl where
  by_check : (r : List ℕ) → digit_fault (line_of t) ≡ None → behind t ≡ Some r → (c : Bool) → checked_from 0 (bytes_of (line_of t)) ≡ c → Outcome t
  by_check r d b true e = checked_right t r d b e
  by_check r d b false e =
      let l = length_bytes_of (line_of t) in
      let four = (faultless (line_of t) d).2 in
      let wrong : framed (bytes_of (line_of t)) ≡ Err Check = cond-false _ _ _ e in
      wrong_check (ap result_number (λ i. judged (d i) (b i) (wrong i))) (not_bad t r d b) (check_wrong t (omega arith) e)

  by_digits : (x : Option DigitFault) → digit_fault (line_of t) ≡ x → (o : Option (List ℕ)) → behind t ≡ o → Outcome t
  by_digits (Some x) d o b = bad_digits (ap (λ y. result_number (judged y (behind t) (framed (bytes_of (line_of t))))) d) (digits_bad t x d)
  by_digits None d None b = bad_digits (λ i. result_number (judged (d i) (b i) (framed (bytes_of (line_of t))))) (inr (inr (inr b)))
  by_digits None d (Some r) b = by_check r d b (checked_from 0 (bytes_of (line_of t))) refl

-- ---- the statement

number_is : (n : ℕ) (t : List ℕ) → Refused n t → result_number (read_frame t) ≡ n
number_is n t (e, is, number) = ap result_number is ∙ number

refused_at : (n : ℕ) (t : List ℕ) → result_number (read_frame t) ≡ suc n → Refused (suc n) t
refused_at n t h = at (read_frame t) refl h where
  at : (x : Result (Frame × List ℕ) FrameFault) → read_frame t ≡ x → result_number x ≡ suc n → Refused (suc n) t
  at (Ok p) e g = absurd (omega arith)
  at (Err x) e g = (x, e, g)

module _ (t : List ℕ) where
  digits_means : Outcome t → Refused 1 t ↔ (BadDigits t)
  digits_means (bad_digits m p) = (λ _. p, λ _. refused_at 0 t m)
  digits_means (wrong_check m n p) = (λ h. absurd (let g = number_is 1 t h in omega arith), λ q. absurd (n q))
  digits_means (unknown_kind m n w p) = (λ h. absurd (let g = number_is 1 t h in omega arith), λ q. absurd (n q))
  digits_means (wrong_field m n w u p) = (λ h. absurd (let g = number_is 1 t h in omega arith), λ q. absurd (n q))
  digits_means (a_frame m n w u f) = (λ h. absurd (let g = number_is 1 t h in omega arith), λ q. absurd (n q))

  check_means : Outcome t → Refused 2 t ↔ ((BadDigits t → ⊥) × WrongCheck t)
  check_means (bad_digits m p) = (λ h. absurd (let g = number_is 2 t h in omega arith), λ q. absurd (q.0 p))
  check_means (wrong_check m n p) = (λ _. (n, p), λ _. refused_at 1 t m)
  check_means (unknown_kind m n w p) = (λ h. absurd (let g = number_is 2 t h in omega arith), λ q. absurd (w q.1))
  check_means (wrong_field m n w u p) = (λ h. absurd (let g = number_is 2 t h in omega arith), λ q. absurd (w q.1))
  check_means (a_frame m n w u f) = (λ h. absurd (let g = number_is 2 t h in omega arith), λ q. absurd (w q.1))

  kind_means : Outcome t → Refused 3 t ↔ ((BadDigits t → ⊥) × (WrongCheck t → ⊥) × UnknownKind t)
  kind_means (bad_digits m p) = (λ h. absurd (let g = number_is 3 t h in omega arith), λ q. absurd (q.0 p))
  kind_means (wrong_check m n p) = (λ h. absurd (let g = number_is 3 t h in omega arith), λ q. absurd (q.1 p))
  kind_means (unknown_kind m n w p) = (λ _. (n, w, p), λ _. refused_at 2 t m)
  kind_means (wrong_field m n w u p) = (λ h. absurd (let g = number_is 3 t h in omega arith), λ q. absurd (u q.2))
  kind_means (a_frame m n w u f) = (λ h. absurd (let g = number_is 3 t h in omega arith), λ q. absurd (u q.2))

  field_means : Outcome t → Refused 4 t ↔ ((BadDigits t → ⊥) × (WrongCheck t → ⊥) × (UnknownKind t → ⊥) × WrongField t)
  field_means (bad_digits m p) = (λ h. absurd (let g = number_is 4 t h in omega arith), λ q. absurd (q.0 p))
  field_means (wrong_check m n p) = (λ h. absurd (let g = number_is 4 t h in omega arith), λ q. absurd (q.1 p))
  field_means (unknown_kind m n w p) = (λ h. absurd (let g = number_is 4 t h in omega arith), λ q. absurd (q.2 p))
  field_means (wrong_field m n w u p) = (λ _. (n, w, u, p), λ _. refused_at 3 t m)
  field_means (a_frame m n w u f) = (λ h. absurd (let g = number_is 4 t h in omega arith), λ q. absurd (f q.3))

-- a line is refused for the first of its faults
pub faults_stand : (t : List ℕ) → FaultsStand t
faults_stand t = record {
  digits = digits_means t (outcome t);
  check = check_means t (outcome t);
  kind = kind_means t (outcome t);
  field = field_means t (outcome t);
  frame = λ f rest. (λ e. (read_exact t f rest e, read_good t f rest e), λ (e, g). ap read_frame e ∙ read_back f rest g);
}
