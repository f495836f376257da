-- Laws of the reading of frames.
use Rattle.std.proofs.Common.{◌≡◌, ℕ, zero, suc, ◌+◌, ◌-◌, ◌*◌, ◌%◌, ◌<◌, ◌≤◌, ◌≢◌, add-one, true, eqb, List, [], ◌∷◌, length, get_or, take, drop, Some, None, Err, Option, sym, refl, ap, ◌∙◌, arith, length-drop, length-take}
use Rattle.std.proofs.lemmas.List.{take_all, take-take, drop-take, drop-drop}
use Rattle.std.proofs.lemmas.Bool.{cond-true, cond-false, eq-eqb, ne_eqb, eqb-true, eqb-false}
use Rattle.std.specs.List.{position}
use Rattle.std.proofs.lemmas.List.Quantifiers.{position-Some}
use Rattle.std.proofs.lemmas.List.Sums.{fails_before_first}
use Rattle.literals.specs.declared.literal_set.LiteralSet.{LiteralSet}
use Rattle.frames.specs.declared.frame.Frame.{Frame}
use Rattle.frames.specs.declared.frame.FrameFault.TheVariants.{Kind}
use Rattle.frames.specs.Digits.{value_of, bytes_of}
use Rattle.frames.proofs.HexLaws.{none_found}
use Rattle.frames.proofs.WordLaws.{Bytes}
use Rattle.frames.proofs.DigitLaws.{body_small}
use Rattle.frames.proofs.KindLaws.{Told, told, length_small}
use Rattle.frames.specs.Faults.{length_of}
use Rattle.frames.specs.Frames.{word_of, set_of, condition_of, said, in_range, parsed, checked_from, body_of, framed, line_of, behind}

-- ---- fields

-- two words, the second from what the first left
pub two_words : (bs r₁ r₂ : List ℕ) (p m : ℕ) → p ≡ word_of (take 8 bs) → r₁ ≡ drop 8 bs → 8 ≤ length r₁ → m ≡ word_of (take 8 r₁) → r₂ ≡ drop 8 r₁
    → (16 ≤ length bs) × (◌≡◌ {A = LiteralSet} (record { plus = p; minus = m }) (set_of (take 16 bs))) × (r₂ ≡ drop 16 bs)
two_words bs r₁ r₂ p m ep e₁ h em e₂ =
    let long : length r₁ ≡ length bs - 8 = ap length e₁ ∙ length-drop 8 bs in
    let plus : p ≡ word_of (take 8 (take 16 bs)) = ep ∙ ap word_of (sym (take-take 8 16 bs (omega arith))) in
    let minus : m ≡ word_of (drop 8 (take 16 bs)) = em ∙ ap (λ r. word_of (take 8 r)) e₁ ∙ ap word_of (sym (drop-take 8 8 bs)) in
    (omega arith, λ i. record { plus = plus i; minus = minus i }, e₂ ∙ ap (drop 8) e₁ ∙ drop-drop 8 8 bs)

-- two sets, the second from what the first left
module _ (bs r₁ r₂ : List ℕ) (e₁ : r₁ ≡ drop 16 bs) (h : 16 ≤ length r₁) (e₂ : r₂ ≡ drop 16 r₁) where
  long : length r₁ ≡ length bs - 16
  long = ap length e₁ ∙ length-drop 16 bs

  left : length r₂ ≡ length r₁ - 16
  left = ap length e₂ ∙ length-drop 16 r₁

  pub condition_none : (length r₂ ≡ 0 → ⊥) → None ≡ condition_of bs
  condition_none z = let l = long in let r = left in sym (cond-false _ _ _ (ne_eqb (length bs) 32 (λ e. z (omega arith))))

  pub condition_some : (w a : LiteralSet) → length r₂ ≡ 0 → w ≡ set_of (take 16 bs) → a ≡ set_of (take 16 r₁) → Some (record { wanted = w; absent = a }) ≡ condition_of bs
  condition_some w a z ew ea =
      let l = long in
      let r = left in
      let ea' : a ≡ set_of (drop 16 bs) = ea ∙ ap set_of (take_all 16 r₁ (omega arith) ∙ e₁) in
      (λ i. Some (record { wanted = ew i; absent = ea' i })) ∙ sym (cond-true _ _ _ (eq-eqb (length bs) 32 (omega arith)))

-- ---- bytes and lines

-- the sum counts only modulo 251
pub checked_from_mod : (s t : ℕ) (bs : List ℕ) → s % 251 ≡ t % 251 → checked_from s bs ≡ checked_from t bs
checked_from_mod s t [] e = refl
checked_from_mod s t (c ∷ []) e = ap (eqb c) e
checked_from_mod s t (b ∷ c ∷ bs) e = checked_from_mod (s + b) (t + b) (c ∷ bs) (omega arith)

-- one byte more
pub checked_more : (rest : List ℕ) (sum : ℕ) → 2 ≤ length rest → 2 ≤ length rest - 2 → checked_from sum (bytes_of rest) ≡ checked_from ((sum + (value_of (get_or rest 0 0) * 16 + value_of (get_or rest 1 0))) % 251) (bytes_of (drop 2 rest))
checked_more [] sum h g = absurd (omega arith)
checked_more (x ∷ []) sum h g = absurd (omega arith)
checked_more (x ∷ y ∷ []) sum h g = absurd (omega arith)
checked_more (x ∷ y ∷ z ∷ []) sum h g = absurd (omega arith)
checked_more (x ∷ y ∷ z ∷ u ∷ r) sum h g = checked_from_mod _ _ (bytes_of (z ∷ u ∷ r)) (omega arith)

-- no kind is so long
long_none : (k : ℕ) (fields : List ℕ) (o : Option Frame) → 50 < length fields → Told k fields o (length_of k) → in_range o ≡ Err Kind
long_none k fields None h t = refl
long_none k fields (Some f) h t = absurd (let l = length_small k (2 + length fields) t.0 in omega arith)

parsed_long : (body : List ℕ) → 51 < length body → Bytes body → parsed body ≡ Err Kind
parsed_long [] h s = absurd (omega arith)
parsed_long (k ∷ fields) h s = long_none k fields (said k fields) (omega arith) (told k fields s.1)

pub framed_long : (bs : List ℕ) → 52 < length bs → Bytes bs → checked_from 0 bs ≡ true → framed bs ≡ Err Kind
framed_long bs h s e = cond-true _ _ _ e ∙ parsed_long (body_of bs) (rw length-take (omega arith)) (body_small bs s)

-- the text up to its first line feed
line_at : (t : List ℕ) (i : ℕ) → i < length t → get_or t i 0 ≡ 10 → ((k : ℕ) → k < i → get_or t k 0 ≢ 10) → (line_of t ≡ take i t) × (behind t ≡ Some (drop (suc i) t))
line_at [] i h e n = absurd (omega arith)
line_at (b ∷ t) zero h e n = let ten = eq-eqb b 10 e in (cond-true _ _ _ ten, cond-true _ _ _ ten)
line_at (b ∷ t) (suc i) h e n =
    let p = line_at t i (omega arith) e (λ k g. n (suc k) (omega arith)) in
    let other = ne_eqb b 10 (n 0 (omega arith)) in
    (cond-false _ _ _ other ∙ ap (λ l. b ∷ l) p.0, cond-false _ _ _ other ∙ p.1)

line_all : (t : List ℕ) → ((k : ℕ) → k < length t → get_or t k 0 ≢ 10) → (line_of t ≡ t) × (behind t ≡ None)
line_all [] n = (refl, refl)
line_all (b ∷ t) n =
    let p = line_all t (λ k g. n (suc k) (omega arith)) in
    let other = ne_eqb b 10 (n 0 (omega arith)) in
    (cond-false _ _ _ other ∙ ap (λ l. b ∷ l) p.0, cond-false _ _ _ other ∙ p.1)

pub feed_some : (t : List ℕ) (i : ℕ) → position (λ b. eqb b 10) t ≡ Some i → (line_of t ≡ take i t) × (behind t ≡ Some (drop (i + 1) t))
feed_some t i e =
    let p = position-Some (λ b. eqb b 10) t i 0 e in
    rw add-one (line_at t i p.0 (eqb-true _ _ p.1) (λ k h. eqb-false _ _ (p.2 k h)))

pub feed_none : (t : List ℕ) → position (λ b. eqb b 10) t ≡ None → (line_of t ≡ t) × (behind t ≡ None)
feed_none t e = line_all t (λ k h. eqb-false _ _ (fails_before_first (λ b. eqb b 10) t k 0 (let n = none_found _ (length t) e in omega arith)))
