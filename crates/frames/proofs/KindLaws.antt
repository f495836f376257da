-- What each kind says: fields of its length are those of one frame, whose numbers fit their types.
use Rattle.std.proofs.Common.{◌≡◌, ℕ, ◌+◌, ◌^◌, ◌<◌, ◌≤◌, Bool, true, false, cond, eqb, List, [], ◌∷◌, ◌++◌, length, take, drop, Some, None, Option, sym, refl, ap, ◌∙◌, arith}
use Rattle.std.specs.Option.{option_map}
use Rattle.std.proofs.lemmas.List.{length-take-le, length-drop, take-append-drop}
use Rattle.std.proofs.lemmas.Bool.{eqb-true, eqb-false, cond_both}
use Rattle.literals.specs.declared.condition.Condition.{Condition}
use Rattle.tables.specs.declared.row.RuleRow.TheVariants.{Plain, Constraint, Choice}
use Rattle.frames.specs.declared.frame.Frame.{Frame}
use Rattle.frames.specs.declared.frame.Frame.TheVariants.{Rule, Wish, Alternative, End, Fit}
use Rattle.frames.specs.Frames.{word_of, word_bytes, set_of, set_bytes, condition_of, condition_bytes, sealed, frame_bytes, plain_of, choice_of, rank_step_of, alternative_of, end_of, fit_of, said, SetFits, ConditionFits, FrameFits}
use Rattle.frames.specs.Faults.{length_of}
use Rattle.frames.proofs.WordLaws.{Bytes, word_exact, word_of_lt}
use Rattle.frames.proofs.DigitLaws.{some_none, some_same, take_small, drop_small}

-- ---- words, sets and conditions

word_at : (n : ℕ) (bs : List ℕ) → length bs ≡ n → Bytes bs → word_bytes n (word_of bs) ≡ bs
word_at n bs l s = ap (λ k. word_bytes k (word_of bs)) (sym l) ∙ word_exact bs s

word_below : (n : ℕ) (bs : List ℕ) → length bs ≡ n → Bytes bs → word_of bs < 256 ^ n
word_below n bs l s = let P : ℕ → Type 0 = λ k. word_of bs < 256 ^ k in rw l at (word_of_lt bs s)

set_exact : (bs : List ℕ) → length bs ≡ 16 → Bytes bs → set_bytes (set_of bs) ≡ bs
set_exact bs l s =
    let p = word_at 8 (take 8 bs) (length-take-le 8 bs (omega arith)) (take_small 8 bs s) in
    let m = word_at 8 (drop 8 bs) (length-drop 8 bs ∙ omega arith) (drop_small 8 bs s) in
    (λ i. p i ++ m i) ∙ take-append-drop 8 bs

set_fits : (bs : List ℕ) → length bs ≡ 16 → Bytes bs → SetFits (set_of bs)
set_fits bs l s = (
  word_below 8 (take 8 bs) (length-take-le 8 bs (omega arith)) (take_small 8 bs s),
  word_below 8 (drop 8 bs) (length-drop 8 bs ∙ omega arith) (drop_small 8 bs s),
)

abbrev ConditionTold : List ℕ → Option Condition → Type 0
ConditionTold bs None = length bs ≡ 32 → ⊥
ConditionTold bs (Some c) = (length bs ≡ 32) × (condition_bytes c ≡ bs) × ConditionFits c

condition_told : (bs : List ℕ) → Bytes bs → ConditionTold bs (condition_of bs)
condition_told bs s =
    cond_both (eqb (length bs) 32) (Some (record { wanted = set_of (take 16 bs); absent = set_of (drop 16 bs) })) None (ConditionTold bs)
    (λ e.
    let l = eqb-true (length bs) 32 e in
    let lw = length-take-le 16 bs (omega arith) in
    let la : length (drop 16 bs) ≡ 16 = length-drop 16 bs ∙ omega arith in
    let w = set_exact (take 16 bs) lw (take_small 16 bs s) in
    let a = set_exact (drop 16 bs) la (drop_small 16 bs s) in
    (l, (λ i. w i ++ a i) ∙ take-append-drop 16 bs, (set_fits (take 16 bs) lw (take_small 16 bs s), set_fits (drop 16 bs) la (drop_small 16 bs s))))
    (λ e. eqb-false (length bs) 32 e)

-- ---- frames

-- what a kind of the length n says of fields
abbrev pub Told : ℕ → List ℕ → Option Frame → Option ℕ → Type 0
Told k fields None n = n ≡ Some (2 + length fields) → ⊥
Told k fields (Some f) n = (n ≡ Some (2 + length fields)) × (frame_bytes f ≡ sealed (k ∷ fields)) × FrameFits f

other : (m n : ℕ) → (m ≡ n → ⊥) → ◌≡◌ {A = Option ℕ} (Some m) (Some n) → ⊥
other m n h e = h (some_same e)

plain_with : (code : ℕ) (rest : List ℕ) (o : Option Condition) → code < 256 → ConditionTold rest o → Told 1 (code ∷ rest) (option_map (λ b. Rule (Plain code b)) o) (Some 35)
plain_with code rest None h t = other 35 _ (λ e. t (omega arith))
plain_with code rest (Some b) h (l, e, f) = (ap (λ n. Some n) (omega arith), ap (λ x. sealed (1 ∷ code ∷ x)) e, (h, f))

plain_told : (fields : List ℕ) → Bytes fields → Told 1 fields (plain_of fields) (Some 35)
plain_told [] s = other 35 _ (λ e. omega arith)
plain_told (code ∷ rest) s = plain_with code rest (condition_of rest) s.0 (condition_told rest s.1)

constraint_with : (fields : List ℕ) (o : Option Condition) → ConditionTold fields o → Told 2 fields (option_map (λ b. Rule (Constraint b)) o) (Some 34)
constraint_with fields None t = other 34 _ (λ e. t (omega arith))
constraint_with fields (Some b) (l, e, f) = (ap (λ n. Some n) (omega arith), ap (λ x. sealed (2 ∷ x)) e, f)

choice_with : (least greatest : ℕ) (rest : List ℕ) (o : Option Condition) → least < 256 → greatest < 256 → Bytes rest → ConditionTold (drop 16 rest) o
    → Told 3 (least ∷ greatest ∷ rest) (option_map (λ b. Rule (Choice least greatest (set_of (take 16 rest)) b)) o) (Some 52)
choice_with least greatest rest None h g s t = let l = length-drop 16 rest in other 52 _ (λ e. t (omega arith))
choice_with least greatest rest (Some b) h g s (l, e, f) =
    let ld = length-drop 16 rest in
    let lt = length-take-le 16 rest (omega arith) in
    let head = set_exact (take 16 rest) lt (take_small 16 rest s) in (
      ap (λ n. Some n) (omega arith),
      (λ i. sealed (3 ∷ least ∷ greatest ∷ (head i ++ e i))) ∙ ap (λ x. sealed (3 ∷ least ∷ greatest ∷ x)) (take-append-drop 16 rest),
      (h, g, set_fits (take 16 rest) lt (take_small 16 rest s), f),
    )

choice_told : (fields : List ℕ) → Bytes fields → Told 3 fields (choice_of fields) (Some 52)
choice_told [] s = other 52 _ (λ e. omega arith)
choice_told (least ∷ []) s = other 52 _ (λ e. omega arith)
choice_told (least ∷ greatest ∷ rest) s = choice_with least greatest rest (condition_of (drop 16 rest)) s.0 s.1.0 s.1.1 (condition_told (drop 16 rest) (drop_small 16 rest s.1.1))

rank_told : (fields : List ℕ) → Told 16 fields (rank_step_of fields) (Some 2)
rank_told [] = (refl, refl, tt)
rank_told (b ∷ rest) = other 2 _ (λ e. omega arith)

wish_with : (fields : List ℕ) (o : Option Condition) → ConditionTold fields o → Told 17 fields (option_map Wish o) (Some 34)
wish_with fields None t = other 34 _ (λ e. t (omega arith))
wish_with fields (Some b) (l, e, f) = (ap (λ n. Some n) (omega arith), ap (λ x. sealed (17 ∷ x)) e, f)

alternative_with : (level : ℕ) (rest : List ℕ) (o : Option Condition) → level < 256 → ConditionTold rest o → Told 18 (level ∷ rest) (option_map (λ c. Alternative level c) o) (Some 35)
alternative_with level rest None h t = other 35 _ (λ e. t (omega arith))
alternative_with level rest (Some b) h (l, e, f) = (ap (λ n. Some n) (omega arith), ap (λ x. sealed (18 ∷ level ∷ x)) e, (h, f))

alternative_told : (fields : List ℕ) → Bytes fields → Told 18 fields (alternative_of fields) (Some 35)
alternative_told [] s = other 35 _ (λ e. omega arith)
alternative_told (level ∷ rest) s = alternative_with level rest (condition_of rest) s.0 (condition_told rest s.1)

end_told : (fields : List ℕ) → Bytes fields → Told 32 fields (end_of fields) (Some 4)
end_told fields s =
    cond_both (eqb (length fields) 2) (Some (End (word_of fields))) None (λ o. Told 32 fields o (Some 4))
    (λ e. let l = eqb-true (length fields) 2 e in (ap (λ n. Some n) (omega arith), ap (λ x. sealed (32 ∷ x)) (word_at 2 fields l s), word_below 2 fields l s))
    (λ e. other 4 _ (λ z. eqb-false (length fields) 2 e (omega arith)))

fit_told : (fields : List ℕ) → Bytes fields → Told 48 fields (fit_of fields) (Some 18)
fit_told fields s =
    cond_both (eqb (length fields) 16) (Some (Fit (set_of fields))) None (λ o. Told 48 fields o (Some 18))
    (λ e. let l = eqb-true (length fields) 16 e in (ap (λ n. Some n) (omega arith), ap (λ x. sealed (48 ∷ x)) (set_exact fields l s), set_fits fields l s))
    (λ e. other 18 _ (λ z. eqb-false (length fields) 16 e (omega arith)))

-- a row of the table of kinds, or the rows below it
row : (k j : ℕ) (fields : List ℕ) (x y : Option Frame) (u v : Option ℕ) → Told j fields x u → Told k fields y v → Told k fields (cond (eqb k j) x y) (cond (eqb k j) u v)
row k j fields x y u v here below = at (eqb k j) (eqb-true k j) where
  moved : (o : Option Frame) → k ≡ j → Told j fields o u → Told k fields o u
  moved None e t = t
  moved (Some f) e t = (t.0, t.1 ∙ ap (λ i. sealed (i ∷ fields)) (sym e), t.2)

  at : (b : Bool) → (b ≡ true → k ≡ j) → Told k fields (cond b x y) (cond b u v)
  at true e = moved x (e refl) here
  at false e = below

pub told : (k : ℕ) (fields : List ℕ) → Bytes fields → Told k fields (said k fields) (length_of k)
told k fields s =
    row k 1 fields _ _ _ _ (plain_told fields s)
    (row k 2 fields _ _ _ _ (constraint_with fields (condition_of fields) (condition_told fields s))
    (row k 3 fields _ _ _ _ (choice_told fields s)
    (row k 16 fields _ _ _ _ (rank_told fields)
    (row k 17 fields _ _ _ _ (wish_with fields (condition_of fields) (condition_told fields s))
    (row k 18 fields _ _ _ _ (alternative_told fields s)
    (row k 32 fields _ _ _ _ (end_told fields s)
    (row k 48 fields _ _ _ _ (fit_told fields s) (λ e. some_none (sym e)))))))))

within_52 : (b : Bool) (n m : ℕ) (o : Option ℕ) → n ≤ 52 → (o ≡ Some m → m ≤ 52) → cond b (Some n) o ≡ Some m → m ≤ 52
within_52 true n m o h f e = let s = some_same e in omega arith
within_52 false n m o h f e = f e

-- no kind is longer
pub length_small : (k m : ℕ) → length_of k ≡ Some m → m ≤ 52
length_small k m e =
    within_52 (eqb k 1) 35 m _ (omega arith) (within_52 (eqb k 2) 34 m _ (omega arith) (within_52 (eqb k 3) 52 m _ (omega arith) (within_52 (eqb k 16) 2 m _ (omega arith)
    (within_52 (eqb k 17) 34 m _ (omega arith) (within_52 (eqb k 18) 35 m _ (omega arith) (within_52 (eqb k 32) 4 m _ (omega arith) (within_52 (eqb k 48) 18 m None (omega arith)
    (λ n. absurd (some_none (sym n)))))))))) e
