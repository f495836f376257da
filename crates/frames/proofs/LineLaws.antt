-- An accepted line is the line of its frame, and the line of a good frame is accepted.
use Rattle.std.proofs.Common.{◌≡◌, ℕ, suc, sum, ◌-◌, ◌+◌, ◌%◌, ◌^◌, ◌<◌, ◌≤◌, Bool, true, false, cond, eqb, List, [], ◌∷◌, ◌++◌, length, Some, None, Ok, Err, Option, Result, sym, refl, ap, ◌∙◌, mod-eq_of_lt, zero-add, arith}
use Rattle.std.specs.List.{list_all}
use Rattle.std.specs.Option.{option_map}
use Rattle.std.proofs.lemmas.List.{append_assoc, length_push, take_at}
use Rattle.std.proofs.lemmas.Bool.{eqb-true, eq-eqb, cond-true, false≢true}
use Rattle.literals.specs.declared.literal_set.LiteralSet.{LiteralSet}
use Rattle.literals.specs.declared.condition.Condition.{Condition}
use Rattle.tables.specs.declared.row.RuleRow.TheVariants.{Plain, Constraint, Choice}
use Rattle.frames.specs.declared.frame.DigitFault.{DigitFault}
use Rattle.frames.specs.declared.frame.Frame.{Frame}
use Rattle.frames.specs.declared.frame.Frame.TheVariants.{Rule, RankStep, Wish, Alternative, End, Fit}
use Rattle.frames.specs.declared.frame.FrameFault.{FrameFault}
use Rattle.frames.specs.declared.frame.FrameFault.TheVariants.{Check, Field}
use Rattle.frames.specs.Digits.{is_digit, hex_of, bytes_of, digit_fault}
use Rattle.frames.specs.Frames.{word_of, word_bytes, set_of, set_bytes, condition_of, condition_bytes, sealed, frame_bytes, line_for, said, makes_record, in_range, parsed, checked_from, body_of, framed, line_of, behind, judged, read_frame, SetFits, ConditionFits, FrameFits, Good}
use Rattle.frames.specs.Faults.{length_of}
use Rattle.frames.proofs.HexLaws.{faultless}
use Rattle.frames.proofs.WordLaws.{Bytes, sum-cons, body_cons, bytes_append, word_bytes_bytes, word_of_bytes}
use Rattle.frames.proofs.DigitLaws.{some_none, some_same, ok_err, ok_same, hex_back, bytes_small, body_small, hex_good, bytes_back, good_line, line_back, behind_back}
use Rattle.frames.proofs.KindLaws.{Told, told}

-- ---- what is read is the frame's

range_ok : (f g : Frame) (b : Bool) → makes_record g ≡ b → ◌≡◌ {A = Result Frame FrameFault} (cond b (Ok g) (Err Field)) (Ok f) → (g ≡ f) × (makes_record g ≡ true)
range_ok f g true m e = (ok_same e, m)
range_ok f g false m e = absurd (ok_err (sym e))

told_ok : (k : ℕ) (fields : List ℕ) (f : Frame) (o : Option Frame) (n : Option ℕ) → Told k fields o n → in_range o ≡ Ok f → (frame_bytes f ≡ sealed (k ∷ fields)) × Good f
told_ok k fields f None n t e = absurd (ok_err (sym e))
told_ok k fields f (Some g) n t e =
    let p = range_ok f g (makes_record g) refl e in
    let fits = rw p.0 at t.2 in
    (ap frame_bytes (sym p.0) ∙ t.1, (fits, ap makes_record (sym p.0) ∙ p.1))

parsed_exact : (body : List ℕ) (f : Frame) → Bytes body → parsed body ≡ Ok f → (frame_bytes f ≡ sealed body) × Good f
parsed_exact [] f s h = absurd (ok_err (sym h))
parsed_exact (k ∷ fields) f s h = told_ok k fields f (said k fields) (length_of k) (told k fields s.1) h

pub checked_sealed : (s : ℕ) (bs : List ℕ) → checked_from s bs ≡ true → bs ≡ body_of bs ++ ((s + sum (body_of bs)) % 251) ∷ []
checked_sealed s [] e = absurd (false≢true e)
checked_sealed s (c ∷ []) e = ap (λ x. x ∷ []) (eqb-true c (s % 251) e ∙ ap (λ k. k % 251) (omega arith))
checked_sealed s (b ∷ c ∷ bs) e =
    let cut = body_cons b c bs in
    let all = ap sum cut ∙ sum-cons b (body_of (c ∷ bs)) in
    ap (λ t. b ∷ t) (checked_sealed (s + b) (c ∷ bs) e) ∙ ap (λ k. b ∷ (body_of (c ∷ bs) ++ (k % 251) ∷ [])) (omega arith)
    ∙ ap (λ l. l ++ ((s + sum (body_of (b ∷ c ∷ bs))) % 251) ∷ []) (sym cut)

check_ok : (d : Bool) (r : Result Frame FrameFault) (f : Frame) → cond d r (Err Check) ≡ Ok f → (d ≡ true) × (r ≡ Ok f)
check_ok true r f h = (refl, h)
check_ok false r f h = absurd (ok_err (sym h))

pub framed_exact : (bs : List ℕ) (f : Frame) → Bytes bs → framed bs ≡ Ok f → (frame_bytes f ≡ bs) × Good f
framed_exact bs f s h =
    let p = check_ok (checked_from 0 bs) (parsed (body_of bs)) f h in
    let q = parsed_exact (body_of bs) f (body_small bs s) p.1 in
    (q.0 ∙ ap (λ k. body_of bs ++ (k % 251) ∷ []) (sym (zero-add (sum (body_of bs)))) ∙ sym (checked_sealed 0 bs p.0), q.1)

-- ---- lines in a text

shorter_at : (d : Bool) (t r : List ℕ) → (behind t ≡ Some r → length r < length t) → cond d (Some t) (behind t) ≡ Some r → length r < suc (length t)
shorter_at true t r ih e = let s = ap length (some_same e) in omega arith
shorter_at false t r ih e = let s = ih e in omega arith

pub behind_shorter : (t r : List ℕ) → behind t ≡ Some r → length r < length t
behind_shorter [] r e = absurd (some_none (sym e))
behind_shorter (b ∷ t) r e = shorter_at (eqb b 10) t r (behind_shorter t r) e

split_at : (d : Bool) (b : ℕ) (t r : List ℕ) → (d ≡ true → b ≡ 10) → (behind t ≡ Some r → t ≡ line_of t ++ 10 ∷ r) → cond d (Some t) (behind t) ≡ Some r → b ∷ t ≡ cond d [] (b ∷ line_of t) ++ 10 ∷ r
split_at true b t r ten ih e = let b_is = ten refl in let t_is = some_same e in (λ i. b_is i ∷ t_is i)
split_at false b t r ten ih e = ap (λ x. b ∷ x) (ih e)

-- a text is its first line, the line feed, and what stands behind
pub line_split : (t r : List ℕ) → behind t ≡ Some r → t ≡ line_of t ++ 10 ∷ r
line_split [] r e = absurd (some_none (sym e))
line_split (b ∷ t) r e = split_at (eqb b 10) b t r (eqb-true b 10) (line_split t r) e

judged_ok : (d : Option DigitFault) (o : Option (List ℕ)) (b : Result Frame FrameFault) (f : Frame) (r : List ℕ) → judged d o b ≡ Ok (f, r) → (d ≡ None) × (o ≡ Some r) × (b ≡ Ok f)
judged_ok (Some d) o b f r e = absurd (ok_err (sym e))
judged_ok None None b f r e = absurd (ok_err (sym e))
judged_ok None (Some rest) (Ok g) f r e = let p = ok_same e in (refl, ap (λ x. Some x.1) p, ap (λ x. Ok x.0) p)
judged_ok None (Some rest) (Err x) f r e = absurd (ok_err (sym e))

-- what is read stands at the front of the text, and is good
module _ (t : List ℕ) (f : Frame) (r : List ℕ) (e : read_frame t ≡ Ok (f, r)) where
  parts : (digit_fault (line_of t) ≡ None) × (behind t ≡ Some r) × (framed (bytes_of (line_of t)) ≡ Ok f)
  parts = judged_ok (digit_fault (line_of t)) (behind t) (framed (bytes_of (line_of t))) f r e

  digits : (list_all is_digit (line_of t) ≡ true) × (length (line_of t) % 2 ≡ 0) × (4 ≤ length (line_of t))
  digits = faultless (line_of t) parts.0

  exact : (frame_bytes f ≡ bytes_of (line_of t)) × Good f
  exact = framed_exact (bytes_of (line_of t)) f (bytes_small (line_of t) digits.0) parts.2

  pub read_exact : t ≡ line_for f ++ r
  read_exact =
      line_split t r parts.1 ∙ ap (λ l. l ++ 10 ∷ r) (sym (ap hex_of exact.0 ∙ hex_back (line_of t) digits.0 digits.1))
      ∙ sym (append_assoc (hex_of (frame_bytes f)) (10 ∷ []) r)

  pub read_good : Good f
  read_good = exact.1

-- ---- the line of a frame

body_back : (body : List ℕ) (c : ℕ) → body_of (body ++ c ∷ []) ≡ body
body_back body c = let long = length_push body c in take_at body (c ∷ []) (length (body ++ c ∷ []) - 1) (omega arith)

sealed_checked : (s : ℕ) (body : List ℕ) → checked_from s (body ++ ((s + sum body) % 251) ∷ []) ≡ true
sealed_checked s [] = eq-eqb _ _ (ap (λ k. k % 251) (omega arith))
sealed_checked s (b ∷ []) = eq-eqb _ _ (ap (λ k. k % 251) (omega arith))
sealed_checked s (b ∷ d ∷ body) =
    let all = sum-cons b (d ∷ body) in
    ap (λ k. checked_from (s + b) (d ∷ (body ++ (k % 251) ∷ []))) (omega arith) ∙ sealed_checked (s + b) (d ∷ body)

framed_sealed : (body : List ℕ) → framed (sealed body) ≡ parsed body
framed_sealed body =
    cond-true _ _ _ (ap (λ k. checked_from 0 (body ++ (k % 251) ∷ [])) (sym (zero-add (sum body))) ∙ sealed_checked 0 body) ∙ ap parsed (body_back body (sum body % 251))

total_small : (n : ℕ) → n % 251 < 256
total_small n = omega arith

sealed_bytes : (body : List ℕ) → Bytes body → Bytes (sealed body)
sealed_bytes body s = bytes_append body (sum body % 251 ∷ []) s (total_small (sum body), tt)

set_bytes_lem : (s : LiteralSet) → Bytes (set_bytes s)
set_bytes_lem s = bytes_append (word_bytes 8 s.plus) (word_bytes 8 s.minus) (word_bytes_bytes 8 s.plus) (word_bytes_bytes 8 s.minus)

condition_bytes_lem : (c : Condition) → Bytes (condition_bytes c)
condition_bytes_lem c = bytes_append (set_bytes c.wanted) (set_bytes c.absent) (set_bytes_lem c.wanted) (set_bytes_lem c.absent)

pub frame_bytes_lem : (f : Frame) → FrameFits f → Bytes (frame_bytes f)
frame_bytes_lem (Rule (Plain code body)) g = sealed_bytes (1 ∷ code ∷ condition_bytes body) (omega arith, (g.0, condition_bytes_lem body))
frame_bytes_lem (Rule (Constraint body)) g = sealed_bytes (2 ∷ condition_bytes body) (omega arith, condition_bytes_lem body)
frame_bytes_lem (Rule (Choice least greatest head body)) g =
    sealed_bytes (3 ∷ least ∷ greatest ∷ (set_bytes head ++ condition_bytes body)) (omega arith, (g.0, (g.1, bytes_append (set_bytes head) (condition_bytes body) (set_bytes_lem head) (condition_bytes_lem body))))
frame_bytes_lem RankStep g = sealed_bytes (16 ∷ []) (omega arith, tt)
frame_bytes_lem (Wish body) g = sealed_bytes (17 ∷ condition_bytes body) (omega arith, condition_bytes_lem body)
frame_bytes_lem (Alternative level condition) g = sealed_bytes (18 ∷ level ∷ condition_bytes condition) (omega arith, (g.0, condition_bytes_lem condition))
frame_bytes_lem (End n) g = sealed_bytes (32 ∷ word_bytes 2 n) (omega arith, word_bytes_bytes 2 n)
frame_bytes_lem (Fit set) g = sealed_bytes (48 ∷ set_bytes set) (omega arith, set_bytes_lem set)

pub frame_long : (f : Frame) → 2 ≤ length (frame_bytes f)
frame_long (Rule (Plain code body)) = omega arith
frame_long (Rule (Constraint body)) = omega arith
frame_long (Rule (Choice least greatest head body)) = omega arith
frame_long RankStep = omega arith
frame_long (Wish body) = omega arith
frame_long (Alternative level condition) = omega arith
frame_long (End n) = omega arith
frame_long (Fit set) = omega arith

word_back : (n w : ℕ) → w < 256 ^ n → word_of (word_bytes n w) ≡ w
word_back n w h = word_of_bytes n w ∙ mod-eq_of_lt h

set_back : (s : LiteralSet) → SetFits s → set_of (set_bytes s) ≡ s
set_back s g = let p = word_back 8 s.plus g.0 in let m = word_back 8 s.minus g.1 in λ i. record { plus = p i; minus = m i }

condition_back : (c : Condition) → ConditionFits c → condition_of (condition_bytes c) ≡ Some c
condition_back c g = let w = set_back c.wanted g.0 in let a = set_back c.absent g.1 in λ i. Some (record { wanted = w i; absent = a i })

-- only its fields can refuse a frame whose numbers fit their types
pub framed_fits : (f : Frame) → FrameFits f → framed (frame_bytes f) ≡ in_range (Some f)
framed_fits (Rule (Plain code body)) g = framed_sealed (1 ∷ code ∷ condition_bytes body) ∙ ap (λ o. in_range (option_map (λ b. Rule (Plain code b)) o)) (condition_back body g.1)
framed_fits (Rule (Constraint body)) g = framed_sealed (2 ∷ condition_bytes body) ∙ ap (λ o. in_range (option_map (λ b. Rule (Constraint b)) o)) (condition_back body g)
framed_fits (Rule (Choice least greatest head body)) g =
    framed_sealed (3 ∷ least ∷ greatest ∷ (set_bytes head ++ condition_bytes body)) ∙ ap (λ o. in_range (option_map (λ b. Rule (Choice least greatest (set_of (set_bytes head)) b)) o)) (condition_back body g.3)
    ∙ ap (λ s. in_range (Some (Rule (Choice least greatest s body)))) (set_back head g.2)
framed_fits RankStep g = framed_sealed (16 ∷ [])
framed_fits (Wish body) g = framed_sealed (17 ∷ condition_bytes body) ∙ ap (λ o. in_range (option_map Wish o)) (condition_back body g)
framed_fits (Alternative level condition) g = framed_sealed (18 ∷ level ∷ condition_bytes condition) ∙ ap (λ o. in_range (option_map (λ c. Alternative level c) o)) (condition_back condition g.1)
framed_fits (End n) g = framed_sealed (32 ∷ word_bytes 2 n) ∙ ap (λ k. in_range (Some (End k))) (word_back 2 n g)
framed_fits (Fit set) g = framed_sealed (48 ∷ set_bytes set) ∙ ap (λ s. in_range (Some (Fit s))) (set_back set g)

pub framed_back : (f : Frame) → Good f → framed (frame_bytes f) ≡ Ok f
framed_back f g = framed_fits f g.0 ∙ cond-true _ _ _ g.1

-- the line of a good frame is read as that frame
pub read_back : (f : Frame) (rest : List ℕ) → Good f → read_frame (line_for f ++ rest) ≡ Ok (f, rest)
read_back f rest g =
    let bytes = frame_bytes f in
    let small = frame_bytes_lem f g.0 in
    let digits = hex_good bytes small in
    let text = hex_of bytes ++ 10 ∷ rest in
    ap read_frame (append_assoc (hex_of bytes) (10 ∷ []) rest)
    ∙ ap (λ l. judged (digit_fault l) (behind text) (framed (bytes_of l))) (line_back (hex_of bytes) rest digits)
    ∙ ap (λ d. judged d (behind text) (framed (bytes_of (hex_of bytes)))) (good_line bytes small (frame_long f))
    ∙ ap (λ b. judged None b (framed (bytes_of (hex_of bytes)))) (behind_back (hex_of bytes) rest digits)
    ∙ ap (λ b. judged None (Some rest) (framed b)) (bytes_back bytes small) ∙ ap (judged None (Some rest)) (framed_back f g)
