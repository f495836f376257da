-- An accepted text is that of good frames in turn, and the text of such frames is accepted.
use Rattle.std.proofs.Common.{◌≡◌, ℕ, ◌≤◌, Bool, true, false, cond, ltb, List, [], ◌∷◌, ◌++◌, length, Ok, Err, Result, sym, refl, ap, ◌∙◌, subst}
use Rattle.std.specs.List.{All, AllByRecursion, list_all}
use Rattle.std.proofs.lemmas.List.{append-nil}
use Rattle.std.proofs.lemmas.List.Elements.{All-nil, All-cons, All-head, All-tail}
use Rattle.std.proofs.lemmas.Bool.{and_parts, and_from, ltb-false, le-ltb, cond-true, cond-false}
use Rattle.frames.specs.declared.frame.Frame.{Frame}
use Rattle.frames.specs.Frames.{Good}
use Rattle.texts.specs.declared.fault.Fault.TheVariants.{TooLong}
use Rattle.texts.specs.declared.fault.Refusal.{Refusal}
use Rattle.texts.specs.declared.seen.TextKind.{TextKind}
use Rattle.texts.specs.Lines.{lines}
use Rattle.texts.specs.Places.{ended, in_place}
use Rattle.texts.specs.Reading.{refused, and_then, counts, admitted, read_from, limit, frames_in}
use Rattle.texts.specs.Writing.{text_of}
use Rattle.texts.specs.Turns.{InTurn}
use Rattle.frames.proofs.DigitLaws.{ok_err, ok_same}
use Rattle.texts.proofs.TurnLaws.{AllGood, accepts, read_through}

-- a text of these frames that is accepted
pub record Framed (kind : TextKind) (text : List ℕ) (fs : List Frame) : Type 0 where
  pub short : length text ≤ limit
  pub is : text ≡ text_of fs
  pub good : AllGood fs
  pub turn : InTurn kind [] fs
  pub done : ended fs ≡ true

not_long : (long : Bool) (read : Result (List Frame) Refusal) (fs : List Frame) → cond long (refused TooLong 0) read ≡ Ok fs → (long ≡ false) × (read ≡ Ok fs)
not_long true read fs e = absurd (ok_err (sym e))
not_long false read fs e = (refl, e)

pub framed : (kind : TextKind) (text : List ℕ) (fs : List Frame) → frames_in kind text ≡ Ok fs → Framed kind text fs
framed kind text fs e =
    let p = not_long (ltb limit (length text)) (read_from kind [] (lines text)) fs e in
    let (tail, is, run, done) = accepts kind [] text fs p.1 in
    let P : List Frame → Type 0 = λ x. Framed kind text x in
    subst P (sym is)
    (record {
      short = ltb-false limit (length text) p.0;
      is = run.0 ∙ append-nil (text_of tail);
      good = run.1;
      turn = run.2;
      done = ap ended (sym is) ∙ done;
    })

pub frames_back : (kind : TextKind) (fs : List Frame) → AllGood fs → InTurn kind [] fs → ended fs ≡ true → length (text_of fs) ≤ limit → frames_in kind (text_of fs) ≡ Ok fs
frames_back kind fs good turn done h =
    cond-false _ _ _ (le-ltb limit (length (text_of fs)) h) ∙ ap (λ t. read_from kind [] (lines t)) (sym (append-nil (text_of fs))) ∙ read_through kind [] fs [] good turn ∙ cond-true _ _ _ done

-- what was made of a result
pub made_from : {A B : Type 0} (r : Result A Refusal) (make : A → B) (y : B) → and_then r (λ x. Ok (make x)) ≡ Ok y → (x : A) × (r ≡ Ok x) × (make x ≡ y)
made_from (Ok x) make y e = (x, refl, ok_same e)
made_from (Err z) make y e = absurd (ok_err (sym e))

-- a frame in its place that counts is admitted
pub admits : (kind : TextKind) (before : List Frame) (f : Frame) → in_place kind before f ≡ true → counts before f ≡ true → admitted kind before f ≡ Ok tt
admits kind before f p c = cond-true _ _ _ p ∙ cond-true _ _ _ c

pub good_last : (fs : List Frame) (f : Frame) → AllGood (fs ++ f ∷ []) → Good f
good_last [] f g = g.0
good_last (x ∷ fs) f g = good_last fs f g.1

-- rows of numbers that fit, each of which passes a test
module _ {A : Type 0} (P : A → Type 0) (p : A → Bool) where
  pub all_passed : (xs : List A) → All P xs → list_all p xs ≡ true → AllByRecursion (λ x. P x × (p x ≡ true)) xs
  all_passed [] h e = tt
  all_passed (x ∷ xs) h e = let q = and_parts (p x) (list_all p xs) e in ((All-head P x xs h, q.0), all_passed xs (All-tail P x xs h) q.1)

  pub passed_all : (xs : List A) → AllByRecursion (λ x. P x × (p x ≡ true)) xs → All P xs × (list_all p xs ≡ true)
  passed_all [] h = (All-nil P, refl)
  passed_all (x ∷ xs) h = let q = passed_all xs h.1 in (All-cons P x xs h.0.0 q.0, and_from (p x) (list_all p xs) h.0.1 q.1)
