-- A refusal is what the line that it names shows.
use Rattle.std.proofs.Common.{◌≡◌, ℕ, ◌+◌, ◌<◌, ◌≤◌, Bool, true, false, cond, ltb, List, [], ◌∷◌, ◌++◌, length, Ok, Err, Result, sym, refl, ap, ◌∙◌, subst, inl, inr, arith}
use Rattle.std.specs.List.{All}
use Rattle.std.proofs.lemmas.List.Elements.{All-from_recursion, All-head, All-tail}
use Rattle.std.proofs.lemmas.Bool.{lt-ltb, le-ltb, ltb-true, cond-true, cond-false}
use Rattle.frames.specs.declared.frame.Frame.{Frame}
use Rattle.frames.specs.declared.frame.FrameFault.{FrameFault}
use Rattle.frames.specs.declared.frame.FrameFault.TheVariants.{Digits, Check, Kind, Field}
use Rattle.frames.specs.Faults as faults
use Rattle.frames.specs.Frames.{line_for, read_frame, Good}
use Rattle.frames.proofs.FaultLaws.{faults_stand}
use Rattle.frames.proofs.LineLaws.{read_exact, read_good, read_back}
use Rattle.texts.specs.declared.fault.Fault.{Fault}
use Rattle.texts.specs.declared.fault.Fault.TheVariants as fault
use Rattle.texts.specs.declared.fault.Fault.TheVariants.{Place, Count, TooLong}
use Rattle.texts.specs.declared.seen.TextKind.{TextKind}
use Rattle.texts.specs.Lines.{lines}
use Rattle.texts.specs.Places.{in_place}
use Rattle.texts.specs.Reading.{limit, number_of, refused, counts, read_from, frames_in}
use Rattle.texts.specs.Refusals.{Shows, digits, check, sort, field, missing, misplaced, miscounted, RefusedAt, RefusalsStand}
use Rattle.frames.proofs.DigitLaws.{ok_err, err_same}
use Rattle.texts.proofs.LineLaws.{read_fault, read_misplaced, read_end}
use Rattle.texts.proofs.TurnLaws.{AllGood, Stops, refuses, read_through}

module _ (kind : TextKind) (before : List Frame) (rest : List ℕ) where
  shows_fault : (y : FrameFault) → 0 < length rest → read_frame rest ≡ Err y → Shows kind before rest (number_of (fault.Frame y))
  shows_fault (Digits d) h e = digits h ((faults_stand rest).digits.0 (Digits d, e, refl))
  shows_fault Check h e = let p = (faults_stand rest).check.0 (Check, e, refl) in check h p.0 p.1
  shows_fault Kind h e = let p = (faults_stand rest).kind.0 (Kind, e, refl) in sort h p.0 p.1 p.2
  shows_fault Field h e = let p = (faults_stand rest).field.0 (Field, e, refl) in field h p.0 p.1 p.2 p.3

  -- a good frame that is not admitted
  shows_frame : (f : Frame) (r : List ℕ) (x : Fault) (p c : Bool) → read_frame rest ≡ Ok (f, r) → in_place kind before f ≡ p → counts before f ≡ c
      → ◌≡◌ {A = Result (Unit {0}) Fault} (cond p (cond c (Ok tt) (Err Count)) (Err Place)) (Err x) → Shows kind before rest (number_of x)
  shows_frame f r x true true e i k a = absurd (ok_err a)
  shows_frame f r x true false e i k a = subst (λ (y : Fault). Shows kind before rest (number_of y)) (err_same a) (miscounted f r (read_exact rest f r e) (read_good rest f r e) i k)
  shows_frame f r x false c e i k a = subst (λ (y : Fault). Shows kind before rest (number_of y)) (err_same a) (misplaced f r (read_exact rest f r e) (read_good rest f r e) i)

  shows : (x : Fault) → Stops kind before rest x → Shows kind before rest (number_of x)
  shows x (inl (none, going, is)) = subst (λ (y : Fault). Shows kind before rest (number_of y)) (sym is) (missing none going)
  shows x (inr (inl (y, some, e, is))) = subst (λ (z : Fault). Shows kind before rest (number_of z)) (sym is) (shows_fault y some e)
  shows x (inr (inr (f, r, e, a))) = shows_frame f r x (in_place kind before f) (counts before f) e refl refl a

  abbrev Stopped : ℕ → Type 0
  Stopped n = (x : Fault) × (read_from kind before (lines rest) ≡ refused x (length before + 1)) × (number_of x ≡ n)

  by_fault : (n : ℕ) → 0 < length rest → faults.Refused n rest → Stopped n
  by_fault n h (y, e, is) = (fault.Frame y, read_fault kind before rest y h e, is)

  by_frame : (f : Frame) (later : List ℕ) → rest ≡ line_for f ++ later → Good f → read_frame rest ≡ Ok (f, later)
  by_frame f later e g = ap read_frame e ∙ read_back f later g

  stopped : (n : ℕ) → Shows kind before rest n → Stopped n
  stopped n (digits h bad) = by_fault 1 h ((faults_stand rest).digits.1 bad)
  stopped n (check h good bad) = by_fault 2 h ((faults_stand rest).check.1 (good, bad))
  stopped n (sort h good checked bad) = by_fault 3 h ((faults_stand rest).kind.1 (good, checked, bad))
  stopped n (field h good checked known bad) = by_fault 4 h ((faults_stand rest).field.1 (good, checked, known, bad))
  stopped n (missing none going) = (Place, read_end kind before rest none ∙ cond-false _ _ _ going, refl)
  stopped n (misplaced f later e g out) = (Place, read_misplaced kind before rest f later Place (by_frame f later e g) (cond-false _ _ _ out), refl)
  stopped n (miscounted f later e g within wrong) =
      (Count, read_misplaced kind before rest f later Count (by_frame f later e g) (cond-true _ _ _ within ∙ cond-false _ _ _ wrong), refl)

by_recursion : (fs : List Frame) → All Good fs → AllGood fs
by_recursion [] h = tt
by_recursion (f ∷ fs) h = (All-head Good f fs h, by_recursion fs (All-tail Good f fs h))

module _ (kind : TextKind) (text : List ℕ) where
  judged : length text ≤ limit → frames_in kind text ≡ read_from kind [] (lines text)
  judged h = cond-false _ _ _ (le-ltb limit (length text) h)

  refused_at : length text ≤ limit → (n l : ℕ) → (x : Fault) × (frames_in kind text ≡ refused x l) × (number_of x ≡ n) → RefusedAt kind text n l
  refused_at h n l (x, e, is) =
      let (tail, rest, run, line, stop) = refuses kind [] text (record { fault = x; line = l }) (sym (judged h) ∙ e) in
      (tail, rest, run.0, All-from_recursion Good tail run.1, run.2, line, subst (λ (k : ℕ). Shows kind tail rest k) is (shows kind tail rest x stop))

  at_refused : length text ≤ limit → (n l : ℕ) → RefusedAt kind text n l → (x : Fault) × (frames_in kind text ≡ refused x l) × (number_of x ≡ n)
  at_refused h n l (before, rest, is, good, turn, line, show) =
      let (x, e, number) = stopped kind before rest n show in
      (x, judged h ∙ ap (λ t. read_from kind [] (lines t)) is ∙ read_through kind [] before rest (by_recursion before good) turn ∙ e ∙ ap (refused x) (sym line), number)

  above : (d : Bool) → ltb limit (length text) ≡ d → cond d (refused TooLong 0) (read_from kind [] (lines text)) ≡ refused TooLong 0 → limit < length text
  above true d e = ltb-true limit (length text) d
  above false d e =
      let (tail, rest, run, line, stop) = refuses kind [] text (record { fault = TooLong; line = 0 }) e in absurd (omega (arith, line))

  pub refusals_stand : RefusalsStand kind text
  refusals_stand =
      record {
        too_long = (above (ltb limit (length text)) refl, λ h. cond-true _ _ _ (lt-ltb limit (length text) h));
        at_line = λ h n l. (refused_at h n l, at_refused h n l);
      }
