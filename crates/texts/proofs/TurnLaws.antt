-- An accepted text is the text of frames that stand in turn, and a refused one is such a text up to the line that shows the fault.
use Rattle.std.proofs.Common.{◌≡◌, ℕ, zero, suc, ◌+◌, ◌<◌, Bool, true, false, cond, ◌⊎◌, List, [], ◌∷◌, ◌++◌, length, Ok, Err, Result, sym, refl, ap, ◌∙◌, subst, inl, inr, arith}
use Rattle.std.specs.List.{AllByRecursion}
use Rattle.std.proofs.lemmas.List.{append_assoc, append-nil}
use Rattle.frames.specs.declared.frame.Frame.{Frame}
use Rattle.frames.specs.declared.frame.FrameFault.{FrameFault}
use Rattle.frames.specs.Frames.{line_for, read_frame, Good}
use Rattle.frames.proofs.LineLaws.{read_exact, read_good, read_back}
use Rattle.texts.specs.declared.fault.Fault.{Fault}
use Rattle.texts.specs.declared.fault.Fault.TheVariants as fault
use Rattle.texts.specs.declared.fault.Fault.TheVariants.{Place}
use Rattle.texts.specs.declared.fault.Refusal.{Refusal}
use Rattle.texts.specs.declared.seen.TextKind.{TextKind}
use Rattle.texts.specs.Lines.{lines}
use Rattle.texts.specs.Places.{ended}
use Rattle.texts.specs.Reading.{refused, admitted, read_from}
use Rattle.texts.specs.Writing.{text_of}
use Rattle.texts.specs.Turns.{InTurn}
use Rattle.frames.proofs.DigitLaws.{ok_err, ok_same, err_same}
use Rattle.texts.proofs.LineLaws.{read_more, read_misplaced, read_fault, read_shorter}

-- each frame is one that a line gives
abbrev pub AllGood : List Frame → Type 0
AllGood fs = AllByRecursion Good fs

-- a line that shows a fault behind these frames
abbrev pub Stops : TextKind → List Frame → List ℕ → Fault → Type 0
Stops kind before rest x =
    ((length rest ≡ 0) × (ended before ≡ false) × (x ≡ Place)) ⊎ (((y : FrameFault) × (0 < length rest) × (read_frame rest ≡ Err y) × (x ≡ fault.Frame y))
    ⊎ ((f : Frame) × (r : List ℕ) × (read_frame rest ≡ Ok (f, r)) × (admitted kind before f ≡ Err x)))

-- the text goes on, behind these frames, with frames in turn
abbrev pub Runs : TextKind → List Frame → List ℕ → List Frame → List ℕ → Type 0
Runs kind before t tail rest = (t ≡ text_of tail ++ rest) × AllGood tail × InTurn kind before tail

abbrev pub Accepted : TextKind → List Frame → List ℕ → List Frame → Type 0
Accepted kind before t fs = (tail : List Frame) × (fs ≡ before ++ tail) × Runs kind before t tail [] × (ended fs ≡ true)

abbrev pub Refused : TextKind → List Frame → List ℕ → Refusal → Type 0
Refused kind before t e =
    (tail : List Frame) × (rest : List ℕ) × Runs kind before t tail rest × (e.line ≡ length (before ++ tail) + 1) × Stops kind (before ++ tail) rest e.fault

module _ (kind : TextKind) where
  longer_run : (before tail : List Frame) (t r rest : List ℕ) (f : Frame) → read_frame t ≡ Ok (f, r) → admitted kind before f ≡ Ok tt → Runs kind (before ++ f ∷ []) r tail rest → Runs kind before t (f ∷ tail) rest
  longer_run before tail t r rest f e a p =
      (read_exact t f r e ∙ ap (λ x. line_for f ++ x) p.0 ∙ sym (append_assoc (line_for f) (text_of tail) rest), (read_good t f r e, p.1), (a, p.2))

  onward : (before tail : List Frame) (f : Frame) → (before ++ f ∷ []) ++ tail ≡ before ++ f ∷ tail
  onward before tail f = append_assoc before (f ∷ []) tail

  at_end : (before : List Frame) (d : Bool) (fs : List Frame) → ended before ≡ d → cond d (Ok before) (refused Place (length before + 1)) ≡ Ok fs → (fs ≡ before) × (ended before ≡ true)
  at_end before true fs d e = (sym (ok_same e), d)
  at_end before false fs d e = absurd (ok_err (sym e))

  abbrev Accepts : ℕ → Type 0
  Accepts n = (before : List Frame) (t : List ℕ) (fs : List Frame) → length t < n → read_from kind before (lines t) ≡ Ok fs → Accepted kind before t fs

  accept_placed : (n : ℕ) → Accepts n → (before : List Frame) (t r : List ℕ) (f : Frame) (fs : List Frame) (a : Result (Unit {0}) Fault) → length t < suc n → read_frame t ≡ Ok (f, r) → admitted kind before f ≡ a
      → read_from kind before (lines t) ≡ Ok fs → Accepted kind before t fs
  accept_placed n ih before t r f fs (Err x) h s a e = absurd (ok_err (sym e ∙ read_misplaced kind before t f r x s a))
  accept_placed n ih before t r f fs (Ok u) h s a e =
      let short = read_shorter t f r s in
      let p = ih (before ++ f ∷ []) r fs (omega arith) (sym (read_more kind before t f r s a) ∙ e) in
      (f ∷ p.0, p.1 ∙ onward before p.0 f, longer_run before p.0 t r [] f s a p.2, p.3)

  accept_read : (n : ℕ) → Accepts n → (before : List Frame) (t : List ℕ) (fs : List Frame) (s : Result (Frame × List ℕ) FrameFault) → length t < suc n → 0 < length t → read_frame t ≡ s
      → read_from kind before (lines t) ≡ Ok fs → Accepted kind before t fs
  accept_read n ih before t fs (Err x) h z s e = absurd (ok_err (sym e ∙ read_fault kind before t x z s))
  accept_read n ih before t fs (Ok p) h z s e = accept_placed n ih before t p.1 p.0 fs (admitted kind before p.0) h s refl e

  accept_in : (n : ℕ) → Accepts n
  accept_in zero before t fs h e = absurd (omega arith)
  accept_in (suc n) before [] fs h e =
      let p = at_end before (ended before) fs refl e in ([], p.0 ∙ sym (append-nil before), (refl, tt, tt), ap ended p.0 ∙ p.1)
  accept_in (suc n) before (b ∷ t) fs h e = accept_read n (λ c u g k x. accept_in n c u g k x) before (b ∷ t) fs (read_frame (b ∷ t)) h (omega arith) refl e

  pub accepts : (before : List Frame) (t : List ℕ) (fs : List Frame) → read_from kind before (lines t) ≡ Ok fs → Accepted kind before t fs
  accepts before t fs e = accept_in (suc (length t)) before t fs (omega arith) e

  -- the same for a refusal
  abbrev Refuses : ℕ → Type 0
  Refuses n = (before : List Frame) (t : List ℕ) (x : Refusal) → length t < n → read_from kind before (lines t) ≡ Err x → Refused kind before t x

  stops_here : (before : List Frame) (t : List ℕ) (x : Refusal) (y : Fault) → read_from kind before (lines t) ≡ Err x → read_from kind before (lines t) ≡ refused y (length before + 1) → Stops kind before t y → Refused kind before t x
  stops_here before t x y e r s =
      let same = err_same (sym e ∙ r) in
      let here = sym (append-nil before) in
      let P : List Frame → Type 0 = λ b. Stops kind b t x.fault in
      let Q : Fault → Type 0 = λ z. Stops kind before t z in
      ([], t, (refl, tt, tt), ap (λ z. z.line) same ∙ ap (λ b. length b + 1) here, subst P here (subst Q (sym (ap (λ z. z.fault) same)) s))

  refuse_placed : (n : ℕ) → Refuses n → (before : List Frame) (t r : List ℕ) (f : Frame) (x : Refusal) (a : Result (Unit {0}) Fault) → length t < suc n → read_frame t ≡ Ok (f, r) → admitted kind before f ≡ a
      → read_from kind before (lines t) ≡ Err x → Refused kind before t x
  refuse_placed n ih before t r f x (Err y) h s a e = stops_here before t x y e (read_misplaced kind before t f r y s a) (inr (inr (f, r, s, a)))
  refuse_placed n ih before t r f x (Ok u) h s a e =
      let short = read_shorter t f r s in
      let p = ih (before ++ f ∷ []) r x (omega arith) (sym (read_more kind before t f r s a) ∙ e) in
      let on = onward before p.0 f in
      let P : List Frame → Type 0 = λ b. Stops kind b p.1 x.fault in
      (f ∷ p.0, p.1, longer_run before p.0 t r p.1 f s a p.2, p.3 ∙ ap (λ b. length b + 1) on, subst P on p.4)

  refuse_read : (n : ℕ) → Refuses n → (before : List Frame) (t : List ℕ) (x : Refusal) (s : Result (Frame × List ℕ) FrameFault) → length t < suc n → 0 < length t → read_frame t ≡ s
      → read_from kind before (lines t) ≡ Err x → Refused kind before t x
  refuse_read n ih before t x (Err y) h z s e = stops_here before t x (fault.Frame y) e (read_fault kind before t y z s) (inr (inl (y, z, s, refl)))
  refuse_read n ih before t x (Ok p) h z s e = refuse_placed n ih before t p.1 p.0 x (admitted kind before p.0) h s refl e

  not_ended : (before : List Frame) (d : Bool) (x : Refusal) → ended before ≡ d → cond d (Ok before) (refused Place (length before + 1)) ≡ Err x → Refused kind before [] x
  not_ended before true x d e = absurd (ok_err e)
  not_ended before false x d e = stops_here before [] x Place (at d ∙ e) (at d) (inl (refl, d, refl))
    where
      at : ended before ≡ false → cond (ended before) (Ok before) (refused Place (length before + 1)) ≡ refused Place (length before + 1)
      at d = ap (λ b. cond b (Ok before) (refused Place (length before + 1))) d

  refuse_in : (n : ℕ) → Refuses n
  refuse_in zero before t x h e = absurd (omega arith)
  refuse_in (suc n) before [] x h e = not_ended before (ended before) x refl e
  refuse_in (suc n) before (b ∷ t) x h e = refuse_read n (λ c u g k y. refuse_in n c u g k y) before (b ∷ t) x (read_frame (b ∷ t)) h (omega arith) refl e

  pub refuses : (before : List Frame) (t : List ℕ) (x : Refusal) → read_from kind before (lines t) ≡ Err x → Refused kind before t x
  refuses before t x e = refuse_in (suc (length t)) before t x (omega arith) e

  -- frames in turn are read as they stand
  pub read_through : (before tail : List Frame) (rest : List ℕ) → AllGood tail → InTurn kind before tail → read_from kind before (lines (text_of tail ++ rest)) ≡ read_from kind (before ++ tail) (lines rest)
  read_through before [] rest g p = ap (λ b. read_from kind b (lines rest)) (sym (append-nil before))
  read_through before (f ∷ tail) rest g p =
      let split = append_assoc (line_for f) (text_of tail) rest in
      let read = ap read_frame split ∙ read_back f (text_of tail ++ rest) g.0 in
      read_more kind before (text_of (f ∷ tail) ++ rest) f (text_of tail ++ rest) read p.0 ∙ read_through (before ++ f ∷ []) tail rest g.1 p.1 ∙ ap (λ b. read_from kind b (lines rest)) (onward before tail f)
