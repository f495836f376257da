-- The lines of a text, one at a time.
use Rattle.std.proofs.Common.{◌≡◌, ℕ, ◌+◌, ◌<◌, ◌≤◌, Bool, true, false, cond, eqb, ltb, List, [], ◌∷◌, ◌++◌, length, Some, None, Ok, Err, Option, Result, sym, refl, ap, ◌∙◌, arith}
use Rattle.std.proofs.lemmas.List.{nil_from_length}
use Rattle.std.proofs.lemmas.Bool.{eqb-true, eqb-false, ltb-false}
use Rattle.frames.specs.declared.frame.Frame.{Frame}
use Rattle.frames.specs.declared.frame.DigitFault.{DigitFault}
use Rattle.frames.specs.declared.frame.FrameFault.{FrameFault}
use Rattle.frames.specs.Digits.{digit_fault, bytes_of}
use Rattle.frames.proofs.DigitLaws.{some_none, some_same, ok_err, ok_same, err_same}
use Rattle.frames.proofs.LineLaws.{behind_shorter}
use Rattle.frames.specs.Frames.{line_of, behind, judged, framed, read_frame}
use Rattle.texts.specs.declared.fault.Fault.{Fault}
use Rattle.texts.specs.declared.fault.Fault.TheVariants as fault
use Rattle.texts.specs.declared.fault.Fault.TheVariants.{Place, TooLong}
use Rattle.texts.specs.declared.fault.Refusal.{Refusal}
use Rattle.texts.specs.Places.{ended}
use Rattle.texts.specs.declared.seen.TextKind.{TextKind}
use Rattle.texts.specs.Lines.{Line, longer, lines, in_line, frame_in}
use Rattle.texts.specs.Reading.{refused, and_then, at_line, as_fault, admitted, read_from, limit, frames_in}
use Rattle.texts.specs.Summary.{stepped}

abbrev whole : List ℕ → Line
whole l = record { bytes = l; ended = true }

abbrev part : List ℕ → Line
part l = record { bytes = l; ended = false }

ended_at : (d : Bool) (b : ℕ) (t r : List ℕ) → (behind t ≡ Some r → lines t ≡ whole (line_of t) ∷ lines r) → cond d (Some t) (behind t) ≡ Some r
    → cond d (whole [] ∷ lines t) (longer b (lines t)) ≡ whole (cond d [] (b ∷ line_of t)) ∷ lines r
ended_at true b t r ih e = ap (λ x. whole [] ∷ lines x) (some_same e)
ended_at false b t r ih e = ap (longer b) (ih e)

-- a text with a line feed: its first line, and the lines behind
lines_ended : (t r : List ℕ) → behind t ≡ Some r → lines t ≡ whole (line_of t) ∷ lines r
lines_ended [] r e = absurd (some_none (sym e))
lines_ended (b ∷ t) r e = ended_at (eqb b 10) b t r (lines_ended t r) e

last_at : (d : Bool) (b : ℕ) (t : List ℕ) → (behind t ≡ None → longer b (lines t) ≡ part (b ∷ line_of t) ∷ []) → cond d (Some t) (behind t) ≡ None
    → cond d (whole [] ∷ lines t) (longer b (lines t)) ≡ part (cond d [] (b ∷ line_of t)) ∷ []
last_at true b t ih e = absurd (some_none e)
last_at false b t ih e = ih e

longer_last : (b : ℕ) (t : List ℕ) → behind t ≡ None → longer b (lines t) ≡ part (b ∷ line_of t) ∷ []
longer_last b [] e = refl
longer_last b (c ∷ t) e = ap (longer b) (last_at (eqb c 10) c t (longer_last c t) e)

-- a text without one: a single line
lines_last : (b : ℕ) (t : List ℕ) → behind (b ∷ t) ≡ None → lines (b ∷ t) ≡ part (line_of (b ∷ t)) ∷ []
lines_last b t e = last_at (eqb b 10) b t (longer_last b t) e

-- the first line of a text, and what it says
read_line : (d : Option DigitFault) (o : Option (List ℕ)) (b : Result Frame FrameFault) (f : Frame) (r : List ℕ) → judged d o b ≡ Ok (f, r) → (o ≡ Some r) × (in_line d true b ≡ Ok f)
read_line (Some d) o b f r e = absurd (ok_err (sym e))
read_line None None b f r e = absurd (ok_err (sym e))
read_line None (Some rest) (Ok g) f r e = let p = ok_same e in (ap (λ x. Some x.1) p, ap (λ x. Ok x.0) p)
read_line None (Some rest) (Err x) f r e = absurd (ok_err (sym e))

pub read_first : (t : List ℕ) (f : Frame) (r : List ℕ) → read_frame t ≡ Ok (f, r) → (behind t ≡ Some r) × (frame_in (whole (line_of t)) ≡ Ok f)
read_first t f r e = read_line (digit_fault (line_of t)) (behind t) (framed (bytes_of (line_of t))) f r e

unread_part : (d : Option DigitFault) (b : Result Frame FrameFault) (x : FrameFault) → judged d None b ≡ Err x → in_line d false b ≡ Err x
unread_part (Some d) b x e = cc
unread_part None b x e = cc

unread_whole : (d : Option DigitFault) (r : List ℕ) (b : Result Frame FrameFault) (x : FrameFault) → judged d (Some r) b ≡ Err x → in_line d true b ≡ Err x
unread_whole (Some d) r b x e = cc
unread_whole None r (Ok g) x e = absurd (ok_err e)
unread_whole None r (Err y) x e = cc

abbrev FirstLine : List ℕ → FrameFault → Type 0
FirstLine t x = (line : Line) × (later : List Line) × (lines t ≡ line ∷ later) × (frame_in line ≡ Err x)

unread_at : (t : List ℕ) (x : FrameFault) (o : Option (List ℕ)) → 0 < length t → behind t ≡ o → judged (digit_fault (line_of t)) o (framed (bytes_of (line_of t))) ≡ Err x → FirstLine t x
unread_at [] x o h e j = absurd (omega arith)
unread_at (b ∷ t) x None h e j = (part (line_of (b ∷ t)), [], lines_last b t e, unread_part (digit_fault (line_of (b ∷ t))) (framed (bytes_of (line_of (b ∷ t)))) x j)
unread_at (b ∷ t) x (Some r) h e j = (whole (line_of (b ∷ t)), lines r, lines_ended (b ∷ t) r e, unread_whole (digit_fault (line_of (b ∷ t))) r (framed (bytes_of (line_of (b ∷ t)))) x j)

unread_first : (t : List ℕ) (x : FrameFault) → 0 < length t → read_frame t ≡ Err x → FirstLine t x
unread_first t x h e = unread_at t x (behind t) h refl e

module _ (kind : TextKind) (before : List Frame) (t : List ℕ) where
  abbrev line_number : ℕ
  line_number = length before + 1

  abbrev placed : List Line → Frame → Result (Unit {0}) Fault → Result (List Frame) Refusal
  placed later f a = and_then (at_line line_number a) (λ _. read_from kind (before ++ f ∷ []) later)

  abbrev on_frame : List Line → Result Frame FrameFault → Result (List Frame) Refusal
  on_frame later f = and_then (at_line line_number (as_fault f)) (λ g. placed later g (admitted kind before g))

  read_on : (f : Frame) (r : List ℕ) → read_frame t ≡ Ok (f, r) → read_from kind before (lines t) ≡ placed (lines r) f (admitted kind before f)
  read_on f r e = let p = read_first t f r e in ap (read_from kind before) (lines_ended t r p.0) ∙ ap (on_frame (lines r)) p.1

  -- a frame in its place
  pub read_more : (f : Frame) (r : List ℕ) → read_frame t ≡ Ok (f, r) → admitted kind before f ≡ Ok tt → read_from kind before (lines t) ≡ read_from kind (before ++ f ∷ []) (lines r)
  read_more f r e a = read_on f r e ∙ ap (placed (lines r) f) a

  -- a frame out of place, or with a wrong number
  pub read_misplaced : (f : Frame) (r : List ℕ) (x : Fault) → read_frame t ≡ Ok (f, r) → admitted kind before f ≡ Err x → read_from kind before (lines t) ≡ refused x line_number
  read_misplaced f r x e a = read_on f r e ∙ ap (placed (lines r) f) a

  unread_on : (x : FrameFault) → FirstLine t x → read_from kind before (lines t) ≡ refused (fault.Frame x) line_number
  unread_on x p = ap (read_from kind before) p.2 ∙ ap (on_frame p.1) p.3

  -- a line that is no frame
  pub read_fault : (x : FrameFault) → 0 < length t → read_frame t ≡ Err x → read_from kind before (lines t) ≡ refused (fault.Frame x) line_number
  read_fault x h e = unread_on x (unread_first t x h e)

  -- the end of the text
  pub read_end : length t ≡ 0 → read_from kind before (lines t) ≡ cond (ended before) (Ok before) (refused Place line_number)
  read_end h = ap (λ u. read_from kind before (lines u)) (nil_from_length t h)

  abbrev standing : Result (Frame × List ℕ) FrameFault → Result (Frame × List ℕ) Fault
  standing s = and_then (as_fault s) (λ p. and_then (admitted kind before p.0) (λ _. Ok p))

  kept_ok : (p q : Frame × List ℕ) (a : Result (Unit {0}) Fault) → and_then a (λ _. Ok p) ≡ Ok q → (p ≡ q) × (a ≡ Ok tt)
  kept_ok p q (Ok x) e = (ok_same e, refl)
  kept_ok p q (Err x) e = absurd (ok_err (sym e))

  kept_err : (p : Frame × List ℕ) (a : Result (Unit {0}) Fault) (x : Fault) → and_then a (λ _. Ok p) ≡ Err x → a ≡ Err x
  kept_err p (Ok y) x e = absurd (ok_err e)
  kept_err p (Err y) x e = ap Err (err_same e)

  step_parts : (s : Result (Frame × List ℕ) FrameFault) (f : Frame) (r : List ℕ) → standing s ≡ Ok (f, r) → (s ≡ Ok (f, r)) × (admitted kind before f ≡ Ok tt)
  step_parts (Err x) f r e = absurd (ok_err (sym e))
  step_parts (Ok p) f r e = let k = kept_ok p (f, r) (admitted kind before p.0) e in (ap Ok k.0, ap (λ q. admitted kind before q.0) (sym k.0) ∙ k.1)

  -- one step of the reader
  pub step_read : (f : Frame) (r : List ℕ) → stepped kind before t ≡ Ok (f, r) → (read_frame t ≡ Ok (f, r)) × (admitted kind before f ≡ Ok tt)
  step_read f r e = step_parts (read_frame t) f r e

  pub step_on : (f : Frame) (r : List ℕ) → stepped kind before t ≡ Ok (f, r) → read_from kind before (lines t) ≡ read_from kind (before ++ f ∷ []) (lines r)
  step_on f r e = let p = step_read f r e in read_more f r p.0 p.1

  step_not : (s : Result (Frame × List ℕ) FrameFault) (x : Fault) → read_frame t ≡ s → 0 < length t → standing s ≡ Err x → read_from kind before (lines t) ≡ refused x line_number
  step_not (Err y) x s h e = read_fault y h s ∙ ap (λ z. refused z line_number) (err_same e)
  step_not (Ok p) x s h e = read_misplaced p.0 p.1 x s (kept_err p (admitted kind before p.0) x e)

  pub step_refused : (x : Fault) → 0 < length t → stepped kind before t ≡ Err x → read_from kind before (lines t) ≡ refused x line_number
  step_refused x h e = step_not (read_frame t) x refl h e

-- what follows a frame is shorter
pub read_shorter : (t : List ℕ) (f : Frame) (r : List ℕ) → read_frame t ≡ Ok (f, r) → length r < length t
read_shorter t f r e = behind_shorter t r (read_first t f r e).0

-- a test for an empty text
pub nonempty : (n : ℕ) (b : Bool) → b ≡ eqb n 0 → b ≡ false → 0 < n
nonempty n b e f = let ne = eqb-false n 0 (sym e ∙ f) in omega arith

pub empty : (n : ℕ) (b : Bool) → b ≡ eqb n 0 → b ≡ true → n ≡ 0
empty n b e f = eqb-true n 0 (sym e ∙ f)

-- a text that is not too long
limit_at : (d : Bool) (n : ℕ) (r : Result (List Frame) Refusal) (fs : List Frame) → ltb limit n ≡ d → cond d (refused TooLong 0) r ≡ Ok fs → (n ≤ limit) × (r ≡ Ok fs)
limit_at true n r fs d e = absurd (ok_err (sym e))
limit_at false n r fs d e = (ltb-false limit n d, e)

pub within_limit : (kind : TextKind) (text : List ℕ) (fs : List Frame) → frames_in kind text ≡ Ok fs → (length text ≤ limit) × (read_from kind [] (lines text) ≡ Ok fs)
within_limit kind text fs e = limit_at (ltb limit (length text)) (length text) (read_from kind [] (lines text)) fs refl e
