-- Which frames may stand where: what a frame in its place says of those before it.
use Rattle.std.proofs.Common.{◌≡◌, ℕ, Bool, true, false, cond, not, ◌||◌, ltb, List, [], ◌∷◌, ◌++◌, Some, None, Ok, Err, Option, Result, sym, refl, ap, ◌∙◌}
use Rattle.std.specs.List.{list_all, list_any, last_or, count_by}
use Rattle.std.specs.Option.{option_map_or}
use Rattle.std.proofs.lemmas.List.Folds.{list_any-append}
use Rattle.std.proofs.lemmas.Bool.{and_parts, not-true, false≢true}
use Rattle.frames.specs.declared.frame.Frame.{Frame}
use Rattle.frames.specs.declared.frame.Frame.TheVariants.{Rule, RankStep, Wish, Alternative, End, Fit}
use Rattle.frames.proofs.DigitLaws.{ok_err}
use Rattle.texts.specs.declared.fault.Fault.{Fault}
use Rattle.texts.specs.declared.fault.Fault.TheVariants.{Place, Count}
use Rattle.texts.specs.declared.seen.TextKind.{TextKind}
use Rattle.texts.specs.declared.seen.TextKind.TheVariants.{Book, Catalogue}
use Rattle.texts.specs.Places.{is_rule, is_step, is_end, is_last, of_wish, ended, in_place}
use Rattle.texts.specs.Reading.{counts, admitted}
use Rattle.texts.specs.Turns.{InTurn}

-- an admitted frame is in its place, and counts
admitted_parts : (p c : Bool) → ◌≡◌ {A = Result (Unit {0}) Fault} (cond p (cond c (Ok tt) (Err Count)) (Err Place)) (Ok tt) → (p ≡ true) × (c ≡ true)
admitted_parts true true e = (refl, refl)
admitted_parts true false e = absurd (ok_err (sym e))
admitted_parts false c e = absurd (ok_err (sym e))

pub placed : (kind : TextKind) (before : List Frame) (f : Frame) → admitted kind before f ≡ Ok tt → (in_place kind before f ≡ true) × (counts before f ≡ true)
placed kind before f e = admitted_parts (in_place kind before f) (counts before f) e

pub or_false : (b : Bool) → b ≡ b || false
or_false true = refl
or_false false = refl

pub some_more : (p : Frame → Bool) (f : Frame) (fs : List Frame) → list_any p (fs ++ f ∷ []) ≡ list_any p fs || p f
some_more p f fs = list_any-append p fs (f ∷ []) ∙ ap (λ b. list_any p fs || b) (sym (or_false (p f)))

-- the end frame ends a text, and no other frame does
pub end_ended : (before : List Frame) (n : ℕ) → ended (before ++ End n ∷ []) ≡ true
end_ended before n = some_more is_end (End n) before ∙ or_true (ended before)
  where
    or_true : (b : Bool) → b || true ≡ true
    or_true true = refl
    or_true false = refl

pub ended_still : (before : List Frame) (f : Frame) → ended before ≡ false → is_end f ≡ false → ended (before ++ f ∷ []) ≡ false
ended_still before f e g = some_more is_end f before ∙ ap (λ b. b || is_end f) e ∙ g

pub last_more : (o : Option Frame) (f : Frame) (fs : List Frame) → last_or o (fs ++ f ∷ []) ≡ Some f
last_more o f [] = refl
last_more o f (g ∷ fs) = last_more (Some g) f fs

pub is_last_more : (p : Frame → Bool) (f : Frame) (fs : List Frame) → is_last p (fs ++ f ∷ []) ≡ p f
is_last_more p f fs = ap (λ o. option_map_or p o false) (last_more None f fs)

-- where only rules stand
no_rule : (p : Frame → Bool) → ((row : _) → p (Rule row) ≡ false) → (f : Frame) → is_rule f ≡ true → p f ≡ false
no_rule p h (Rule row) e = h row
no_rule p h RankStep e = absurd (false≢true e)
no_rule p h (Wish body) e = absurd (false≢true e)
no_rule p h (Alternative level condition) e = absurd (false≢true e)
no_rule p h (End k) e = absurd (false≢true e)
no_rule p h (Fit set) e = absurd (false≢true e)

pub never_ended : (fs : List Frame) → list_all is_rule fs ≡ true → ended fs ≡ false
never_ended [] h = refl
never_ended (f ∷ fs) h =
    let (first, later) = and_parts (is_rule f) (list_all is_rule fs) h in
    ap (λ b. b || ended fs) (no_rule is_end (λ row. refl) f first) ∙ never_ended fs later

never_wish_or : (o : Option Frame) (fs : List Frame) → option_map_or of_wish o false ≡ false → list_all is_rule fs ≡ true → option_map_or of_wish (last_or o fs) false ≡ false
never_wish_or o [] e h = e
never_wish_or o (f ∷ fs) e h =
    let (first, later) = and_parts (is_rule f) (list_all is_rule fs) h in
    never_wish_or (Some f) fs (no_rule of_wish (λ row. refl) f first) later

pub never_wish : (fs : List Frame) → list_all is_rule fs ≡ true → is_last of_wish fs ≡ false
never_wish fs h = never_wish_or None fs refl h

-- one frame is no rank step and an alternative's forerunner at once, nor that and an end
last_apart : (p q : Frame → Bool) → ((f : Frame) → p f ≡ true → q f ≡ false) → (fs : List Frame) → is_last p fs ≡ true → is_last q fs ≡ false
last_apart p q h fs = apart (last_or None fs)
  where
    apart : (o : Option Frame) → option_map_or p o false ≡ true → option_map_or q o false ≡ false
    apart None e = absurd (false≢true e)
    apart (Some f) e = h f e

step_no_wish : (f : Frame) → is_step f ≡ true → of_wish f ≡ false
step_no_wish (Rule row) e = refl
step_no_wish RankStep e = refl
step_no_wish (Wish body) e = absurd (false≢true e)
step_no_wish (Alternative level condition) e = absurd (false≢true e)
step_no_wish (End n) e = refl
step_no_wish (Fit set) e = refl

wish_no_end : (f : Frame) → of_wish f ≡ true → is_end f ≡ false
wish_no_end (Rule row) e = refl
wish_no_end RankStep e = refl
wish_no_end (Wish body) e = refl
wish_no_end (Alternative level condition) e = refl
wish_no_end (End k) e = absurd (false≢true e)
wish_no_end (Fit set) e = refl

pub on_step : (fs : List Frame) → is_last is_step fs ≡ true → is_last of_wish fs ≡ false
on_step fs e = last_apart is_step of_wish step_no_wish fs e

-- a frame may stand only where no end frame has come
pub going : (kind : TextKind) (fs : List Frame) (f : Frame) → ended fs ≡ is_last is_end fs → in_place kind fs f ≡ true → ended fs ≡ false
going Book fs (Rule row) l p = never_ended fs p
going Book fs RankStep l p = not-true (ended fs) (and_parts (not (ended fs)) (ltb (count_by is_step fs) 15) p).0
going Book fs (Wish body) l p = not-true (ended fs) p
going Book fs (Alternative level condition) l p = l ∙ last_apart of_wish is_end wish_no_end fs p
going Book fs (End k) l p = not-true (ended fs) (and_parts (not (ended fs)) (not (is_last is_step fs)) p).0
going Book fs (Fit set) l p = absurd (false≢true p)
going Catalogue fs (Rule row) l p = absurd (false≢true p)
going Catalogue fs RankStep l p = absurd (false≢true p)
going Catalogue fs (Wish body) l p = absurd (false≢true p)
going Catalogue fs (Alternative level condition) l p = absurd (false≢true p)
going Catalogue fs (End k) l p = not-true (ended fs) p
going Catalogue fs (Fit set) l p = not-true (ended fs) p

-- nothing stands behind the end frame
pub none_behind : (kind : TextKind) (before : List Frame) (n : ℕ) (tail : List Frame) → InTurn kind (before ++ End n ∷ []) tail → tail ≡ []
none_behind kind before n [] t = refl
none_behind kind before n (f ∷ tail) t =
    let fs = before ++ End n ∷ [] in
    let still = going kind fs f (end_ended before n ∙ sym (is_last_more is_end (End n) before)) (placed kind fs f t.0).0 in
    absurd (false≢true (sym still ∙ end_ended before n))
