-- What is kept of frames, with one frame more.
use Rattle.std.proofs.Common.{◌≡◌, ℕ, ◌+◌, Bool, true, false, cond, ◌&&◌, ◌||◌, eqb, List, [], ◌∷◌, ◌++◌, length, Some, None, sym, refl, ap, ◌∙◌, arith}
use Rattle.std.specs.List.{list_all, count_by}
use Rattle.std.proofs.lemmas.List.{length-append}
use Rattle.std.proofs.lemmas.List.Sums.{sum_by-cons, sum_by-append, count_by-le-length}
use Rattle.std.proofs.lemmas.Bool.{ne_eqb}
use Rattle.frames.specs.declared.frame.Frame.{Frame}
use Rattle.texts.specs.declared.seen.Seen.{Seen}
use Rattle.texts.specs.declared.seen.TextKind.{TextKind}
use Rattle.texts.specs.Places.{is_rule, is_step, is_wish, is_alternative, is_end, is_fit, in_place}
use Rattle.texts.specs.Summary.{seen_of, Saw}
use Rattle.texts.proofs.PlaceLaws.{some_more, last_more, is_last_more, going}

-- one more frame in front, and at the end
pub count_cons : (p : Frame → Bool) (f : Frame) (fs : List Frame) → count_by p (f ∷ fs) ≡ cond (p f) 1 0 + count_by p fs
count_cons p f fs = sum_by-cons (λ g. cond (p g) 1 0) f fs

pub one_more : (p : Frame → Bool) (f : Frame) (fs : List Frame) → count_by p (fs ++ f ∷ []) ≡ count_by p fs + cond (p f) 1 0
one_more p f fs = sum_by-append (λ g. cond (p g) 1 0) fs (f ∷ []) ∙ ap (λ k. count_by p fs + k) (count_cons p f [] ∙ omega arith)

-- all are rules where there are as many rules as frames
every_head : (p : Frame → Bool) (fs : List Frame) (b : Bool) → list_all p fs ≡ eqb (count_by p fs) (length fs) → b && list_all p fs ≡ eqb (cond b 1 0 + count_by p fs) (1 + length fs)
every_head p fs true h = h ∙ same_eqb (count_by p fs) (length fs)
  where
    same_eqb : (m n : ℕ) → eqb m n ≡ eqb (1 + m) (1 + n)
    same_eqb m n = grind arith
every_head p fs false h = let l = count_by-le-length p fs in sym (ne_eqb (0 + count_by p fs) (1 + length fs) (λ e. omega arith))

pub every_count : (p : Frame → Bool) (fs : List Frame) → list_all p fs ≡ eqb (count_by p fs) (length fs)
every_count p [] = refl
every_count p (f ∷ fs) =
    every_head p fs (p f) (every_count p fs) ∙ ap (λ k. eqb k (1 + length fs)) (sym (count_cons p f fs)) ∙ ap (eqb (count_by p (f ∷ fs))) (omega arith)

-- the parts of what is seen with one frame more
pub saw_after : (s : Seen) (fs : List Frame) (f g : Frame) → g ≡ f → (r : Seen) → r.frames ≡ s.frames + 1 → r.rules ≡ s.rules + cond (is_rule f) 1 0 → r.steps ≡ s.steps + cond (is_step f) 1 0
    → r.wishes ≡ s.wishes + cond (is_wish f) 1 0 → r.alternatives ≡ s.alternatives + cond (is_alternative f) 1 0 → r.fits ≡ s.fits + cond (is_fit f) 1 0 → r.last ≡ Some g
    → (kind : TextKind) → Saw s fs → in_place kind fs g ≡ true → Saw r (fs ++ g ∷ [])
saw_after s fs f g is r a b c d h k l kind saw place =
    let e = saw.summary in
    let a' = a ∙ ap (λ t. t.frames + 1) e ∙ sym (length-append fs (f ∷ [])) in
    let b' = b ∙ ap (λ t. t.rules + cond (is_rule f) 1 0) e ∙ sym (one_more is_rule f fs) in
    let c' = c ∙ ap (λ t. t.steps + cond (is_step f) 1 0) e ∙ sym (one_more is_step f fs) in
    let d' = d ∙ ap (λ t. t.wishes + cond (is_wish f) 1 0) e ∙ sym (one_more is_wish f fs) in
    let h' = h ∙ ap (λ t. t.alternatives + cond (is_alternative f) 1 0) e ∙ sym (one_more is_alternative f fs) in
    let k' = k ∙ ap (λ t. t.fits + cond (is_fit f) 1 0) e ∙ sym (one_more is_fit f fs) in
    let l' = l ∙ ap Some is ∙ sym (last_more None f fs) in
    let same : r ≡ seen_of (fs ++ f ∷ []) = λ i. record { frames = a' i; rules = b' i; steps = c' i; wishes = d' i; alternatives = h' i; fits = k' i; last = l' i } in
    record {
      summary = same ∙ ap (λ y. seen_of (fs ++ y ∷ [])) (sym is);
      end_last = some_more is_end g fs ∙ ap (λ b. b || is_end g) (going kind fs g saw.end_last place) ∙ sym (is_last_more is_end g fs);
    }
