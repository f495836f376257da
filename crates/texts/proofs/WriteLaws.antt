-- Writing the lines of frames, one behind the other.
use Rattle.std.proofs.Common.{◌≡◌, ℕ, ◌+◌, ◌-◌, ◌≤◌, List, [], ◌∷◌, ◌++◌, length, take, drop, Some, Option, sym, refl, ap, ◌∙◌, arith}
use borrow.Rule.Slice.PartMut.{put_mid}
use Rattle.std.proofs.lemmas.List.{append_assoc, append-nil, length-append, length-drop, drop-drop}
use Rattle.frames.specs.declared.frame.Frame.{Frame}
use Rattle.frames.specs.declared.frame.Frame.TheVariants.{End}
use Rattle.frames.specs.Frames.{line_for, wrote_in, written_in}
use Rattle.frames.proofs.WriteLaws.{line_count, line_after}
use Rattle.texts.specs.Writing.{ending, text_of}

pub text_append : (xs ys : List Frame) → text_of (xs ++ ys) ≡ text_of xs ++ text_of ys
text_append [] ys = refl
text_append (f ∷ xs) ys = ap (λ t. line_for f ++ t) (text_append xs ys) ∙ sym (append_assoc (line_for f) (text_of xs) (text_of ys))

-- the text with its end frame
pub ending_text : (fs : List Frame) → text_of (ending fs) ≡ text_of fs ++ line_for (End (length fs))
ending_text fs = text_append fs (End (length fs) ∷ []) ∙ ap (λ t. text_of fs ++ t) (append-nil (line_for (End (length fs))))

pub ending_long : (fs : List Frame) → length (text_of (ending fs)) ≡ 9 + length (text_of fs)
ending_long fs = ap length (ending_text fs) ∙ length-append (text_of fs) (line_for (End (length fs))) ∙ omega arith

-- a line written into the tail of a buffer, behind what was done
module _ (out₀ out done : List ℕ) (at : ℕ) (here : length done ≡ at) (so_far : out ≡ done ++ drop at out₀) where
  module _ (line : List ℕ) (room : at + length line ≤ length out₀) where
    fits : length line ≤ length (drop at out₀)
    fits = let long = length-drop at out₀ in omega arith

    pub has_room : {r : Option ℕ} → r ≡ wrote_in line (take (length out - at) (drop at out)) → r ≡ Some (length line)
    has_room {r} e = line_count line done (drop at out₀) out at so_far here fits r e

    pub written_behind : {last : List ℕ} → last ≡ written_in line (take (length out - at) (drop at out)) → put_mid at (length out - at) out last ≡ (done ++ line) ++ drop (at + length line) out₀
    written_behind {last} e =
        line_after line done (drop at out₀) out at so_far here fits last e ∙ ap (λ t. (done ++ line) ++ t) (drop-drop (length line) at out₀ ∙ ap (λ k. drop k out₀) (omega arith))

-- the lines so far stand at the front of a buffer, and the rest is as it was
pub record Written (text out₀ out : List ℕ) (at : ℕ) (fs : List Frame) (done : List ℕ) : Type 0 where
  pub here : length done ≡ at
  pub rest : text ≡ done ++ text_of fs
  pub so_far : out ≡ done ++ drop at out₀

module _ {text out₀ out : List ℕ} {at : ℕ} {fs : List Frame} {done : List ℕ} (w : Written text out₀ out at fs done) (whole : length text ≤ length out₀) where
  module _ {f : Frame} {later : List Frame} (next : fs ≡ f ∷ later) where
    text_here : text ≡ (done ++ line_for f) ++ text_of later
    text_here = w.rest ∙ ap (λ x. done ++ text_of x) next ∙ sym (append_assoc done (line_for f) (text_of later))

    pub write_room : at + length (line_for f) ≤ length out₀
    write_room =
        let long = ap length text_here ∙ length-append (done ++ line_for f) (text_of later) in
        let front = length-append done (line_for f) in
        let same = w.here in omega arith

    pub write_result : {r : Option ℕ} → r ≡ wrote_in (line_for f) (take (length out - at) (drop at out)) → r ≡ Some (length (line_for f))
    write_result e = has_room out₀ out done at w.here w.so_far (line_for f) write_room e

    pub write_again : {last : List ℕ} {at' : ℕ} → last ≡ written_in (line_for f) (take (length out - at) (drop at out)) → at' ≡ at + length (line_for f) → Written text out₀ (put_mid at (length out - at) out last) at' later (done ++ line_for f)
    write_again {last} {at'} e k =
        record {
          here = length-append done (line_for f) ∙ ap (λ n. n + length (line_for f)) w.here ∙ sym k;
          rest = text_here;
          so_far = written_behind out₀ out done at w.here w.so_far (line_for f) write_room e ∙ ap (λ n. (done ++ line_for f) ++ drop n out₀) (sym k);
        }

-- the end frame's line behind the others
module _ (fs : List Frame) (out₀ out : List ℕ) (at : ℕ) (here : at ≡ length (text_of fs)) (so_far : out ≡ text_of fs ++ drop (length (text_of fs)) out₀) where
  lines_stand : out ≡ text_of fs ++ drop at out₀
  lines_stand = so_far ∙ ap (λ k. text_of fs ++ drop k out₀) (sym here)

  pub text_written : (last : List ℕ) (count : ℕ) → count ≡ length fs → length (text_of (ending fs)) ≤ length out₀ → last ≡ written_in (line_for (End count)) (take (length out - at) (drop at out))
      → put_mid at (length out - at) out last ≡ text_of (ending fs) ++ drop (length (text_of (ending fs))) out₀
  text_written last count same room e =
      let long = ending_long fs in
      written_behind out₀ out (text_of fs) at (sym here) lines_stand (line_for (End count)) (omega arith) e ∙ ap (λ k. (text_of fs ++ line_for (End k)) ++ drop (at + 9) out₀) same
      ∙ ap (λ t. t ++ drop (at + 9) out₀) (sym (ending_text fs)) ∙ ap (λ k. text_of (ending fs) ++ drop k out₀) (omega arith)
