-- Filling a table from an accepted text: one frame more, and the end.
use Rattle.std.proofs.Common.{◌≡◌, ℕ, zero, suc, ◌+◌, ◌<◌, ◌≤◌, Bool, true, false, cond, not, ltb, List, [], ◌∷◌, ◌++◌, length, take, drop, Ok, Err, Option, sym, refl, ap, ◌∙◌, subst, arith}
use Rattle.std.specs.List.{count_by}
use Rattle.std.proofs.lemmas.List.{length-append, length-take-le}
use Rattle.std.proofs.lemmas.Bool.{and_parts, ltb-true, false≢true}
use Rattle.frames.specs.declared.frame.Frame.{Frame}
use Rattle.frames.specs.declared.frame.Frame.TheVariants.{Rule, RankStep, Wish, Alternative, End, Fit}
use Rattle.texts.specs.declared.fault.Fault.{Fault}
use Rattle.texts.specs.declared.fault.Fault.TheVariants.{Place}
use Rattle.texts.specs.declared.seen.Seen.{Seen}
use Rattle.texts.specs.declared.seen.TextKind.{TextKind}
use Rattle.texts.specs.declared.seen.TextKind.TheVariants.{Book, Catalogue}
use Rattle.texts.specs.Lines.{lines}
use Rattle.texts.specs.Places.{is_step, is_wish, ended, in_place}
use Rattle.texts.specs.Reading.{refused, read_from}
use Rattle.tables.specs.Tables.{onto}
use Rattle.texts.specs.Rows.{rows_in, overwritten}
use Rattle.texts.specs.Summary.{Saw, stepped, placed_at}
use Rattle.texts.proofs.PlaceLaws.{placed}
use Rattle.frames.proofs.DigitLaws.{ok_err, ok_same}
use Rattle.texts.proofs.LineLaws.{step_read, step_on, step_refused, read_end, read_shorter}
use Rattle.texts.proofs.RowLaws.{rows_more, rows_front, row_put, all_put}
use Rattle.texts.proofs.SummaryLaws.{one_more}
use Rattle.texts.proofs.TurnLaws.{accepts}

-- there are at most 15 rank steps
steps_kept : (kind : TextKind) (fs : List Frame) (f : Frame) → in_place kind fs f ≡ true → count_by is_step fs ≤ 15 → count_by is_step fs + cond (is_step f) 1 0 ≤ 15
steps_kept kind fs (Rule row) p h = omega arith
steps_kept Book fs RankStep p h = let l = ltb-true _ _ (and_parts (not (ended fs)) (ltb (count_by is_step fs) 15) p).1 in omega arith
steps_kept Catalogue fs RankStep p h = absurd (false≢true p)
steps_kept kind fs (Wish body) p h = omega arith
steps_kept kind fs (Alternative level condition) p h = omega arith
steps_kept kind fs (End n) p h = omega arith
steps_kept kind fs (Fit set) p h = omega arith

-- the rows of the frames fs, which were seen, stand in the table
pub record Going {R : Type 0} (given : ℕ → ℕ → Frame → Option R) (kind : TextKind) (text rest : List ℕ) (table table₀ : List R) (n : ℕ) (seen : Seen) (fs : List Frame) : Type 0 where
  pub known : Saw seen fs
  pub short : length fs + length rest ≤ length text
  pub left : read_from kind [] (lines text) ≡ read_from kind fs (lines rest)
  pub ranks : count_by is_step fs ≤ 15
  pub within : n ≤ length table
  pub front : take n table ≡ rows_in given fs
  pub back : drop n table ≡ drop n table₀

module _ {R : Type 0} {given : ℕ → ℕ → Frame → Option R} {kind : TextKind} {text rest : List ℕ} {table table₀ : List R} {n : ℕ} {seen : Seen} {fs : List Frame}
    (going : Going given kind text rest table table₀ n seen fs) {whole : List Frame} (ok : read_from kind [] (lines text) ≡ Ok whole) where
  module _ {f : Frame} {r : List ℕ} (step : stepped kind fs rest ≡ Ok (f, r)) where
    on : read_from kind [] (lines text) ≡ read_from kind (fs ++ f ∷ []) (lines r)
    on = going.left ∙ step_on kind fs rest f r step

    rows_now : rows_in given (fs ++ f ∷ []) ≡ rows_in given fs ++ onto (given seen.steps seen.wishes f) []
    rows_now =
        rows_more given fs f ∙ ap (λ k. rows_in given fs ++ onto (given k (count_by is_wish fs) f) []) (sym (ap (λ s. s.steps) going.known.summary))
        ∙ ap (λ k. rows_in given fs ++ onto (given seen.steps k f) []) (sym (ap (λ s. s.wishes) going.known.summary))

    pub fill_shorter : length r < length rest
    fill_shorter = read_shorter rest f r (step_read kind fs rest f r step).0

    pub fill_placed : in_place kind fs f ≡ true
    fill_placed = (placed kind fs f (step_read kind fs rest f r step).1).0

    -- there is room for the row of the frame, if it gives one
    pub fill_room : {o : Option R} → o ≡ given seen.steps seen.wishes f → length (rows_in given whole) ≤ length table₀ → length table ≡ length table₀ → length (onto o []) + n ≤ length table
    fill_room eo room same =
        let p = accepts kind (fs ++ f ∷ []) r whole (sym on ∙ ok) in
        let all = ap (λ x. length (rows_in given x)) p.1 in
        let first = rows_front given (fs ++ f ∷ []) p.0 in
        let row = ap (λ x. length (onto x [])) eo in
        let now = ap length rows_now ∙ length-append (rows_in given fs) (onto (given seen.steps seen.wishes f) []) in
        let had = sym (length-take-le n table going.within) ∙ ap length going.front in omega arith

    pub fill_again : {o : Option R} {k : ℕ} {next : Seen} {table' : List R} → o ≡ given seen.steps seen.wishes f → k ≡ n + length (onto o []) → k ≤ length table → Saw next (fs ++ f ∷ [])
        → table' ≡ placed_at table n o → Going given kind text r table' table₀ k next (fs ++ f ∷ [])
    fill_again {o} {k} {next} {table'} eo ek h es et =
        let shorter = fill_shorter in
        let one = length-append fs (f ∷ []) in
        let fewer = one_more is_step f fs in
        let still = steps_kept kind fs f fill_placed going.ranks in
        let put = row_put table table₀ (rows_in given fs) n going.front going.back o k ek h in
        let long = going.short in
        record {
          known = es;
          short = omega arith;
          left = on;
          ranks = omega arith;
          within = subst (λ (x : List R). k ≤ length x) (sym et) put.0;
          front = ap (take k) et ∙ put.1 ∙ ap (λ x. rows_in given fs ++ onto x []) eo ∙ sym rows_now;
          back = ap (drop k) et ∙ put.2;
        }

  done_at : (b : Bool) → ended fs ≡ b → cond b (Ok fs) (refused Place (length fs + 1)) ≡ Ok whole → fs ≡ whole
  done_at true e h = ok_same h
  done_at false e h = absurd (ok_err (sym h))

  done_here : (k : ℕ) (x : Fault) → length rest ≡ k → stepped kind fs rest ≡ Err x → fs ≡ whole
  done_here zero x z e = done_at (ended fs) refl (sym (read_end kind fs rest z) ∙ sym going.left ∙ ok)
  done_here (suc k) x z e = absurd (ok_err (sym ok ∙ going.left ∙ step_refused kind fs rest x (omega arith) e))

  pub fill_done : {x : Fault} → stepped kind fs rest ≡ Err x → table ≡ overwritten (rows_in given whole) table₀
  fill_done {x} e =
      let same = done_here (length rest) x refl e in
      all_put table table₀ (rows_in given whole) n (going.front ∙ ap (rows_in given) same) going.back going.within
