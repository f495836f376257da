-- What an accepted text gives to tables of so many rows.
use Rattle.std.proofs.Common.{◌≡◌, ℕ, ◌+◌, ◌<◌, ◌≤◌, Bool, true, false, cond, ◌||◌, ltb, List, [], ◌∷◌, length, Some, None, Ok, Option, Result, sym, refl, ap, ◌∙◌, arith}
use Rattle.std.specs.List.{count_by}
use Rattle.std.proofs.lemmas.Bool.{lt-ltb, le-ltb, ltb-false, cond-true, cond-false, or_parts}
use Rattle.literals.specs.declared.literal_set.LiteralSet.{LiteralSet}
use Rattle.frames.specs.declared.frame.Frame.{Frame}
use Rattle.frames.specs.declared.frame.Frame.TheVariants.{Rule, RankStep, Wish, Alternative, End, Fit}
use Rattle.texts.specs.declared.book_size.BookSize.{BookSize}
use Rattle.texts.specs.declared.fault.Fault.TheVariants.{TableShort}
use Rattle.texts.specs.declared.fault.Refusal.{Refusal}
use Rattle.texts.specs.declared.seen.Seen.{Seen}
use Rattle.texts.specs.declared.seen.TextKind.TheVariants.{Book, Catalogue}
use Rattle.texts.specs.Summary.{Saw, size_seen}
use Rattle.texts.specs.Places.{is_rule, is_step, is_wish, is_alternative, is_fit}
use Rattle.texts.specs.Reading.{refused, and_then, frames_in}
use Rattle.tables.specs.Tables.{onto}
use Rattle.texts.specs.Rows.{rule_in, wish_in, alternative_in, fit_in, rows_from, rows_in, Tables, tables_of, size_of, is_short, read_catalogue, read_book}
use Rattle.texts.proofs.SummaryLaws.{count_cons}

onto_length : {R : Type 0} (o : Option R) (rows : List R) → length (onto o rows) ≡ length (onto o []) + length rows
onto_length None rows = omega arith
onto_length (Some row) rows = omega arith

-- as many rows as there are frames that give one
abbrev Once : {R : Type 0} → (ℕ → ℕ → Frame → Option R) → (Frame → Bool) → ℕ → ℕ → Frame → Type 0
Once given gives s n f = length (onto (given s n f) []) ≡ cond (gives f) 1 0

module _ {R : Type 0} (given : ℕ → ℕ → Frame → Option R) (gives : Frame → Bool) (one : (s n : ℕ) (f : Frame) → Once given gives s n f) where
  row_count_lem : (s n : ℕ) (fs : List Frame) → length (rows_from given s n fs) ≡ count_by gives fs
  row_count_lem s n [] = refl
  row_count_lem s n (f ∷ fs) =
      let later = rows_from given (s + cond (is_step f) 1 0) (n + cond (is_wish f) 1 0) fs in
      let rest = row_count_lem (s + cond (is_step f) 1 0) (n + cond (is_wish f) 1 0) fs in
      let here = one s n f in
      let all = count_cons gives f fs in onto_length (given s n f) later ∙ omega arith

each_once : (s n : ℕ) (f : Frame) → Once rule_in is_rule s n f × Once wish_in is_wish s n f × Once alternative_in is_alternative s n f × Once fit_in is_fit s n f
each_once s n (Rule row) = (refl, refl, refl, refl)
each_once s n RankStep = (refl, refl, refl, refl)
each_once s n (Wish body) = (refl, refl, refl, refl)
each_once s n (Alternative level condition) = (refl, refl, refl, refl)
each_once s n (End k) = (refl, refl, refl, refl)
each_once s n (Fit set) = (refl, refl, refl, refl)

rule_count : (fs : List Frame) → length (rows_in rule_in fs) ≡ count_by is_rule fs
rule_count fs = row_count_lem rule_in is_rule (λ s n f. (each_once s n f).0) 0 0 fs

wish_count : (fs : List Frame) → length (rows_in wish_in fs) ≡ count_by is_wish fs
wish_count fs = row_count_lem wish_in is_wish (λ s n f. (each_once s n f).1) 0 0 fs

alternative_count : (fs : List Frame) → length (rows_in alternative_in fs) ≡ count_by is_alternative fs
alternative_count fs = row_count_lem alternative_in is_alternative (λ s n f. (each_once s n f).2) 0 0 fs

pub fit_count : (fs : List Frame) → length (rows_in fit_in fs) ≡ count_by is_fit fs
fit_count fs = row_count_lem fit_in is_fit (λ s n f. (each_once s n f).3) 0 0 fs

module _ (text : List ℕ) (room : ℕ) (fs : List Frame) (e : frames_in Catalogue text ≡ Ok fs) where
  roomy : Result (List Frame) Refusal → Result (List LiteralSet) Refusal
  roomy r = and_then (and_then r (λ gs. Ok (rows_in fit_in gs))) (λ rows. cond (ltb room (length rows)) (refused TableShort 0) (Ok rows))

  pub catalogue_short : room < length (rows_in fit_in fs) → read_catalogue text room ≡ refused TableShort 0
  unfolding roomy
  catalogue_short h = ap roomy e ∙ cond-true _ _ _ (lt-ltb room (length (rows_in fit_in fs)) h)

  pub catalogue_read : length (rows_in fit_in fs) ≤ room → read_catalogue text room ≡ Ok (rows_in fit_in fs)
  unfolding roomy
  catalogue_read h = ap roomy e ∙ cond-false _ _ _ (le-ltb room (length (rows_in fit_in fs)) h)

module _ (text : List ℕ) (room : BookSize) (fs : List Frame) (seen : Seen) (saw : Saw seen fs) (e : frames_in Book text ≡ Ok fs) where
  abbrev t : Tables
  t = tables_of fs

  in_tables : Result (List Frame) Refusal → Result Tables Refusal
  in_tables r = and_then (and_then r (λ gs. Ok (tables_of gs))) (λ u. cond (is_short room (size_of u)) (refused TableShort 0) (Ok u))

  -- how long the tables of the text are
  pub book_sizes : size_of t ≡ size_seen seen
  book_sizes =
      let rules = rule_count fs ∙ sym (ap (λ s. s.rules) saw.summary) in
      let wishes = wish_count fs ∙ sym (ap (λ s. s.wishes) saw.summary) in
      let alternatives = alternative_count fs ∙ sym (ap (λ s. s.alternatives) saw.summary) in
      λ i. record { rules = rules i; wishes = wishes i; alternatives = alternatives i }

  pub book_short : is_short room (size_seen seen) ≡ true → read_book text room ≡ refused TableShort 0
  unfolding in_tables
  book_short h = ap in_tables e ∙ cond-true _ _ _ (ap (is_short room) book_sizes ∙ h)

  pub book_read : is_short room (size_seen seen) ≡ false → read_book text room ≡ Ok t
  unfolding in_tables
  book_read h = ap in_tables e ∙ cond-false _ _ _ (ap (is_short room) book_sizes ∙ h)

  pub book_room : is_short room (size_seen seen) ≡ false → (length t.rules ≤ room.rules) × (length t.wishes ≤ room.wishes) × (length t.alternatives ≤ room.alternatives)
  book_room h =
      let fits = ap (is_short room) book_sizes ∙ h in
      let p = or_parts (ltb room.rules (length t.rules)) (ltb room.wishes (length t.wishes) || ltb room.alternatives (length t.alternatives)) fits in
      let q = or_parts (ltb room.wishes (length t.wishes)) (ltb room.alternatives (length t.alternatives)) p.1 in
      (ltb-false room.rules (length t.rules) p.0, ltb-false room.wishes (length t.wishes) q.0, ltb-false room.alternatives (length t.alternatives) q.1)
