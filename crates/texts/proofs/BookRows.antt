-- The tables that an accepted book gives are writable, and their numbers fit.
use Rattle.std.proofs.Common.{◌≡◌, ℕ, ◌+◌, ◌-◌, ◌^◌, ◌<◌, ◌≤◌, true, cond, not, ltb, leb, List, [], ◌∷◌, ◌++◌, length, Some, None, Option, sym, refl, ap, ◌∙◌, subst, arith}
use Rattle.std.specs.List.{AllByRecursion, list_all, count_by}
use Rattle.std.proofs.lemmas.List.{length-append}
use Rattle.std.proofs.lemmas.Bool.{and_parts, and_from, le-leb, lt-ltb, ltb-true, false≢true}
use Rattle.tables.specs.Rows.{makes_rule, makes_wish, makes_alternative}
use Rattle.frames.specs.declared.frame.Frame.{Frame}
use Rattle.frames.specs.declared.frame.Frame.TheVariants.{Rule, RankStep, Wish, Alternative, End, Fit}
use Rattle.frames.specs.Frames.{RuleFits}
use Rattle.texts.specs.declared.seen.TextKind.TheVariants.{Book}
use Rattle.texts.specs.Places.{is_step, is_wish, is_last, of_wish, ended}
use Rattle.texts.specs.Reading.{limit}
use Rattle.tables.specs.Tables.{onto}
use Rattle.texts.specs.Rows.{rule_in, wish_in, alternative_in, rows_from, rows_in, Tables, tables_of}
use Rattle.texts.specs.Writing.{text_of, ending, book_frames, rising, holdable, writable_book}
use Rattle.texts.specs.Meaning.{WishFits, AlternativeFits, TablesFit}
use Rattle.texts.specs.Turns.{InTurn}
use Rattle.texts.proofs.BookWritten.{GoodRule, GoodWish, GoodAlternative, ranks, owners}
use Rattle.texts.proofs.BookTurns.{book_frames_lem}
use Rattle.texts.proofs.PlaceLaws.{placed, is_last_more}
use Rattle.texts.proofs.SummaryLaws.{one_more}
use Rattle.texts.proofs.TurnLaws.{AllGood}
use Rattle.texts.proofs.TextFrames.{good_last, passed_all}

-- The rows that frames give behind s steps and n wishes: each makes a record, ranks rise, and alternatives stand in the order
-- of their wishes, which are among the first N.
record Lawful (N s n : ℕ) (tail : List Frame) : Type 0 where
  rules : AllByRecursion GoodRule (rows_from rule_in s n tail)
  wishes : AllByRecursion GoodWish (rows_from wish_in s n tail)
  alternatives : AllByRecursion GoodAlternative (rows_from alternative_in s n tail)
  owned : list_all (λ a. ltb a.wish N) (rows_from alternative_in s n tail) ≡ true
  ranks_rise : (low : ℕ) → low ≤ s + 1 → rising low (ranks (rows_from wish_in s n tail)) ≡ true
  owners_rise : (low : ℕ) → low ≤ n - 1 → rising low (owners (rows_from alternative_in s n tail)) ≡ true

module _ (N : ℕ) (few : N ≤ 2 ^ 16) where
  -- good frames in turn give lawful rows
  lawful : (tail before : List Frame) (s n : ℕ) → count_by is_step before ≡ s → s ≤ 15 → (is_last of_wish before ≡ true → 1 ≤ n)
      → n + length (rows_from wish_in s n tail) ≤ N → AllGood tail → InTurn Book before tail → Lawful N s n tail
  lawful [] before s n es h on room g t = record {
    rules = tt;
    wishes = tt;
    alternatives = tt;
    owned = refl;
    ranks_rise = λ low l. refl;
    owners_rise = λ low l. refl;
  }
  lawful (Rule row ∷ tail) before s n es h on room g t =
      let next = lawful tail (before ++ Rule row ∷ []) (s + 0) (n + 0) (one_more is_step (Rule row) before ∙ ap (λ k. k + 0) es) (omega arith) (λ e. absurd (false≢true (sym (is_last_more of_wish (Rule row) before) ∙ e))) (omega arith) g.1 t.1 in
      record {
        rules = (g.0, next.rules);
        wishes = next.wishes;
        alternatives = next.alternatives;
        owned = next.owned;
        ranks_rise = λ low l. next.ranks_rise low (omega arith);
        owners_rise = λ low l. next.owners_rise low (omega arith);
      }
  lawful (RankStep ∷ tail) before s n es h on room g t =
      let more = ltb-true (count_by is_step before) 15 (and_parts (not (ended before)) (ltb (count_by is_step before) 15) (placed Book before RankStep t.0).0).1 in
      let next = lawful tail (before ++ RankStep ∷ []) (s + 1) (n + 0) (one_more is_step RankStep before ∙ ap (λ k. k + 1) es) (omega arith) (λ e. absurd (false≢true (sym (is_last_more of_wish RankStep before) ∙ e))) (omega arith) g.1 t.1 in
      record {
        rules = next.rules;
        wishes = next.wishes;
        alternatives = next.alternatives;
        owned = next.owned;
        ranks_rise = λ low l. next.ranks_rise low (omega arith);
        owners_rise = λ low l. next.owners_rise low (omega arith);
      }
  lawful (Wish body ∷ tail) before s n es h on room g t =
      let next = lawful tail (before ++ Wish body ∷ []) (s + 0) (n + 1) (one_more is_step (Wish body) before ∙ ap (λ k. k + 0) es) (omega arith) (λ e. omega arith) (omega arith) g.1 t.1 in
      record {
        rules = next.rules;
        wishes = (((omega arith, g.0.0), and_from (leb 1 (s + 1)) (leb (s + 1) 16) (le-leb 1 (s + 1) (omega arith)) (le-leb (s + 1) 16 (omega arith))), next.wishes);
        alternatives = next.alternatives;
        owned = next.owned;
        ranks_rise = λ low l. and_from (leb low (s + 1)) _ (le-leb low (s + 1) l) (next.ranks_rise (s + 1) (omega arith));
        owners_rise = λ low l. next.owners_rise low (omega arith);
      }
  lawful (Alternative level condition ∷ tail) before s n es h on room g t =
      let some = on (placed Book before (Alternative level condition) t.0).0 in
      let next = lawful tail (before ++ Alternative level condition ∷ []) (s + 0) (n + 0) (one_more is_step (Alternative level condition) before ∙ ap (λ k. k + 0) es) (omega arith) (λ e. omega arith) (omega arith) g.1 t.1 in
      let number : n - 1 < 2 ^ 64 = omega arith in
      record {
        rules = next.rules;
        wishes = next.wishes;
        alternatives = (((number, g.0.0.0, g.0.0.1), g.0.1), next.alternatives);
        owned = and_from (ltb (n - 1) N) _ (lt-ltb (n - 1) N (omega arith)) next.owned;
        ranks_rise = λ low l. next.ranks_rise low (omega arith);
        owners_rise = λ low l. and_from (leb low (n - 1)) _ (le-leb low (n - 1) l) (next.owners_rise (n - 1) (omega arith));
      }
  lawful (End k ∷ tail) before s n es h on room g t =
      let next = lawful tail (before ++ End k ∷ []) (s + 0) (n + 0) (one_more is_step (End k) before ∙ ap (λ j. j + 0) es) (omega arith) (λ e. absurd (false≢true (sym (is_last_more of_wish (End k) before) ∙ e))) (omega arith) g.1 t.1 in
      record {
        rules = next.rules;
        wishes = next.wishes;
        alternatives = next.alternatives;
        owned = next.owned;
        ranks_rise = λ low l. next.ranks_rise low (omega arith);
        owners_rise = λ low l. next.owners_rise low (omega arith);
      }
  lawful (Fit set ∷ tail) before s n es h on room g t = absurd (false≢true (placed Book before (Fit set) t.0).0)

-- no more rows than frames
onto_few : {R : Type 0} (o : Option R) (rows : List R) → length (onto o rows) ≤ length rows + 1
onto_few None rows = omega arith
onto_few (Some row) rows = omega arith

wishes_few : (s n : ℕ) (fs : List Frame) → length (rows_from wish_in s n fs) ≤ length fs
wishes_few s n [] = omega arith
wishes_few s n (f ∷ fs) =
    let h = wishes_few (s + cond (is_step f) 1 0) (n + cond (is_wish f) 1 0) fs in
    let o = onto_few (wish_in s n f) (rows_from wish_in (s + cond (is_step f) 1 0) (n + cond (is_wish f) 1 0) fs) in omega arith

-- an accepted book gives writable tables
pub book_writable : (fs : List Frame) → AllGood fs → InTurn Book [] fs → ended fs ≡ true → length (text_of fs) ≤ limit → TablesFit (tables_of fs) × (writable_book (tables_of fs) ≡ true)
book_writable fs good turn done short =
    let t : Tables = tables_of fs in
    let is = book_frames_lem fs turn done in
    let number = length (book_frames t) in
    let Goods : List Frame → Type 0 = λ x. AllGood x in
    let few : number < 2 ^ 16 = (good_last (book_frames t) (End number) (subst Goods is good)).0 in
    let long = ap length is ∙ length-append (book_frames t) (End number ∷ []) in
    let wishes_few' = wishes_few 0 0 fs in
    let law = lawful (length (rows_in wish_in fs)) (omega arith) fs [] 0 0 refl (omega arith) (λ e. absurd (false≢true e)) (omega arith) good turn in
    let (fit_rules, made_rules) = passed_all RuleFits makes_rule t.rules law.rules in
    let (fit_wishes, made_wishes) = passed_all WishFits makes_wish t.wishes law.wishes in
    let (fit_alternatives, made_alternatives) = passed_all AlternativeFits makes_alternative t.alternatives law.alternatives in
    let within : length (text_of (ending (book_frames t))) ≤ limit = let e = ap (λ x. length (text_of x)) is in omega arith in
    let held : holdable (book_frames t) ≡ true = and_from _ _ (le-leb (length (text_of (ending (book_frames t)))) limit within) (lt-ltb number 65536 few) in (
      (fit_rules, fit_wishes, fit_alternatives),
      and_from _ _ (and_from _ _ made_rules (and_from _ _ made_wishes (and_from _ _ made_alternatives (and_from _ _ (law.ranks_rise 0 (omega arith)) (and_from _ _ (law.owners_rise 0 (omega arith)) law.owned))))) held,
    )
