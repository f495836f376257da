-- The frames of writable tables stand in turn, are good, and give the tables back.
use Rattle.std.proofs.Common.{◌≡◌, ℕ, zero, suc, ◌+◌, ◌-◌, ◌^◌, ◌<◌, ◌≤◌, Bool, true, false, cond, ◌&&◌, ◌||◌, eqb, ltb, leb, List, [], ◌∷◌, ◌++◌, map, length, replicate, sym, refl, ap, ◌∙◌, subst, arith}
use Rattle.std.specs.List.{AllByRecursion, list_all, count_by}
use Rattle.std.proofs.lemmas.List.{append_assoc, length-append, length-map, length-replicate}
use Rattle.std.proofs.lemmas.Bool.{and_parts, and_from, eq-eqb, eqb-true, eqb-false, le-leb, leb-true, lt-ltb, ltb-true, not_from_false, cond_both}
use Rattle.tables.specs.declared.row.RuleRow.{RuleRow}
use Rattle.tables.specs.declared.row.WishRow.{WishRow}
use Rattle.tables.specs.declared.row.AlternativeRow.{AlternativeRow}
use Rattle.tables.specs.Rows.{makes_rule, makes_wish, makes_alternative}
use Rattle.frames.specs.declared.frame.Frame.{Frame}
use Rattle.frames.specs.declared.frame.Frame.TheVariants.{Rule, RankStep, Wish, End}
use Rattle.frames.specs.Frames.{RuleFits, ConditionFits}
use Rattle.texts.specs.declared.seen.TextKind.TheVariants.{Book}
use Rattle.texts.specs.Places.{is_rule, is_step, is_end, is_last, of_wish, ended}
use Rattle.texts.specs.Reading.{limit}
use Rattle.texts.specs.Rows.{rule_in, wish_in, alternative_in, rows_from, Tables, tables_of}
use Rattle.texts.specs.Writing.{text_of, ending, alternative_frame, of_last, past_last, wish_frames, book_frames, rising, holdable, orderly, is_sound, writable_book}
use Rattle.texts.specs.Meaning.{WishFits, AlternativeFits, TablesFit}
use Rattle.texts.specs.Turns.{InTurn}
use Rattle.texts.proofs.BookTurns.{all_more}
use Rattle.texts.proofs.PlaceLaws.{some_more, is_last_more}
use Rattle.texts.proofs.SummaryLaws.{one_more}
use Rattle.texts.proofs.TurnLaws.{AllGood}
use Rattle.texts.proofs.TextFrames.{admits, all_passed}

abbrev pub GoodRule : RuleRow → Type 0
GoodRule r = RuleFits r × (makes_rule r ≡ true)

abbrev pub GoodWish : WishRow → Type 0
GoodWish w = WishFits w × (makes_wish w ≡ true)

abbrev pub GoodAlternative : AlternativeRow → Type 0
GoodAlternative a = AlternativeFits a × (makes_alternative a ≡ true)

abbrev pub ranks : List WishRow → List ℕ
ranks ws = map (λ w. w.rank) ws

abbrev pub owners : List AlternativeRow → List ℕ
owners xs = map (λ a. a.wish) xs

-- The frames before a frame: none is an end, so many are steps, and so many they are.
record Behind (before : List Frame) (s l : ℕ) : Type 0 where
  going : ended before ≡ false
  stepped : count_by is_step before ≡ s
  long : length before ≡ l

further : (f : Frame) (before : List Frame) (s l : ℕ) → is_end f ≡ false → Behind before s l → Behind (before ++ f ∷ []) (s + cond (is_step f) 1 0) (l + 1)
further f before s l e at = record {
  going = some_more is_end f before ∙ ap (λ b. b || is_end f) at.going ∙ e;
  stepped = one_more is_step f before ∙ ap (λ k. k + cond (is_step f) 1 0) at.stepped;
  long = length-append before (f ∷ []) ∙ ap (λ k. k + 1) at.long;
}

-- Frames in turn behind others, s of which are steps and n of which are wishes: they are good, and give these rows.
record Reads (before : List Frame) (s n : ℕ) (tail : List Frame) (rules : List RuleRow) (wishes : List WishRow) (alternatives : List AlternativeRow) : Type 0 where
  turn : InTurn Book before tail
  good : AllGood tail
  rules_are : rows_from rule_in s n tail ≡ rules
  wishes_are : rows_from wish_in s n tail ≡ wishes
  alternatives_are : rows_from alternative_in s n tail ≡ alternatives

-- One frame in front.
module _ {before tail : List Frame} {s n : ℕ} {rs : List RuleRow} {ws : List WishRow} {xs : List AlternativeRow} where
  rule_read : (row : RuleRow) → GoodRule row → list_all is_rule before ≡ true
      → Reads (before ++ Rule row ∷ []) (s + 0) (n + 0) tail rs ws xs → Reads before s n (Rule row ∷ tail) (row ∷ rs) ws xs
  rule_read row g h next = record {
    turn = (admits Book before (Rule row) h refl, next.turn);
    good = (g, next.good);
    rules_are = ap (λ x. row ∷ x) next.rules_are;
    wishes_are = next.wishes_are;
    alternatives_are = next.alternatives_are;
  }

  step_read : {l : ℕ} → Behind before s l → s < 15 → Reads (before ++ RankStep ∷ []) (s + 1) (n + 0) tail rs ws xs → Reads before s n (RankStep ∷ tail) rs ws xs
  step_read at h next =
      let e = at.stepped in
      record {
        turn = (admits Book before RankStep (and_from _ _ (not_from_false _ at.going) (lt-ltb (count_by is_step before) 15 (omega arith))) refl, next.turn);
        good = ((tt, refl), next.good);
        rules_are = next.rules_are;
        wishes_are = next.wishes_are;
        alternatives_are = next.alternatives_are;
      }

  wish_read : {l : ℕ} (w : WishRow) → Behind before s l → ConditionFits w.body → s + 1 ≡ w.rank
      → Reads (before ++ Wish w.body ∷ []) (s + 0) (n + 1) tail rs ws xs → Reads before s n (Wish w.body ∷ tail) rs (w ∷ ws) xs
  wish_read w at g e next =
      let same : ◌≡◌ {A = WishRow} (record { rank = s + 1; body = w.body }) w = λ i. record { rank = e i; body = w.body } in
      record {
        turn = (admits Book before (Wish w.body) (not_from_false _ at.going) refl, next.turn);
        good = ((g, refl), next.good);
        rules_are = next.rules_are;
        wishes_are = ap (λ x. record { rank = s + 1; body = w.body } ∷ x) next.wishes_are ∙ ap (λ x. x ∷ ws) same;
        alternatives_are = next.alternatives_are;
      }

  alternative_read : (a : AlternativeRow) → GoodAlternative a → is_last of_wish before ≡ true → n ≡ a.wish + 1
      → Reads (before ++ alternative_frame a ∷ []) (s + 0) (n + 0) tail rs ws xs → Reads before s n (alternative_frame a ∷ tail) rs ws (a ∷ xs)
  alternative_read a g h e next =
      let number : n - 1 ≡ a.wish = omega arith in
      let same : ◌≡◌ {A = AlternativeRow} (record { wish = n - 1; level = a.level; condition = a.condition }) a =
      λ i. record { wish = number i; level = a.level; condition = a.condition } in
      record {
        turn = (admits Book before (alternative_frame a) h refl, next.turn);
        good = (((g.0.1, g.0.2), g.1), next.good);
        rules_are = next.rules_are;
        wishes_are = next.wishes_are;
        alternatives_are = ap (λ x. record { wish = n - 1; level = a.level; condition = a.condition } ∷ x) next.alternatives_are ∙ ap (λ x. x ∷ xs) same;
      }

end_read : {before : List Frame} {s n l : ℕ} (k : ℕ) → Behind before s l → is_last is_step before ≡ false → k ≡ l → k < 2 ^ 16 → Reads before s n (End k ∷ []) [] [] []
end_read {before} k at off e few =
    let long = at.long in
    record {
      turn = (admits Book before (End k) (and_from _ _ (not_from_false _ at.going) (not_from_false _ off)) (eq-eqb k (length before) (omega arith)), tt);
      good = ((few, refl), tt);
      rules_are = refl;
      wishes_are = refl;
      alternatives_are = refl;
    }

-- Many frames in front; `next` says what is behind them, from what they leave known.
module _ (tail : List Frame) (ws : List WishRow) (xs : List AlternativeRow) where
  rules_read : (rows : List RuleRow) (before : List Frame) (s n l : ℕ) → AllByRecursion GoodRule rows → list_all is_rule before ≡ true → Behind before s l → s ≡ 0 → n ≡ 0 → is_last is_step before ≡ false
      → ((b : List Frame) (s' n' l' : ℕ) → Behind b s' l' → s' ≡ 0 → n' ≡ 0 → l' ≡ l + length rows → is_last is_step b ≡ false → Reads b s' n' tail [] ws xs) → Reads before s n (map Rule rows ++ tail) rows ws xs
  rules_read [] before s n l g h at es en off next = next before s n l at es en (omega arith) off
  rules_read (row ∷ rows) before s n l g h at es en off next =
      rule_read row g.0 h
      (rules_read rows (before ++ Rule row ∷ []) (s + 0) (n + 0) (l + 1) g.1 (all_more is_rule (Rule row) before ∙ ap (λ b. b && true) h)
      (further (Rule row) before s l refl at) (omega arith) (omega arith) (is_last_more is_step (Rule row) before)
      (λ b s' n' l' at' es' en' el off'. next b s' n' l' at' es' en' (omega arith) off'))

module _ (tail : List Frame) (rs : List RuleRow) (ws : List WishRow) (xs : List AlternativeRow) where
  steps_read : (k : ℕ) (before : List Frame) (s n l : ℕ) → Behind before s l → s + k ≤ 15
      → ((b : List Frame) (s' n' l' : ℕ) → Behind b s' l' → s' ≡ s + k → n' ≡ n → l' ≡ l + k → Reads b s' n' tail rs ws xs) → Reads before s n (replicate k RankStep ++ tail) rs ws xs
  steps_read zero before s n l at h next = next before s n l at (omega arith) refl (omega arith)
  steps_read (suc k) before s n l at h next =
      step_read at (omega arith)
      (steps_read k (before ++ RankStep ∷ []) (s + 1) (n + 0) (l + 1) (further RankStep before s l refl at) (omega arith) (λ b s' n' l' at' es en el. next b s' n' l' at' (omega arith) (omega arith) (omega arith)))

  alternatives_read : (ys : List AlternativeRow) (before : List Frame) (s n m l : ℕ) → AllByRecursion GoodAlternative ys → AllByRecursion (λ a. a.wish + 1 ≡ m) ys → n ≡ m
      → Behind before s l → is_last of_wish before ≡ true → is_last is_step before ≡ false
      → ((b : List Frame) (s' n' l' : ℕ) → Behind b s' l' → s' ≡ s → n' ≡ m → l' ≡ l + length ys → is_last is_step b ≡ false → Reads b s' n' tail rs ws xs) → Reads before s n (map alternative_frame ys ++ tail) rs ws (ys ++ xs)
  alternatives_read [] before s n m l g own e at on off next = next before s n l at refl e (omega arith) off
  alternatives_read (a ∷ ys) before s n m l g own e at on off next =
      let mine = own.0 in
      alternative_read a g.0 on (omega arith)
      (alternatives_read ys (before ++ alternative_frame a ∷ []) (s + 0) (n + 0) m (l + 1) g.1 own.1 (omega arith)
      (further (alternative_frame a) before s l refl at) (is_last_more of_wish (alternative_frame a) before) (is_last_more is_step (alternative_frame a) before)
      (λ b s' n' l' at' es en el off'. next b s' n' l' at' (omega arith) en (omega arith) off'))

-- The alternatives of a wish, and those behind them.
split_rows : (m : ℕ) (rows : List AlternativeRow) → of_last m rows ++ past_last m rows ≡ rows
split_rows m [] = refl
split_rows m (a ∷ rows) = split_at (eqb (a.wish + 1) m) (split_rows m rows)
  where
    split_at : (b : Bool) → of_last m rows ++ past_last m rows ≡ rows → cond b (a ∷ of_last m rows) [] ++ cond b (past_last m rows) (a ∷ rows) ≡ a ∷ rows
    split_at true e = ap (λ x. a ∷ x) e
    split_at false e = refl

own_rows : (m : ℕ) (rows : List AlternativeRow) → AllByRecursion (λ a. a.wish + 1 ≡ m) (of_last m rows)
own_rows m [] = tt
own_rows m (a ∷ rows) = cond_both (eqb (a.wish + 1) m) (a ∷ of_last m rows) [] (AllByRecursion (λ x. x.wish + 1 ≡ m)) (λ e. (eqb-true (a.wish + 1) m e, own_rows m rows)) (λ e. tt)

later_rows : (n : ℕ) (rows : List AlternativeRow) → rising n (owners rows) ≡ true → rising (n + 1) (owners (past_last (n + 1) rows)) ≡ true
later_rows n [] h = refl
later_rows n (a ∷ rows) h =
    let (low, up) = and_parts (leb n a.wish) (rising a.wish (owners rows)) h in
    let low' = leb-true n a.wish low in
    cond_both (eqb (a.wish + 1) (n + 1)) (past_last (n + 1) rows) (a ∷ rows) (λ x. rising (n + 1) (owners x) ≡ true)
    (λ e. let here = eqb-true (a.wish + 1) (n + 1) e in let same : a.wish ≡ n = omega arith in later_rows n rows (ap (λ k. rising k (owners rows)) (sym same) ∙ up))
    (λ e. let other = eqb-false (a.wish + 1) (n + 1) e in and_from _ _ (le-leb (n + 1) a.wish (omega arith)) up)

all_parts : {A : Type 0} (P : A → Type 0) (xs ys : List A) → AllByRecursion P (xs ++ ys) → AllByRecursion P xs × AllByRecursion P ys
all_parts P [] ys h = (tt, h)
all_parts P (x ∷ xs) ys h = let q = all_parts P xs ys h.1 in ((h.0, q.0), q.1)

-- an alternative that makes a record and has its wish among the first N
abbrev Owned : ℕ → AlternativeRow → Type 0
Owned N a = GoodAlternative a × (a.wish < N)

owned_good : (N : ℕ) (xs : List AlternativeRow) → AllByRecursion (Owned N) xs → AllByRecursion GoodAlternative xs
owned_good N [] h = tt
owned_good N (a ∷ xs) h = (h.0.0, owned_good N xs h.1)

-- none is left behind the last wish
none_left : (n N : ℕ) (rows : List AlternativeRow) → rising n (owners rows) ≡ true → AllByRecursion (Owned N) rows → N ≡ n → [] ≡ rows
none_left n N [] up own e = refl
none_left n N (a ∷ rows) up own e =
    let low = leb-true n a.wish (and_parts (leb n a.wish) (rising a.wish (owners rows)) up).0 in
    let high = own.0.1 in absurd (omega arith)

-- Wishes and their alternatives, and then the end.
wishes_read : (ws : List WishRow) (rows : List AlternativeRow) (before : List Frame) (s m r n l k N : ℕ) → r ≡ s + 1 → m ≡ n → Behind before s l → is_last is_step before ≡ false
    → AllByRecursion GoodWish ws → rising r (ranks ws) ≡ true → AllByRecursion (Owned N) rows → rising n (owners rows) ≡ true → N ≡ n + length ws → k ≡ l + length (wish_frames r n ws rows) → k < 2 ^ 16
    → Reads before s m (wish_frames r n ws rows ++ End k ∷ []) [] ws rows
wishes_read [] rows before s m r n l k N er em at off gw up go up' eN ek few =
    let P : List AlternativeRow → Type 0 = λ x. Reads before s m (End k ∷ []) [] [] x in subst P (none_left n N rows up' go (omega arith)) (end_read k at off (omega arith) few)
wishes_read (w ∷ ws) rows before s m r n l k N er em at off gw up go up' eN ek few =
    let (low, up₁) = and_parts (leb r w.rank) (rising w.rank (ranks ws)) up in
    let low' = leb-true r w.rank low in
    let high = leb-true w.rank 16 (and_parts (leb 1 w.rank) (leb w.rank 16) gw.0.1).1 in
    let d : ℕ = w.rank - r in
    let same : w.rank ≡ r + (w.rank - r) = omega arith in
    let own = of_last (n + 1) rows in
    let past = past_last (n + 1) rows in
    let split = split_rows (n + 1) rows in
    let AllOwned : List AlternativeRow → Type 0 = AllByRecursion (Owned N) in
    let (go₁, go₂) = all_parts (Owned N) own past (subst AllOwned (sym split) go) in
    let mine = map alternative_frame own in
    let later = wish_frames (r + (w.rank - r)) (n + 1) ws past in
    let end = End k ∷ [] in
    let grouped : replicate d RankStep ++ (Wish w.body ∷ (mine ++ (later ++ end))) ≡ (replicate d RankStep ++ (Wish w.body ∷ (mine ++ later))) ++ end =
    ap (λ x. replicate d RankStep ++ (Wish w.body ∷ x)) (sym (append_assoc mine later end)) ∙ sym (append_assoc (replicate d RankStep) (Wish w.body ∷ (mine ++ later)) end) in
    let l₁ = length-append (replicate d RankStep) (Wish w.body ∷ (mine ++ later)) in
    let l₂ = length-append mine later in
    let l₃ = length-map own alternative_frame in
    let l₄ = length-replicate d RankStep in
    let total : length (replicate d RankStep ++ (Wish w.body ∷ (mine ++ later))) ≡ d + 1 + length own + length later = omega arith in
    let P : List Frame → Type 0 = λ x. Reads before s m x [] (w ∷ ws) rows in
    let Q : List AlternativeRow → Type 0 = λ x. Reads before s m (replicate d RankStep ++ (Wish w.body ∷ (mine ++ (later ++ end)))) [] (w ∷ ws) x in
    subst P grouped (subst Q split
    (steps_read (Wish w.body ∷ (mine ++ (later ++ end))) [] (w ∷ ws) (own ++ past) d before s m l at (omega arith)
    (λ b s₁ m₁ l₁' at₁ es em₁ el.
    wish_read w at₁ gw.0.0.1 (omega arith)
    (alternatives_read (later ++ end) [] ws past own (b ++ Wish w.body ∷ []) (s₁ + 0) (m₁ + 1) (n + 1) (l₁' + 1) (owned_good N own go₁) (own_rows (n + 1) rows) (omega arith)
    (further (Wish w.body) b s₁ l₁' refl at₁) (is_last_more of_wish (Wish w.body) b) (is_last_more is_step (Wish w.body) b)
    (λ c s₂ m₂ l₂' at₂ es₂ em₂ el₂ off₂.
    wishes_read ws past c s₂ m₂ (r + (w.rank - r)) (n + 1) l₂' k N (omega arith) em₂ at₂ off₂ gw.1 (ap (λ j. rising j (ranks ws)) (sym same) ∙ up₁) go₂ (later_rows n rows up') (omega arith) (omega arith) few)))))

-- The frames of writable tables: in turn, good, of a text within the limit, and giving the tables.
pub record Written (t : Tables) : Type 0 where
  pub turn : InTurn Book [] (ending (book_frames t))
  pub good : AllGood (ending (book_frames t))
  pub short : length (text_of (ending (book_frames t))) ≤ limit
  pub gives : tables_of (ending (book_frames t)) ≡ t

-- ranks are at least 1
from_one : (ws : List WishRow) → AllByRecursion GoodWish ws → rising 0 (ranks ws) ≡ true → rising 1 (ranks ws) ≡ true
from_one [] g h = refl
from_one (w ∷ ws) g h = and_from (leb 1 w.rank) _ (and_parts (leb 1 w.rank) (leb w.rank 16) g.0.1).0 (and_parts (leb 0 w.rank) (rising w.rank (ranks ws)) h).1

all_owned : (N : ℕ) (xs : List AlternativeRow) → AllByRecursion GoodAlternative xs → list_all (λ a. ltb a.wish N) xs ≡ true → AllByRecursion (Owned N) xs
all_owned N [] g h = tt
all_owned N (a ∷ xs) g h = let q = and_parts (ltb a.wish N) (list_all (λ x. ltb x.wish N) xs) h in ((g.0, ltb-true a.wish N q.0), all_owned N xs g.1 q.1)

-- Rules, then wishes and their alternatives, then the end.
book_read : (t : Tables) (N k : ℕ) → AllByRecursion GoodRule t.rules → AllByRecursion GoodWish t.wishes → AllByRecursion (Owned N) t.alternatives
    → rising 1 (ranks t.wishes) ≡ true → rising 0 (owners t.alternatives) ≡ true → N ≡ length t.wishes
    → k ≡ length (book_frames t) → k < 2 ^ 16 → Reads [] 0 0 (book_frames t ++ End k ∷ []) t.rules t.wishes t.alternatives
book_read t N k gr gw go up up' eN ek few =
    let wishes = wish_frames 1 0 t.wishes t.alternatives in
    let P : List Frame → Type 0 = λ x. Reads [] 0 0 x t.rules t.wishes t.alternatives in
    let l₁ = length-append (map Rule t.rules) wishes in
    let l₂ = length-map t.rules Rule in
    subst P (sym (append_assoc (map Rule t.rules) wishes (End k ∷ [])))
    (rules_read (wishes ++ End k ∷ []) t.wishes t.alternatives t.rules [] 0 0 0 gr refl (record { going = refl; stepped = refl; long = refl }) refl refl refl
    (λ b s n l at es en el off. wishes_read t.wishes t.alternatives b s n 1 0 l k N (omega arith) en at off gw up go up' (omega arith) (omega arith) few))

-- writable tables are read back from their frames
pub book_written : (t : Tables) → TablesFit t → writable_book t ≡ true → Written t
book_written t fit w =
    let (sound, held) = and_parts (is_sound t) (holdable (book_frames t)) w in
    let (made_rules, w₁) = and_parts (list_all makes_rule t.rules) _ sound in
    let (made_wishes, w₂) = and_parts (list_all makes_wish t.wishes) _ w₁ in
    let (made_alternatives, order) = and_parts (list_all makes_alternative t.alternatives) (orderly t.wishes t.alternatives) w₂ in
    let (up, w₄) = and_parts (rising 0 (ranks t.wishes)) _ order in
    let (up', own) = and_parts (rising 0 (owners t.alternatives)) (list_all (λ a. ltb a.wish (length t.wishes)) t.alternatives) w₄ in
    let (short, few) = and_parts (leb (length (text_of (ending (book_frames t)))) limit) (ltb (length (book_frames t)) 65536) held in
    let gw = all_passed WishFits makes_wish t.wishes fit.1 made_wishes in
    let ga = all_passed AlternativeFits makes_alternative t.alternatives fit.2 made_alternatives in
    let reads = book_read t (length t.wishes) (length (book_frames t)) (all_passed RuleFits makes_rule t.rules fit.0 made_rules) gw (all_owned (length t.wishes) t.alternatives ga own)
    (from_one t.wishes gw up) up' refl refl (ltb-true (length (book_frames t)) 65536 few) in
    record {
      turn = reads.turn;
      good = reads.good;
      short = leb-true (length (text_of (ending (book_frames t)))) limit short;
      gives = λ i. record { rules = reads.rules_are i; wishes = reads.wishes_are i; alternatives = reads.alternatives_are i };
    }
