-- The answer sets of a list of rules that is written out, found by computation: every set of head literals is tried.
use Rattle.std.proofs.Common.{◌≡◌, All, Contains, ℕ, zero, suc, ◌+◌, ◌*◌, ◌/◌, ◌%◌, ◌^◌, ◌<◌, Bool, true, false, cond, not, ◌&&◌, ◌||◌, eqb, ltb, leb, List, [], ◌∷◌, Decides, sym, refl, subst, ⊎_elim, pow-suc, arith}
use lib.Bits.{bit_and, bit_or}
use Rattle.std.specs.List.{list_all, list_any}
use Rattle.std.proofs.lemmas.Bool.{and_parts, and_from, or_cases, or_left, or_right, cases_Bool, cond_both, cond-true, not-true, not_from_false, ltb-true, leb-true, le-leb, eq-eqb, both_ways, false≢true}
use Rattle.std.proofs.lemmas.Bool.Decides.{Decides-like, Decides-and, Decides-by_and, Decides-eqb}
use Rattle.std.proofs.lemmas.List.Elements.{All-nil, All-cons, All-head, All-tail, All-weaker, Contains-append_right}
use Rattle.std.proofs.lemmas.List.Kept.{AllPairs-cons}
use Rattle.std.proofs.lemmas.List.Sums.{AllPass-from_list_all}
use Rattle.literals.specs.declared.condition.Condition.{Condition}
use Rattle.literals.specs.declared.literal_set.LiteralSet.{LiteralSet}
use Rattle.literals.specs.Words.{◌⊆◌}
use Rattle.literals.specs.Sets.{Lit, atom, negated, named, In, ◌⊑◌, Disjoint, common, Single}
use Rattle.literals.proofs.Bitsets.{sub_le, and_sub, sub_and, and_apart, apart_and, half_sub, low_sub}
use Rattle.literals.proofs.SetLaws.{by_words, plus_words, minus_words, apart_by_words, none_in, same_sets, union_is, shared_is, single_atom, single_negated}
use Rattle.picks.specs.declared.fit.Fit.{Fit}
use Rattle.picks.specs.Fits.{place}
use Rattle.picks.proofs.Places.{known_by_literals}
use Rattle.tables.specs.declared.records.Head.{Head}
use Rattle.tables.specs.declared.records.Head.TheVariants.{Plain, Constraint, Choice}
use Rattle.tables.specs.declared.records.Rule.{Rule}
use Rattle.answer_sets.specs.Rules.{HeadHolds, Satisfies, Gives}
use Rattle.answer_sets.specs.AnswerSets.{ClosedUnder, LeastSet, AnswerSet}
use Rattle.stations.specs.Listing.{Ascending, Listing}

-- ---- sets

abbrev pub none : LiteralSet
none = record { plus = 0; minus = 0 }

abbrev pub join : LiteralSet → LiteralSet → LiteralSet
join x y = record { plus = bit_or x.plus y.plus; minus = bit_or x.minus y.minus }

abbrev meet : LiteralSet → LiteralSet → LiteralSet
meet x y = record { plus = bit_and x.plus y.plus; minus = bit_and x.minus y.minus }

abbrev within? : LiteralSet → LiteralSet → Bool
within? x y = eqb (bit_and x.plus y.plus) x.plus && eqb (bit_and x.minus y.minus) x.minus

within_decides : (x y : LiteralSet) → Decides (within? x y) (x ⊑ y)
within_decides x y =
    Decides-like _ (λ e. by_words x y (and_sub x.plus y.plus e.0) (and_sub x.minus y.minus e.1))
    (λ s. (sub_and x.plus y.plus (plus_words x y s), sub_and x.minus y.minus (minus_words x y s)))
    (Decides-and _ _ (Decides-eqb _ _) (Decides-eqb _ _))

abbrev apart? : LiteralSet → LiteralSet → Bool
apart? x y = eqb (bit_and x.plus y.plus) 0 && eqb (bit_and x.minus y.minus) 0

apart_decides : (x y : LiteralSet) → Decides (apart? x y) (Disjoint x y)
apart_decides x y =
    Decides-like _ (λ e. apart_by_words x y (and_apart x.plus y.plus e.0) (and_apart x.minus y.minus e.1))
    (λ d. (apart_and x.plus y.plus (λ a. d (atom a)), apart_and x.minus y.minus (λ a. d (negated a))))
    (Decides-and _ _ (Decides-eqb _ _) (Decides-eqb _ _))

abbrev one : ℕ → LiteralSet
one code = cond (eqb (code % 2) 0) (record { plus = 2 ^ (code / 2); minus = 0 }) (record { plus = 0; minus = 2 ^ (code / 2) })

one_single : (code : ℕ) → Single (named code) (one code)
one_single code =
    elim (eqb (code % 2) 0) as (λ b. Single (cond b (atom (code / 2)) (negated (code / 2)))
    (cond b (record { plus = 2 ^ (code / 2); minus = 0 }) (record { plus = 0; minus = 2 ^ (code / 2) })))
    [ true ↦ single_atom (code / 2) | false ↦ single_negated (code / 2) ]

-- ---- one rule, all rules, again and again

abbrev given : Head → LiteralSet → LiteralSet
given (Plain l) s = one l.code
given Constraint s = none
given (Choice choice) s = meet choice.head s

given_gives : (h : Head) (s : LiteralSet) (k : Lit) → In (given h s) k → Gives h s k
given_gives (Plain l) s k p = (one_single l.code).only k p
given_gives Constraint s k p = none_in k p
given_gives (Choice choice) s k p = ((shared_is choice.head s).left k p, (shared_is choice.head s).right k p)

gives_given : (h : Head) (s : LiteralSet) (k : Lit) → Gives h s k → In (given h s) k
gives_given (Plain l) s k g = subst (In (one l.code)) (sym g) (one_single l.code).there
gives_given Constraint s k g = absurd g
gives_given (Choice choice) s k g = (shared_is choice.head s).all k g.0 g.1

abbrev fires : LiteralSet → Rule → LiteralSet → Bool
fires s r x = apart? r.body.absent s && within? r.body.wanted x

abbrev taken : LiteralSet → Rule → LiteralSet → LiteralSet
taken s r x = cond (fires s r x) (join x (given r.head s)) x

module _ (s : LiteralSet) (r : Rule) (x : LiteralSet) where
  taken_grown : x ⊑ taken s r x
  taken_grown = cond_both (fires s r x) _ _ (λ v. x ⊑ v) (λ e. (union_is x (given r.head s)).left) (λ e k h. h)

  taken_least : (y : LiteralSet) → ClosedUnder s y r → x ⊑ y → taken s r x ⊑ y
  taken_least y c i =
      cond_both (fires s r x) _ _ (λ v. v ⊑ y)
      (λ e k h. let p = and_parts (apart? r.body.absent s) (within? r.body.wanted x) e in
      ⊎_elim (i k) (λ q. c ((apart_decides r.body.absent s).0 p.0) (λ l w. i l ((within_decides r.body.wanted x).0 p.1 l w)) k (given_gives r.head s k q))
      ((union_is x (given r.head s)).only k h))
      (λ e. i)

  taken_closed : (z : LiteralSet) → z ⊑ x → taken s r x ⊑ z → ClosedUnder s z r
  taken_closed z zx i active wanted k g =
      let e : fires s r x ≡ true = and_from (apart? r.body.absent s) (within? r.body.wanted x)
      ((apart_decides r.body.absent s).1 active) ((within_decides r.body.wanted x).1 (λ l w. zx l (wanted l w))) in
      i k (subst (λ v. In v k) (sym (cond-true (fires s r x) (join x (given r.head s)) x e)) ((union_is x (given r.head s)).right k (gives_given r.head s k g)))

abbrev passed : LiteralSet → List Rule → LiteralSet → LiteralSet
passed s [] x = x
passed s (r ∷ rs) x = passed s rs (taken s r x)

passed_grown : (s : LiteralSet) (rs : List Rule) (x : LiteralSet) → x ⊑ passed s rs x
passed_grown s [] x k h = h
passed_grown s (r ∷ rs) x k h = passed_grown s rs (taken s r x) k (taken_grown s r x k h)

passed_least : (s : LiteralSet) (rs : List Rule) (x y : LiteralSet) → All (ClosedUnder s y) rs → x ⊑ y → passed s rs x ⊑ y
passed_least s [] x y c i = i
passed_least s (r ∷ rs) x y c i =
    passed_least s rs (taken s r x) y (All-tail (ClosedUnder s y) r rs c) (taken_least s r x y (All-head (ClosedUnder s y) r rs c) i)

passed_closed : (s : LiteralSet) (rs : List Rule) (x z : LiteralSet) → z ⊑ x → passed s rs x ⊑ z → All (ClosedUnder s z) rs
passed_closed s [] x z zx i = All-nil (ClosedUnder s z)
passed_closed s (r ∷ rs) x z zx i =
    All-cons (ClosedUnder s z) r rs (taken_closed s r x z zx (λ k h. i k (passed_grown s rs (taken s r x) k h)))
    (passed_closed s rs (taken s r x) z (λ k h. taken_grown s r x k (zx k h)) i)

abbrev again : ℕ → LiteralSet → List Rule → LiteralSet → LiteralSet
again zero s rs x = x
again (suc n) s rs x = again n s rs (passed s rs x)

again_least : (n : ℕ) (s : LiteralSet) (rs : List Rule) (x y : LiteralSet) → All (ClosedUnder s y) rs → x ⊑ y → again n s rs x ⊑ y
again_least zero s rs x y c i = i
again_least (suc n) s rs x y c i = again_least n s rs (passed s rs x) y c (passed_least s rs x y c i)

-- the least set, where so many passes are enough
abbrev enough? : ℕ → LiteralSet → List Rule → Bool
enough? n s rs = within? (passed s rs (again n s rs none)) (again n s rs none)

least_found : (n : ℕ) (s : LiteralSet) (rs : List Rule) → enough? n s rs ≡ true → LeastSet rs s (again n s rs none)
least_found n s rs e =
    let x = again n s rs none in
    record {
      closed = passed_closed s rs x x (λ k h. h) ((within_decides (passed s rs x) x).0 e);
      least = λ y c. again_least n s rs none y c (λ k h. absurd (none_in k h));
    }

-- ---- what a set satisfies

abbrev head? : Head → LiteralSet → Bool
head? (Plain l) s = within? (one l.code) s
head? Constraint s = false
head? (Choice choice) s = leb choice.least (common choice.head s) && leb (common choice.head s) choice.greatest

head_decides : (h : Head) (s : LiteralSet) → Decides (head? h s) (HeadHolds h s)
head_decides (Plain l) s =
    Decides-like _ (λ i. i (named l.code) (one_single l.code).there) (λ p k q. subst (In s) (sym ((one_single l.code).only k q)) p) (within_decides (one l.code) s)
head_decides Constraint s = (λ e. absurd (false≢true e), λ f. absurd f)
head_decides (Choice choice) s =
    Decides-and _ _ (leb-true choice.least (common choice.head s), le-leb choice.least (common choice.head s))
    (leb-true (common choice.head s) choice.greatest, le-leb (common choice.head s) choice.greatest)

abbrev holds? : Condition → LiteralSet → Bool
holds? c s = within? c.wanted s && apart? c.absent s

abbrev satisfies? : LiteralSet → Rule → Bool
satisfies? s r = not (holds? r.body s) || head? r.head s

satisfies_decides : (s : LiteralSet) (r : Rule) → Decides (satisfies? s r) (Satisfies s r)
satisfies_decides s r =
    let body = Decides-and _ _ (within_decides r.body.wanted s) (apart_decides r.body.absent s) in (
      λ e h. ⊎_elim (λ n. absurd (both_ways (holds? r.body s) (not-true (holds? r.body s) n) (body.1 h))) (head_decides r.head s).0
          (or_cases (not (holds? r.body s)) (head? r.head s) e),
      λ f. ⊎_elim (λ t. or_right (not (holds? r.body s)) (head? r.head s) ((head_decides r.head s).1 (f (body.0 t))))
          (λ n. or_left (not (holds? r.body s)) (head? r.head s) (not_from_false (holds? r.body s) n)) (cases_Bool (holds? r.body s)),
    )

abbrev answer? : ℕ → LiteralSet → List Rule → Bool
answer? n s rs = list_all (satisfies? s) rs && (within? (again n s rs none) s && within? s (again n s rs none))

answer_decides : (n : ℕ) (s : LiteralSet) (rs : List Rule) → enough? n s rs ≡ true → Decides (answer? n s rs) (AnswerSet rs s)
answer_decides n s rs e =
    let x = again n s rs none in
    let least = least_found n s rs e in
    Decides-like _
    (λ p. record { satisfied = p.0; founded = subst (LeastSet rs s) (same_sets x s p.1.0 p.1.1) least })
    (λ a. (a.satisfied, (least.least s a.founded.closed, a.founded.least x least.closed)))
    (Decides-and _ _ (Decides-by_and (satisfies? s) (Satisfies s) (list_all (satisfies? s)) (satisfies_decides s) refl (λ _ _. refl) rs)
    (Decides-and _ _ (within_decides x s) (within_decides s x)))

-- ---- every subset of a word

abbrev every : ℕ → ℕ → (ℕ → Bool) → Bool
every zero w f = f 0
every (suc k) w f = every k (w / 2) (λ x. f (x * 2)) && (not (eqb (w % 2) 1) || every k (w / 2) (λ x. f (x * 2 + 1)))

every_at : (k w : ℕ) (f : ℕ → Bool) → every k w f ≡ true → w < 2 ^ k → (x : ℕ) → x ⊆ w → f x ≡ true
every_at zero w f e h x s = let z : x ≡ 0 = omega (arith, sub_le x w s) in subst (λ n. f n ≡ true) (sym z) e
every_at (suc k) w f e h x s = by_digit (λ g. every_at k (w / 2) g) (x % 2) (omega arith) refl where
  parts : (every k (w / 2) (λ x. f (x * 2)) ≡ true) × ((not (eqb (w % 2) 1) || every k (w / 2) (λ x. f (x * 2 + 1))) ≡ true)
  parts = and_parts (every k (w / 2) (λ x. f (x * 2))) (not (eqb (w % 2) 1) || every k (w / 2) (λ x. f (x * 2 + 1))) e

  small : w / 2 < 2 ^ k
  small = omega (arith, pow-suc 2 k)

  by_digit : ((g : ℕ → Bool) → every k (w / 2) g ≡ true → w / 2 < 2 ^ k → (y : ℕ) → y ⊆ w / 2 → g y ≡ true) → (d : ℕ) → d < 2 → x % 2 ≡ d → f x ≡ true
  by_digit ih zero b q =
      let z : x / 2 * 2 ≡ x = omega arith in
      subst (λ n. f n ≡ true) z (ih (λ x. f (x * 2)) parts.0 small (x / 2) (half_sub x w s))
  by_digit ih (suc zero) b q =
      let z : x / 2 * 2 + 1 ≡ x = omega arith in
      let odd : w % 2 ≡ 1 = omega (arith, low_sub x w s) in
      subst (λ n. f n ≡ true) z (ih (λ x. f (x * 2 + 1))
      (⊎_elim (λ n. absurd (both_ways (eqb (w % 2) 1) (not-true (eqb (w % 2) 1) n) (eq-eqb (w % 2) 1 odd))) (λ t. t)
      (or_cases (not (eqb (w % 2) 1)) (every k (w / 2) (λ x. f (x * 2 + 1))) parts.1)) small (x / 2) (half_sub x w s))
  by_digit ih (suc (suc d)) b q = absurd (omega arith)

-- ---- the literals of all heads

abbrev head_set : Head → LiteralSet
head_set (Plain l) = one l.code
head_set Constraint = none
head_set (Choice choice) = choice.head

gives_head : (h : Head) (s : LiteralSet) (k : Lit) → Gives h s k → In (head_set h) k
gives_head (Plain l) s k g = subst (In (one l.code)) (sym g) (one_single l.code).there
gives_head Constraint s k g = absurd g
gives_head (Choice choice) s k g = g.0

abbrev heads : List Rule → LiteralSet
heads [] = none
heads (r ∷ rs) = join (head_set r.head) (heads rs)

heads_closed : (s : LiteralSet) (rs : List Rule) (y : LiteralSet) → heads rs ⊑ y → All (ClosedUnder s y) rs
heads_closed s [] y i = All-nil (ClosedUnder s y)
heads_closed s (r ∷ rs) y i =
    All-cons (ClosedUnder s y) r rs (λ active wanted k g. i k ((union_is (head_set r.head) (heads rs)).left k (gives_head r.head s k g)))
    (heads_closed s rs y (λ k h. i k ((union_is (head_set r.head) (heads rs)).right k h)))

-- ---- all answer sets

abbrev same? : LiteralSet → LiteralSet → Bool
same? s t = within? s t && within? t s

abbrev among? : LiteralSet → List Fit → Bool
among? s fits = list_any (λ g. same? s g.literals) fits

among_true : (f : Fit) (fits : List Fit) → among? f.literals fits ≡ true → Contains fits f
among_true f [] e = absurd (false≢true e)
among_true f (g ∷ fits) e = ⊎_elim here (λ t. Contains-append_right (g ∷ []) fits f (among_true f fits t)) (or_cases (same? f.literals g.literals) (among? f.literals fits) e) where
  here : same? f.literals g.literals ≡ true → Contains (g ∷ fits) f
  here t =
      let p = and_parts (within? f.literals g.literals) (within? g.literals f.literals) t in
      let eq = same_sets g.literals f.literals ((within_decides g.literals f.literals).0 p.1) ((within_decides f.literals g.literals).0 p.0) in
      (0, omega arith, known_by_literals g f eq)

-- a set is decided, and listed where it is an answer set
abbrev listed? : ℕ → List Rule → List Fit → LiteralSet → Bool
listed? n rs fits s = enough? n s rs && (not (answer? n s rs) || among? s fits)

abbrev all_listed? : ℕ → ℕ → List Rule → List Fit → Bool
all_listed? n w rs fits =
    (ltb (heads rs).plus (2 ^ w) && ltb (heads rs).minus (2 ^ w))
    && every w (heads rs).plus (λ p. every w (heads rs).minus (λ m. listed? n rs fits (record { plus = p; minus = m })))

all_listed : (n w : ℕ) (rs : List Rule) (fits : List Fit) → all_listed? n w rs fits ≡ true → (f : Fit) → AnswerSet rs f.literals → Contains fits f
all_listed n w rs fits e f a =
    let h = heads rs in
    let s = f.literals in
    let p = and_parts (ltb h.plus (2 ^ w) && ltb h.minus (2 ^ w)) (every w h.plus (λ p. every w h.minus (λ m. listed? n rs fits (record { plus = p; minus = m })))) e in
    let q = and_parts (ltb h.plus (2 ^ w)) (ltb h.minus (2 ^ w)) p.0 in
    let i : s ⊑ h = a.founded.least h (heads_closed s rs h (λ k t. t)) in
    let t = every_at w h.minus (λ m. listed? n rs fits (record { plus = s.plus; minus = m }))
    (every_at w h.plus (λ p. every w h.minus (λ m. listed? n rs fits (record { plus = p; minus = m }))) p.1 (ltb-true h.plus (2 ^ w) q.0) s.plus (plus_words s h i))
    (ltb-true h.minus (2 ^ w) q.1) s.minus (minus_words s h i) in
    let u = and_parts (enough? n s rs) (not (answer? n s rs) || among? s fits) t in
    ⊎_elim (λ no. absurd (both_ways (answer? n s rs) (not-true (answer? n s rs) no) ((answer_decides n s rs u.0).1 a))) (among_true f fits)
    (or_cases (not (answer? n s rs)) (among? s fits) u.1)

-- ---- the list is right

all_true : {X : Type 0} (f : X → Bool) (P : X → Type 0) → ((x : X) → f x ≡ true → P x) → (xs : List X) → list_all f xs ≡ true → All P xs
all_true f P g xs e = All-weaker (λ x. f x ≡ true) P g xs (AllPass-from_list_all f xs e)

abbrev lawful? : ℕ → List Rule → Fit → Bool
lawful? n rs f = enough? n f.literals rs && answer? n f.literals rs

lawful_true : (n : ℕ) (rs : List Rule) (f : Fit) → lawful? n rs f ≡ true → AnswerSet rs f.literals
lawful_true n rs f e = let p = and_parts (enough? n f.literals rs) (answer? n f.literals rs) e in (answer_decides n f.literals rs p.0).0 p.1

abbrev before? : Fit → Fit → Bool
before? f g = ltb (place f) (place g)

abbrev ascending? : List Fit → Bool
ascending? [] = true
ascending? (f ∷ fits) = list_all (before? f) fits && ascending? fits

ascending_true : (fits : List Fit) → ascending? fits ≡ true → Ascending fits
ascending_true [] e = λ i j d below inside. absurd (omega arith)
ascending_true (f ∷ fits) e =
    let p = and_parts (list_all (before? f) fits) (ascending? fits) e in
    AllPairs-cons (λ f g. place f < place g) f fits
    (all_true (before? f) (λ g. place f < place g) (λ g. ltb-true (place f) (place g)) fits p.0) (ascending_true fits p.1)

-- one computed test: n passes are enough for each set, and the heads have w bits
abbrev pub listing? : ℕ → ℕ → List Rule → List Fit → Bool
listing? n w rs fits = all_listed? n w rs fits && (list_all (lawful? n rs) fits && ascending? fits)

pub listing : (n w : ℕ) (rs : List Rule) (fits : List Fit) → listing? n w rs fits ≡ true → Listing rs fits
listing n w rs fits e =
    let p = and_parts (all_listed? n w rs fits) (list_all (lawful? n rs) fits && ascending? fits) e in
    let q = and_parts (list_all (lawful? n rs) fits) (ascending? fits) p.1 in
    record {
      each = all_true (lawful? n rs) (λ f. AnswerSet rs f.literals) (lawful_true n rs) fits q.0;
      all = all_listed n w rs fits p.0;
      ascending = ascending_true fits q.1;
    }
