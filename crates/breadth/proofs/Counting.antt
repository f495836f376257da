-- Sets that differ two by two on some of n literals are at most 2 to the power of n.
use Rattle.std.proofs.Common.{◌≡◌, ℕ, zero, suc, ◌/◌, ◌%◌, ◌^◌, ◌<◌, ◌≤◌, Bool, true, false, All, AllPairs, Contains, not, ◌⊎◌, List, [], ◌∷◌, ◌++◌, map, length, filter, sym, refl, ap, ◌∙◌, subst, inl, inr, ⊎_elim, pow-suc, div-one, arith, length-append}
use lib.ListN.{length-map}
use lib.Count.{ones, ones_step, ones-le}
use Rattle.std.proofs.lemmas.Bool.{false≢true, not-true}
use Rattle.std.proofs.lemmas.List.{get_or-map}
use Rattle.std.proofs.lemmas.List.Elements.{All-nil, All-cons, filter_passes, Contains-append_left, Contains-append_right}
use Rattle.std.proofs.lemmas.List.Kept.{AllPairs-filter}
use Rattle.std.proofs.lemmas.List.Filters.{length-filter_both}
use Rattle.literals.specs.Words.{Has}
use Rattle.literals.specs.Sets.{Lit, atom, negated, In, size}
use Rattle.literals.specs.declared.literal_set.LiteralSet.{LiteralSet}
use Rattle.literals.proofs.Bitsets.{none_has, half_has, pow_above}
use Rattle.literals.proofs.SetLaws.{present}

-- ---- two by two

-- s and t both have the literal, or neither does
abbrev pub SameAt : LiteralSet → LiteralSet → Lit → Type 0
SameAt s t k = (In s k → In t k) × (In t k → In s k)

-- s and t have the same of the literals
abbrev pub Same : List Lit → LiteralSet → LiteralSet → Type 0
Same ks s t = All (SameAt s t) ks

-- whether k is in s
abbrev side : Lit → LiteralSet → Bool
side k s = ⊎_elim (λ _. true) (λ _. false) (present s k)

side_same : (k : Lit) (s t : LiteralSet) → side k s ≡ side k t → In s k → In t k
side_same k s t e = by_side (present s k) (present t k) e where
  by_side : (a : In s k ⊎ (In s k → ⊥)) (b : In t k ⊎ (In t k → ⊥))
      → ◌≡◌ {A = Bool} (⊎_elim (λ _. true) (λ _. false) a) (⊎_elim (λ _. true) (λ _. false) b) → In s k → In t k
  by_side a (inl q) e p = q
  by_side (inl r) (inr n) e p = absurd (false≢true (sym e))
  by_side (inr m) (inr n) e p = absurd (m p)

-- sets that have something else of the literals, two by two
abbrev Apart : List Lit → List LiteralSet → Type 0
Apart ks sets = AllPairs (λ s t. Same ks s t → ⊥) sets

-- the sets on one side of k are told apart by the other literals
apart_side : (k : Lit) (ks : List Lit) (pass : LiteralSet → Bool) → ((s t : LiteralSet) → pass s ≡ true → pass t ≡ true → side k s ≡ side k t)
    → (sets : List LiteralSet) → Apart (k ∷ ks) sets → Apart ks (filter pass sets)
apart_side k ks pass same sets a i j d below inside others =
    let passes = filter_passes pass sets in
    let p = passes i d (omega arith) in
    let q = passes j d inside in
    AllPairs-filter (λ s t. Same (k ∷ ks) s t → ⊥) pass sets a i j d below inside
    (All-cons (SameAt _ _) k ks (side_same k _ _ (same _ _ p q), side_same k _ _ (same _ _ q p)) others)

pub at_most : (ks : List Lit) (sets : List LiteralSet) → AllPairs (λ s t. Same ks s t → ⊥) sets → length sets ≤ 2 ^ length ks
at_most [] [] a = omega arith
at_most [] (s ∷ []) a = omega arith
at_most [] (s ∷ (t ∷ sets)) a = absurd (a 0 1 s (omega arith) (omega arith) (All-nil _))
at_most (k ∷ ks) sets a =
    let lacks : LiteralSet → Bool = λ s. not (side k s) in
    let with_k = at_most ks (filter (side k) sets) (apart_side k ks (side k) (λ s t p q. p ∙ sym q) sets a) in
    let without_k = at_most ks (filter lacks sets)
    (apart_side k ks lacks (λ s t p q. not-true (side k s) p ∙ sym (not-true (side k t) q)) sets a) in
    omega (arith, length-filter_both (side k) lacks (λ _. refl) sets, pow-suc 2 (length ks))

-- ---- the literals of a set as a list

-- bit 0 where the digit is not 0, in front of others
abbrev lowest : ℕ → List ℕ → List ℕ
lowest zero rest = rest
lowest (suc d) rest = 0 ∷ rest

-- the bits of a word of k digits
abbrev bits : ℕ → ℕ → List ℕ
bits zero w = []
bits (suc k) w = lowest (w % 2) (map suc (bits k (w / 2)))

Contains-map : {X Y : Type 0} (f : X → Y) (xs : List X) (x : X) → Contains xs x → Contains (map f xs) (f x)
Contains-map f xs x h = (h.0, omega (arith, length-map xs f, h.1), get_or-map f xs h.0 x (f x) h.1 ∙ ap f h.2)

bits_length : (k w : ℕ) → w < 2 ^ k → length (bits k w) ≡ ones w
bits_length zero w h = omega (arith, ones-le 0 w h)
bits_length (suc k) w h =
    by_digit (w % 2) (omega arith) refl (length-map (bits k (w / 2)) suc ∙ bits_length k (w / 2) (omega (arith, pow-suc 2 k))) where
      by_digit : (d : ℕ) → d < 2 → w % 2 ≡ d → length (map suc (bits k (w / 2))) ≡ ones (w / 2)
          → length (lowest d (map suc (bits k (w / 2)))) ≡ ones w
      by_digit zero b e rest = omega (arith, ones_step w)
      by_digit (suc zero) b e rest = omega (arith, ones_step w)
      by_digit (suc (suc d)) b e rest = absurd (omega arith)

-- it has each bit
bits_has : (k w : ℕ) → w < 2 ^ k → (a : ℕ) → Has w a → Contains (bits k w) a
bits_has zero w h a p = absurd (none_has a (subst (λ n. Has n a) (omega arith) p))
bits_has (suc k) w h a p =
    by_digit (w % 2) (omega arith) refl a p
    (λ b q. Contains-map suc (bits k (w / 2)) b (bits_has k (w / 2) (omega (arith, pow-suc 2 k)) b (omega (arith, half_has w b)))) where
      rest : List ℕ
      rest = map suc (bits k (w / 2))

      by_digit : (d : ℕ) → d < 2 → w % 2 ≡ d → (a : ℕ) → Has w a → ((b : ℕ) → Has w (suc b) → Contains rest (suc b)) → Contains (lowest d rest) a
      by_digit zero b e zero p upper = absurd (omega (arith, simp div-one at p))
      by_digit zero b e (suc a) p upper = upper a p
      by_digit (suc zero) b e zero p upper = (0, omega arith, refl)
      by_digit (suc zero) b e (suc a) p upper = Contains-append_right (0 ∷ []) rest (suc a) (upper a p)
      by_digit (suc (suc d)) b e a p upper = absurd (omega arith)

abbrev pub listed : LiteralSet → List Lit
listed d = map atom (bits d.plus d.plus) ++ map negated (bits d.minus d.minus)

pub listed_length : (d : LiteralSet) → length (listed d) ≡ size d
listed_length d =
    let p = bits_length d.plus d.plus (pow_above d.plus) in
    let m = bits_length d.minus d.minus (pow_above d.minus) in
    simp (length-append, length-map) (omega arith)

pub listed_has : (d : LiteralSet) (k : Lit) → In d k → Contains (listed d) k
listed_has d (atom a) p =
    Contains-append_left (map atom (bits d.plus d.plus)) (map negated (bits d.minus d.minus)) (atom a)
    (Contains-map atom (bits d.plus d.plus) a (bits_has d.plus d.plus (pow_above d.plus) a p))
listed_has d (negated a) p =
    Contains-append_right (map atom (bits d.plus d.plus)) (map negated (bits d.minus d.minus)) (negated a)
    (Contains-map negated (bits d.minus d.minus) a (bits_has d.minus d.minus (pow_above d.minus) a p))
