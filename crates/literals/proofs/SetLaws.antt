-- Laws of sets of literals, from those of words.
use Rattle.std.proofs.Common.{◌≡◌, ℕ, ◌-◌, ◌*◌, ◌/◌, ◌%◌, ◌^◌, ◌<◌, ◌≤◌, true, false, eqb, ◌⊎◌, sym, ap, subst, ⊎_elim, lt_of_not-le, arith}
use lib.Bits.{bit_and, bit_or, bit_xor}
use lib.Count.{ones-le}
use Rattle.std.proofs.lemmas.Nat.{one_shl}
use Rattle.std.proofs.lemmas.Bool.{eq-eqb, ne_eqb}
use Rattle.literals.specs.Words.{Has, ◌⊆◌, Apart}
use Rattle.literals.specs.Sets.{Lit, atom, negated, In, ◌⊑◌, Disjoint, common, size, Single, named, Union, Shared, Difference, Differing}
use Rattle.literals.specs.declared.literal_set.LiteralSet.{LiteralSet}
use Rattle.literals.proofs.Bitsets.{has_or_not, none_has, has_pow, pow_has, has_and, and_has, has_or_l, has_or_r, or_has, has_not, not_has, has_below, xor_has, has_xor_l, has_xor_r, same_bits, ones_sub, ones_same}

-- ---- from words to sets and back

pub by_words : (x y : LiteralSet) → x.plus ⊆ y.plus → x.minus ⊆ y.minus → x ⊑ y
by_words x y p m (atom a) = p a
by_words x y p m (negated a) = m a

pub plus_words : (x y : LiteralSet) → x ⊑ y → x.plus ⊆ y.plus
plus_words x y s a = s (atom a)

pub minus_words : (x y : LiteralSet) → x ⊑ y → x.minus ⊆ y.minus
minus_words x y s a = s (negated a)

pub apart_by_words : (x y : LiteralSet) → Apart x.plus y.plus → Apart x.minus y.minus → Disjoint x y
apart_by_words x y p m (atom a) = p a
apart_by_words x y p m (negated a) = m a

-- ---- an order by inclusion

pub sub_refl : (x : LiteralSet) → x ⊑ x
sub_refl x l h = h

pub sub_trans : (x y z : LiteralSet) → x ⊑ y → y ⊑ z → x ⊑ z
sub_trans x y z s t l h = t l (s l h)

pub same_sets : (x y : LiteralSet) → x ⊑ y → y ⊑ x → x ≡ y
same_sets x y s t =
    let p : x.plus ≡ y.plus = same_bits x.plus y.plus (plus_words x y s) (plus_words y x t) in
    let m : x.minus ≡ y.minus = same_bits x.minus y.minus (minus_words x y s) (minus_words y x t) in
    λ i. record { plus = p i; minus = m i }

-- ---- what the operations give

pub union_is : (x y : LiteralSet) → Union x y (record { plus = bit_or x.plus y.plus; minus = bit_or x.minus y.minus })
union_is x y = record { left = l; right = r; only = o } where
  l : (k : Lit) → In x k → In (record { plus = bit_or x.plus y.plus; minus = bit_or x.minus y.minus }) k
  l (atom a) = has_or_l x.plus y.plus a
  l (negated a) = has_or_l x.minus y.minus a

  r : (k : Lit) → In y k → In (record { plus = bit_or x.plus y.plus; minus = bit_or x.minus y.minus }) k
  r (atom a) = has_or_r x.plus y.plus a
  r (negated a) = has_or_r x.minus y.minus a

  o : (k : Lit) → In (record { plus = bit_or x.plus y.plus; minus = bit_or x.minus y.minus }) k → In x k ⊎ In y k
  o (atom a) = or_has x.plus y.plus a
  o (negated a) = or_has x.minus y.minus a

pub shared_is : (x y : LiteralSet) → Shared x y (record { plus = bit_and x.plus y.plus; minus = bit_and x.minus y.minus })
shared_is x y = record { left = l; right = r; all = o } where
  l : (k : Lit) → In (record { plus = bit_and x.plus y.plus; minus = bit_and x.minus y.minus }) k → In x k
  l (atom a) h = (and_has x.plus y.plus a h).0
  l (negated a) h = (and_has x.minus y.minus a h).0

  r : (k : Lit) → In (record { plus = bit_and x.plus y.plus; minus = bit_and x.minus y.minus }) k → In y k
  r (atom a) h = (and_has x.plus y.plus a h).1
  r (negated a) h = (and_has x.minus y.minus a h).1

  o : (k : Lit) → In x k → In y k → In (record { plus = bit_and x.plus y.plus; minus = bit_and x.minus y.minus }) k
  o (atom a) = has_and x.plus y.plus a
  o (negated a) = has_and x.minus y.minus a

-- what two sets share is as large as their count of common literals
pub common_size : (x y r : LiteralSet) → Shared x y r → size r ≡ common x y
common_size x y r s =
    let n = shared_is x y in
    ap size (same_sets r (record { plus = bit_and x.plus y.plus; minus = bit_and x.minus y.minus }) (λ l h. n.all l (s.left l h) (s.right l h)) (λ l h. s.all l (n.left l h) (n.right l h)))

pub differing_is : (x y : LiteralSet) → Differing x y (record { plus = bit_xor x.plus y.plus; minus = bit_xor x.minus y.minus })
differing_is x y = record { one = o; left = l; right = r } where
  o : (k : Lit) → In (record { plus = bit_xor x.plus y.plus; minus = bit_xor x.minus y.minus }) k → (In x k × (In y k → ⊥)) ⊎ ((In x k → ⊥) × In y k)
  o (atom a) = xor_has x.plus y.plus a
  o (negated a) = xor_has x.minus y.minus a

  l : (k : Lit) → In x k → (In y k → ⊥) → In (record { plus = bit_xor x.plus y.plus; minus = bit_xor x.minus y.minus }) k
  l (atom a) = has_xor_l x.plus y.plus a
  l (negated a) = has_xor_l x.minus y.minus a

  r : (k : Lit) → (In x k → ⊥) → In y k → In (record { plus = bit_xor x.plus y.plus; minus = bit_xor x.minus y.minus }) k
  r (atom a) = has_xor_r x.plus y.plus a
  r (negated a) = has_xor_r x.minus y.minus a

-- the words of a difference, at 64 bits
abbrev gap : ℕ → ℕ → ℕ
gap x y = bit_and x ((2 ^ 64 - 1) - y)

gap_has : (x y a : ℕ) → y < 2 ^ 64 → Has (gap x y) a → Has x a × (Has y a → ⊥)
gap_has x y a h p = ((and_has x ((2 ^ 64 - 1) - y) a p).0, not_has 64 y a h (and_has x ((2 ^ 64 - 1) - y) a p).1)

has_gap : (x y a : ℕ) → x < 2 ^ 64 → y < 2 ^ 64 → Has x a → (Has y a → ⊥) → Has (gap x y) a
has_gap x y a hx hy p q = has_and x ((2 ^ 64 - 1) - y) a p (has_not 64 y a hy (has_below 64 x a hx p) q)

pub difference_is : (x y : LiteralSet) → x.plus < 2 ^ 64 → x.minus < 2 ^ 64 → y.plus < 2 ^ 64 → y.minus < 2 ^ 64
    → Difference x y (record { plus = bit_and x.plus ((2 ^ 64 - 1) - y.plus); minus = bit_and x.minus ((2 ^ 64 - 1) - y.minus) })
difference_is x y xp xm yp ym = record { left = l; apart = r; all = o } where
  l : (k : Lit) → In (record { plus = gap x.plus y.plus; minus = gap x.minus y.minus }) k → In x k
  l (atom a) h = (gap_has x.plus y.plus a yp h).0
  l (negated a) h = (gap_has x.minus y.minus a ym h).0

  r : (k : Lit) → In (record { plus = gap x.plus y.plus; minus = gap x.minus y.minus }) k → In y k → ⊥
  r (atom a) h = (gap_has x.plus y.plus a yp h).1
  r (negated a) h = (gap_has x.minus y.minus a ym h).1

  o : (k : Lit) → In x k → (In y k → ⊥) → In (record { plus = gap x.plus y.plus; minus = gap x.minus y.minus }) k
  o (atom a) = has_gap x.plus y.plus a xp yp
  o (negated a) = has_gap x.minus y.minus a xm ym

-- ---- counts and the order

pub common_sub : (h x y : LiteralSet) → x ⊑ y → common h x ≤ common h y
common_sub h x y s =
    omega (
      arith,
      ones_sub (bit_and h.plus x.plus) (bit_and h.plus y.plus) (λ a p. has_and h.plus y.plus a (and_has h.plus x.plus a p).0 (s (atom a) (and_has h.plus x.plus a p).1)),
      ones_sub (bit_and h.minus x.minus) (bit_and h.minus y.minus) (λ a p. has_and h.minus y.minus a (and_has h.minus x.minus a p).0 (s (negated a) (and_has h.minus x.minus a p).1)),
    )

-- ---- one literal

pub single_atom : (a : ℕ) → Single (atom a) (record { plus = 2 ^ a; minus = 0 })
single_atom a = record { there = has_pow a; only = o } where
  o : (l : Lit) → In (record { plus = 2 ^ a; minus = 0 }) l → l ≡ atom a
  o (atom b) h = ap atom (pow_has a b h)
  o (negated b) h = absurd (none_has b h)

pub single_negated : (a : ℕ) → Single (negated a) (record { plus = 0; minus = 2 ^ a })
single_negated a = record { there = has_pow a; only = o } where
  o : (l : Lit) → In (record { plus = 0; minus = 2 ^ a }) l → l ≡ negated a
  o (atom b) h = absurd (none_has b h)
  o (negated b) h = ap negated (pow_has a b h)

-- the same of a code, as the code shifts a bit there
pub single_even : (code k : ℕ) → code ≡ k → k < 128 → k % 2 ≡ 0 → Single (named code) (record { plus = (1 * 2 ^ (k / 2)) % 2 ^ 64; minus = 0 })
single_even code k e h z =
    let s : (1 * 2 ^ (k / 2)) % 2 ^ 64 ≡ 2 ^ (k / 2) = one_shl (k / 2) 64 (omega arith) in
    let t : eqb (k % 2) 0 ≡ true = eq-eqb (k % 2) 0 z in
    rw (e, t, s) (single_atom (k / 2))

pub single_odd : (code k : ℕ) → code ≡ k → k < 128 → (k % 2 ≡ 0 → ⊥) → Single (named code) (record { plus = 0; minus = (1 * 2 ^ (k / 2)) % 2 ^ 64 })
single_odd code k e h z =
    let s : (1 * 2 ^ (k / 2)) % 2 ^ 64 ≡ 2 ^ (k / 2) = one_shl (k / 2) 64 (omega arith) in
    let t : eqb (k % 2) 0 ≡ false = ne_eqb (k % 2) 0 z in
    rw (e, t, s) (single_negated (k / 2))

-- ---- the empty set, and sizes

pub none_in : (k : Lit) → In (record { plus = 0; minus = 0 }) k → ⊥
none_in (atom a) = none_has a
none_in (negated a) = none_has a

pub size_le : (x : LiteralSet) → x.plus < 2 ^ 64 → x.minus < 2 ^ 64 → size x ≤ 128
size_le x p m = omega (arith, ones-le 64 x.plus p, ones-le 64 x.minus m)

pub size_sub : (x y : LiteralSet) → x ⊑ y → size x ≤ size y
size_sub x y s = omega (arith, ones_sub x.plus y.plus (plus_words x y s), ones_sub x.minus y.minus (minus_words x y s))

-- only the whole has as many literals
pub size_same : (x y : LiteralSet) → x ⊑ y → size y ≤ size x → x ≡ y
size_same x y s h =
    let a = ones_sub x.plus y.plus (plus_words x y s) in
    let b = ones_sub x.minus y.minus (minus_words x y s) in
    let p : x.plus ≡ y.plus = ones_same x.plus y.plus (plus_words x y s) (omega arith) in
    let m : x.minus ≡ y.minus = ones_same x.minus y.minus (minus_words x y s) (omega arith) in
    λ i. record { plus = p i; minus = m i }

-- a set that includes another and is not included in it has more literals
pub size_more : (x y : LiteralSet) → x ⊑ y → (y ⊑ x → ⊥) → size x < size y
size_more x y s n = lt_of_not-le (λ h. n (rw (size_same x y s h) (sub_refl y)))

-- a set without any literal, and one with a single literal, by size
pub size_some : (x : LiteralSet) (k : Lit) → In x k → 0 < size x
size_some x k h =
    let l = size_more (record { plus = 0; minus = 0 }) x (λ m q. absurd (none_in m q)) (λ s. none_in k (s k h)) in omega arith

pub size_none : (x : LiteralSet) → size x ≡ 0 → (k : Lit) → In x k → ⊥
size_none x e k h = omega (arith, size_some x k h)

pub single_of : (k : Lit) → (r : LiteralSet) × Single k r
single_of (atom a) = (record { plus = 2 ^ a; minus = 0 }, single_atom a)
single_of (negated a) = (record { plus = 0; minus = 2 ^ a }, single_negated a)

pub present : (s : LiteralSet) (k : Lit) → In s k ⊎ (In s k → ⊥)
present s (atom a) = has_or_not s.plus a
present s (negated a) = has_or_not s.minus a

pub size_one : (x : LiteralSet) → size x ≤ 1 → (k l : Lit) → In x k → In x l → l ≡ k
size_one x e k l p q =
    let one = (single_of k).0 in
    let is : Single k one = (single_of k).1 in
    ⊎_elim (is.only l)
    (λ n. absurd (size_none one (omega (arith, size_more one x (λ m h. subst (In x) (sym (is.only m h)) p) (λ s. n (s l q)))) k is.there))
    (present one l)

-- what has one more literal of h
pub common_more : (h x y : LiteralSet) (k : Lit) → x ⊑ y → In h k → In y k → (In x k → ⊥) → common h x < common h y
common_more h x y k s p q n =
    let u = shared_is h x in
    let v = shared_is h y in
    size_more (record { plus = bit_and h.plus x.plus; minus = bit_and h.minus x.minus })
    (record { plus = bit_and h.plus y.plus; minus = bit_and h.minus y.minus })
    (λ m a. v.all m (u.left m a) (s m (u.right m a))) (λ t. n (u.right k (t k (v.all k p q))))
