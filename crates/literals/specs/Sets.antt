-- Sets of literals.
use Rattle.std.specs.Prelude.{◌≡◌, ℕ, ◌+◌, ◌/◌, ◌%◌, ◌<◌, cond, ◌⊎◌, ◌==◌, ◌≢◌, bit_and, count_ones}
use Rattle.literals.specs.Words.{Has}
use Rattle.literals.specs.declared.literal_set.LiteralSet.{LiteralSet}

-- an atom, or its strong negation
pub data Lit : Type 0 where
  atom : ℕ → Lit
  negated : ℕ → Lit

-- the literal of a code: 2 × a for atom a, 2 × a + 1 for its strong negation
abbrev pub named : ℕ → Lit
named code = cond (code % 2 == 0) (atom (code / 2)) (negated (code / 2))

-- the literal is in the set
abbrev pub In : LiteralSet → Lit → Type 0
In s (atom a) = Has s.plus a
In s (negated a) = Has s.minus a

-- every literal of x is in y
infix 20 ◌⊑◌
abbrev pub ◌⊑◌ : LiteralSet → LiteralSet → Type 0
x ⊑ y = (l : Lit) → In x l → In y l

-- no literal is in both
abbrev pub Disjoint : LiteralSet → LiteralSet → Type 0
Disjoint x y = (l : Lit) → In x l → In y l → ⊥

-- a set without an atom and its strong negation
abbrev pub Consistent : LiteralSet → Type 0
Consistent s = (a : ℕ) → In s (atom a) → In s (negated a) → ⊥

-- how many literals of x are in s
abbrev pub common : LiteralSet → LiteralSet → ℕ
common x s = count_ones (bit_and x.plus s.plus) + count_ones (bit_and x.minus s.minus)

-- how many literals s has
abbrev pub size : LiteralSet → ℕ
size s = count_ones s.plus + count_ones s.minus

-- s comes before t: by plus as a number, then by minus
abbrev pub Before : LiteralSet → LiteralSet → Type 0
Before s t = (s.plus < t.plus) ⊎ ((s.plus ≡ t.plus) × (s.minus < t.minus))

-- r has the one literal k
pub record Single (k : Lit) (r : LiteralSet) : Type 0 where
  pub there : In r k
  pub only : (l : Lit) → In r l → l ≡ k

-- r has the literals of x and those of y
pub record Union (x y r : LiteralSet) : Type 0 where
  pub left : x ⊑ r
  pub right : y ⊑ r
  pub only : (l : Lit) → In r l → In x l ⊎ In y l

-- r has the literals that x and y share
pub record Shared (x y r : LiteralSet) : Type 0 where
  pub left : r ⊑ x
  pub right : r ⊑ y
  pub all : (l : Lit) → In x l → In y l → In r l

-- r has the literals of x that are not in y
pub record Difference (x y r : LiteralSet) : Type 0 where
  pub left : r ⊑ x
  pub apart : Disjoint r y
  pub all : (l : Lit) → In x l → (In y l → ⊥) → In r l

-- r has the literals that are in one of x and y alone
pub record Differing (x y r : LiteralSet) : Type 0 where
  pub one : (l : Lit) → In r l → (In x l × (In y l → ⊥)) ⊎ ((In x l → ⊥) × In y l)
  pub left : (l : Lit) → In x l → (In y l → ⊥) → In r l
  pub right : (l : Lit) → (In x l → ⊥) → In y l → In r l

-- the strong negation of an atom, and the atom of a strong negation
abbrev pub opposite_of : Lit → Lit
opposite_of (atom a) = negated a
opposite_of (negated a) = atom a

-- r has k, and else what x has
pub record Added (x : LiteralSet) (k : Lit) (r : LiteralSet) : Type 0 where
  pub there : In r k
  pub kept : x ⊑ r
  pub only : (l : Lit) → In r l → In x l ⊎ (l ≡ k)

-- r has what x has, but for k
pub record Removed (x : LiteralSet) (k : Lit) (r : LiteralSet) : Type 0 where
  pub gone : In r k → ⊥
  pub left : r ⊑ x
  pub kept : (l : Lit) → In x l → l ≢ k → In r l
