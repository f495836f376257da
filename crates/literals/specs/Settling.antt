-- The order in which a search settles literals, and what it says of the order of sets.
use Rattle.std.specs.Prelude.{◌≡◌, ◌<◌, ◌⊎◌, Some, None, Option}
use Rattle.literals.specs.declared.literal.Literal.{Literal}
use Rattle.literals.specs.declared.literal_set.LiteralSet.{LiteralSet}
use Rattle.literals.specs.Sets.{Lit, atom, negated, named, In, ◌⊑◌, Before}

-- k comes earlier than l: atoms come first, the highest first of all; then their strong negations, the highest first
abbrev pub Earlier : Lit → Lit → Type 0
Earlier (atom a) (atom b) = b < a
Earlier (atom a) (negated b) = Unit {0}
Earlier (negated a) (atom b) = ⊥
Earlier (negated a) (negated b) = b < a

-- k is in s, and every other literal of s comes later
pub record HighestIn (s : LiteralSet) (k : Lit) : Type 0 where
  pub there : In s k
  pub first : (l : Lit) → In s l → (l ≡ k) ⊎ Earlier k l

-- none exactly where s is empty
abbrev pub Highest : LiteralSet → Option Literal → Type 0
Highest s None = (l : Lit) → In s l → ⊥
Highest s (Some k) = HighestIn s (named k.code)

-- x and y have the same literals among those that come earlier than k
abbrev pub AgreeBefore : Lit → LiteralSet → LiteralSet → Type 0
AgreeBefore k x y = (l : Lit) → Earlier l k → (In x l → In y l) × (In y l → In x l)

-- k is the first literal in which x and y differ, and it decides their order
pub record FirstDifferenceAt (x y : LiteralSet) (k : Lit) : Type 0 where
  pub differ : (In x k × (In y k → ⊥)) ⊎ ((In x k → ⊥) × In y k)
  pub agree : AgreeBefore k x y
  pub less : In y k → Before x y
  pub back : Before x y → In y k

-- none exactly where the sets are equal
abbrev pub FirstDifference : LiteralSet → LiteralSet → Option Literal → Type 0
FirstDifference x y None = x ≡ y
FirstDifference x y (Some k) = FirstDifferenceAt x y (named k.code)

-- sets with the same literals are equal
abbrev pub SameLiterals : Type 0
SameLiterals = (x y : LiteralSet) → x ⊑ y → y ⊑ x → x ≡ y

-- the first literal in which two sets differ decides their order: the set without it comes before
abbrev pub FirstDecides : Type 0
FirstDecides = (x y : LiteralSet) (k : Lit) → AgreeBefore k x y → (In x k → ⊥) → In y k → Before x y
