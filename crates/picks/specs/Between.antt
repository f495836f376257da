-- What lies between two sets.
use Rattle.std.specs.Prelude.{◌≡◌, ◌<◌, Some, None, Option}
use Rattle.picks.specs.declared.bounds.Bounds.{Bounds}
use Rattle.picks.specs.declared.fit.Fit.{Fit}
use Rattle.literals.specs.declared.literal.Literal.{Literal}
use Rattle.literals.specs.declared.literal_set.LiteralSet.{LiteralSet}
use Rattle.picks.specs.declared.picks.Picks.{Picks}
use Rattle.literals.specs.Sets.{Lit, atom, negated, named, In, ◌⊑◌, Before, Added, Removed}
use Rattle.literals.specs.Settling.{Earlier}
use Rattle.picks.specs.Picking.{Keeps}

-- s has every literal of the lower bound, and none outside the upper
pub record Between (b : Bounds) (s : LiteralSet) : Type 0 where
  pub low : b.lower ⊑ s
  pub high : s ⊑ b.upper

-- the literals that words of 64 bits can have
abbrev pub Coded : Lit → Type 0
Coded (atom a) = a < 64
Coded (negated a) = a < 64

-- b are the bounds of the picks: below what is required, above all but what is excluded; keeping the picks is lying between
pub record BoundsOf (p : Picks) (b : Bounds) : Type 0 where
  pub low : b.lower ≡ p.required
  pub high : (l : Lit) → In b.upper l → Coded l × (In p.excluded l → ⊥)
  pub all : (l : Lit) → Coded l → (In p.excluded l → ⊥) → In b.upper l
  pub kept : (f : Fit) → Keeps p f → Between b f.literals
  pub keeps : (f : Fit) → Between b f.literals → Keeps p f

-- k is open, and every other open literal comes later. Of two sets between the bounds the one without it comes before
pub record FirstOpenAt (b : Bounds) (k : Lit) : Type 0 where
  pub above : In b.upper k
  pub below : In b.lower k → ⊥
  pub first : (l : Lit) → Earlier l k → In b.upper l → In b.lower l
  pub decides : (s t : LiteralSet) → Between b s → Between b t → (In s k → ⊥) → In t k → Before s t

-- none exactly where no literal is open
abbrev pub FirstOpen : Bounds → Option Literal → Type 0
FirstOpen b None = b.upper ⊑ b.lower
FirstOpen b (Some k) = FirstOpenAt b (named k.code)

-- between n lies what lies between b and has k
pub record Including (b : Bounds) (k : Lit) (n : Bounds) : Type 0 where
  pub to : (s : LiteralSet) → Between b s → In s k → Between n s
  pub from : (s : LiteralSet) → Between n s → Between b s × In s k

-- between n lies what lies between b and lacks k
pub record Excluding (b : Bounds) (k : Lit) (n : Bounds) : Type 0 where
  pub to : (s : LiteralSet) → Between b s → (In s k → ⊥) → Between n s
  pub from : (s : LiteralSet) → Between n s → Between b s × (In s k → ⊥)

-- the lower bound has k too, and the upper one is as it was
pub record RaisesLower (b : Bounds) (k : Lit) (n : Bounds) : Type 0 where
  pub low : Added b.lower k n.lower
  pub high : n.upper ≡ b.upper

-- the upper bound has lost k, and the lower one is as it was
pub record CutsUpper (b : Bounds) (k : Lit) (n : Bounds) : Type 0 where
  pub low : n.lower ≡ b.lower
  pub high : Removed b.upper k n.upper
