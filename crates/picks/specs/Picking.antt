-- Picks: what they ask of a fit, and what is left of them when a literal is picked or released.
use Rattle.std.specs.Prelude.{◌≡◌, ◌⊎◌, Some, None, Option}
use Rattle.picks.specs.declared.fit.Fit.{Fit}
use Rattle.picks.specs.declared.picks.Picks.{Picks}
use Rattle.picks.specs.declared.picks.Side.{Side}
use Rattle.picks.specs.declared.picks.Side.TheVariants.{Required, Excluded}
use Rattle.literals.specs.Sets.{Lit, In, ◌⊑◌, Disjoint, Added, Removed, opposite_of}

-- the literal is on that side
abbrev pub On : Picks → Side → Lit → Type 0
On p Required k = In p.required k
On p Excluded k = In p.excluded k

-- the literal is on one side or the other
abbrev pub Picked : Picks → Lit → Type 0
Picked p k = On p Required k ⊎ On p Excluded k

-- a fit keeps the picks when it has every required literal and no excluded one
pub record Keeps (p : Picks) (f : Fit) : Type 0 where
  pub required : p.required ⊑ f.literals
  pub excluded : Disjoint p.excluded f.literals

-- what cannot be added to a side: a literal that is picked already, and to the required side the strong negation of a required one
abbrev pub Barred : Picks → Side → Lit → Type 0
Barred p Required k = Picked p k ⊎ On p Required (opposite_of k)
Barred p Excluded k = Picked p k

-- q has the literal k on that side, and else what p has
abbrev pub Joined : Picks → Side → Lit → Picks → Type 0
Joined p Required k q = Added p.required k q.required × (q.excluded ≡ p.excluded)
Joined p Excluded k q = (q.required ≡ p.required) × Added p.excluded k q.excluded

-- none exactly where the literal is barred
abbrev pub With : Picks → Side → Lit → Option Picks → Type 0
With p s k None = Barred p s k
With p s k (Some q) = (Barred p s k → ⊥) × Joined p s k q

-- q has what p has, but for the literal k
pub record Released (p : Picks) (k : Lit) (q : Picks) : Type 0 where
  pub required : Removed p.required k q.required
  pub excluded : Removed p.excluded k q.excluded

-- picks with the same literals on each side are the same picks
abbrev pub KnownBySides : Type 0
KnownBySides = (p q : Picks) → ((s : Side) (k : Lit) → (On p s k → On q s k) × (On q s k → On p s k)) → p ≡ q
