-- What an order may say of all fits between two bounds, and of two fits that it cannot tell apart.
use Rattle.std.specs.Prelude.{◌≡◌, Bool, IsTrue}
use Rattle.picks.specs.declared.bounds.Bounds.{Bounds}
use Rattle.picks.specs.declared.fit.Fit.{Fit}
use Rattle.picks.specs.Between.{Between}

-- no fit is better than itself
abbrev pub Irreflexive : (Fit → Fit → Bool) → Type 0
Irreflexive better = (a : Fit) → IsTrue (better a a) → ⊥

-- what is better than a better fit is better
abbrev pub Transitive : (Fit → Fit → Bool) → Type 0
Transitive better = (a b c : Fit) → IsTrue (better a b) → IsTrue (better b c) → IsTrue (better a c)

-- no fit between the bounds is better than f
abbrev pub NoneBetter : (Fit → Fit → Bool) → Bounds → Fit → Type 0
NoneBetter better b f = (g : Fit) → Between b g.literals → IsTrue (better g f) → ⊥

-- f is better than every fit between the bounds
abbrev pub AllWorse : (Fit → Fit → Bool) → Fit → Bounds → Type 0
AllWorse better f b = (g : Fit) → Between b g.literals → IsTrue (better f g)

-- a and b are bettered by the same fits, and better the same fits
abbrev pub Alike : (Fit → Fit → Bool) → Fit → Fit → Type 0
Alike better a b = (f : Fit) → (better f a ≡ better f b) × (better a f ≡ better b f)
