-- What a filter may say of all fits between two bounds.
use Rattle.std.specs.Prelude.{Bool, IsTrue}
use Rattle.picks.specs.declared.bounds.Bounds.{Bounds}
use Rattle.picks.specs.declared.fit.Fit.{Fit}
use Rattle.picks.specs.Between.{Between}

-- no fit between the bounds passes
abbrev pub NonePasses : (Fit → Bool) → Bounds → Type 0
NonePasses passing b = (f : Fit) → Between b f.literals → IsTrue (passing f) → ⊥
