-- The first fit of a kind, and the kinds that a source is asked for.
use Rattle.std.specs.Prelude.{◌<◌, ◌≤◌, Bool, IsTrue, Some, None, Option}
use Rattle.picks.specs.declared.fit.Fit.{Fit}
use Rattle.picks.specs.declared.picks.Picks.{Picks}
use Rattle.picks.specs.Fits.{place}
use Rattle.picks.specs.Picking.{Keeps}

-- the first fit of which Q holds, and none exactly where there is none
abbrev pub First : (Fit → Type 0) → Option Fit → Type 0
First Q None = (f : Fit) → Q f → ⊥
First Q (Some f) = Q f × ((g : Fit) → Q g → place f ≤ place g)

-- f comes after the given fit, if one is given
abbrev pub After : Option Fit → Fit → Type 0
After None f = Unit {0}
After (Some a) f = place a < place f

-- a lawful fit that keeps the picks and comes after the given fit
abbrev pub Next : (Fit → Type 0) → Picks → Option Fit → Fit → Type 0
Next lawful picks after f = lawful f × Keeps picks f × After after f

-- such a fit that passes
abbrev pub NextPassing : (Fit → Type 0) → (Fit → Bool) → Picks → Option Fit → Fit → Type 0
NextPassing lawful passing picks after f = Next lawful picks after f × IsTrue (passing f)
