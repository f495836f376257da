-- What a search of a rule book looks for. Words of private functions.
use Rattle.std.specs.Prelude.{◌≡◌, ◌<◌, Bool, IsTrue, ◌⊎◌, List}
use Rattle.literals.specs.declared.literal_set.LiteralSet.{LiteralSet}
use Rattle.literals.specs.Sets.{Lit, In}
use Rattle.picks.specs.declared.bounds.Bounds.{Bounds}
use Rattle.picks.specs.declared.fit.Fit.{Fit}
use Rattle.picks.specs.Between.{Between}
use Rattle.picks.specs.Fits.{place}
use Rattle.tables.specs.declared.records.Rule.{Rule}
use Rattle.answer_sets.specs.AnswerSets.{AnswerSet}

-- an answer set that passes
abbrev pub Suits : List Rule → (Fit → Bool) → Fit → Type 0
Suits rules passing f = AnswerSet rules f.literals × IsTrue (passing f)

-- such a fit with just these literals
abbrev pub SuitsAt : List Rule → (Fit → Bool) → LiteralSet → Fit → Type 0
SuitsAt rules passing s f = Suits rules passing f × (f.literals ≡ s)

-- such a fit between the bounds
abbrev pub SuitsBetween : List Rule → (Fit → Bool) → Bounds → Fit → Type 0
SuitsBetween rules passing b f = Suits rules passing f × Between b f.literals

-- such a fit between the bounds that comes after a
abbrev pub SuitsAfter : List Rule → (Fit → Bool) → Fit → Bounds → Fit → Type 0
SuitsAfter rules passing a b f = SuitsBetween rules passing b f × (place a < place f)

-- r has the literals that a has, or that may be in between the bounds, unless they are settled there as in a
pub record Doubtful (a : LiteralSet) (b : Bounds) (r : LiteralSet) : Type 0 where
  pub may : (l : Lit) → In b.upper l → (In a l → ⊥) → In r l
  pub need : (l : Lit) → In a l → (In b.lower l → ⊥) → In r l
  pub one : (l : Lit) → In r l → (In b.upper l × (In a l → ⊥)) ⊎ (In a l × (In b.lower l → ⊥))
