-- Which literals some rule gives. Words of private functions.
use Rattle.std.specs.Prelude.{◌≡◌}
use Rattle.literals.specs.declared.literal_set.LiteralSet.{LiteralSet}
use Rattle.literals.specs.Conditions.{Holds}
use Rattle.literals.specs.Sets.{Lit, In, ◌⊑◌, opposite_of}
use Rattle.picks.specs.declared.bounds.Bounds.{Bounds}
use Rattle.picks.specs.Between.{Between}
use Rattle.tables.specs.declared.records.Rule.{Rule}
use Rattle.answer_sets.specs.Rules.{Satisfies, Gives}
use Rattle.propagation.specs.declared.turn.Turn.{Turn}
use Rattle.propagation.specs.Narrowing.{Tighter}

-- where the body holds in s, what the head gives for s is in the support
abbrev pub Supports : LiteralSet → LiteralSet → Rule → Type 0
Supports support s rule = Holds rule.body s → (k : Lit) → Gives rule.head s k → In support k

-- u comes from t by one rule: narrower bounds for the sets that satisfy it, and its head in the support unless its body fails
-- between the bounds
pub record Turned (rule : Rule) (t u : Turn) : Type 0 where
  pub bounds : Tighter (λ s. Satisfies s rule) t.bounds u.bounds
  pub more : t.support ⊑ u.support
  pub supports : (s : LiteralSet) → Between t.bounds s → Supports u.support s rule

-- n has the lower bound of t, and of the upper one what is in the support and is not the strong negation of what is in
pub record Supported (t : Turn) (n : Bounds) : Type 0 where
  pub low : n.lower ≡ t.bounds.lower
  pub high : n.upper ⊑ t.bounds.upper
  pub all : (k : Lit) → In t.bounds.upper k → In t.support k → (In t.bounds.lower (opposite_of k) → ⊥) → In n.upper k
