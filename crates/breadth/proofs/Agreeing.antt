-- Two answer sets that agree on every literal under "not" and in a choice head are one.
use Rattle.std.proofs.Common.{◌≡◌, List, inl, inr}
use Rattle.literals.specs.declared.literal_set.LiteralSet.{LiteralSet}
use Rattle.literals.specs.Sets.{Lit, In}
use Rattle.literals.proofs.SetLaws.{same_sets}
use Rattle.tables.specs.declared.records.Head.{Head}
use Rattle.tables.specs.declared.records.Head.TheVariants.{Plain, Constraint, Choice}
use Rattle.tables.specs.declared.records.Rule.{Rule}
use Rattle.answer_sets.specs.Rules.{Gives}
use Rattle.answer_sets.specs.AnswerSets.{Closed, AnswerSet}
use Rattle.breadth.specs.Breadth.{InChoice, DecisiveSet}

-- of the literals of d, t has those that s has
abbrev pub Agree : LiteralSet → LiteralSet → LiteralSet → Type 0
Agree d s t = (k : Lit) → In d k → In s k → In t k

gives_alike : (d s t : LiteralSet) → Agree d t s → (h : Head) → ((k : Lit) → InChoice h k → In d k) → (k : Lit) → Gives h t k → Gives h s k
gives_alike d s t a (Plain literal) c k g = g
gives_alike d s t a Constraint c k g = g
gives_alike d s t a (Choice choice) c k g = (g.0, a k (c k g.0) g.1)

module _ (rules : List Rule) (d : LiteralSet) (decisive : DecisiveSet rules d) where
  closed_alike : (s t x : LiteralSet) → Agree d s t → Agree d t s → Closed rules s x → Closed rules t x
  closed_alike s t x a b closed i r inside active wanted k g =
      let there = decisive.all i r inside in
      closed i r inside (λ l h p. active l h (a l (there l (inl h)) p)) wanted k
      (gives_alike d s t b _ (λ l h. there l (inr h)) k g)

  pub answers_alike : (s t : LiteralSet) → Agree d s t → Agree d t s → AnswerSet rules s → AnswerSet rules t → s ≡ t
  answers_alike s t a b u v =
      same_sets s t (u.founded.least t (closed_alike t s t b a v.founded.closed))
      (v.founded.least s (closed_alike s t s a b u.founded.closed))
