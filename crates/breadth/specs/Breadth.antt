-- The breadth of a list of rules, and how many answer sets it leaves room for.
use Rattle.std.specs.Prelude.{◌≡◌, ℕ, ◌^◌, ◌≤◌, ◌⊎◌, List, length, ◌≢◌, All, Any, AllPairs}
use Rattle.literals.specs.declared.literal_set.LiteralSet.{LiteralSet}
use Rattle.literals.specs.Sets.{Lit, In, size}
use Rattle.tables.specs.declared.records.Head.{Head}
use Rattle.tables.specs.declared.records.Head.TheVariants.{Plain, Constraint, Choice}
use Rattle.tables.specs.declared.records.Rule.{Rule}
use Rattle.answer_sets.specs.AnswerSets.{AnswerSet}

-- the head is a choice, and the literal is one of its literals
abbrev pub InChoice : Head → Lit → Type 0
InChoice (Plain literal) k = ⊥
InChoice Constraint k = ⊥
InChoice (Choice choice) k = In choice.head k

-- the literal stands under "not" in the body of the rule, or in its choice head
abbrev pub Decisive : Rule → Lit → Type 0
Decisive rule k = In rule.body.absent k ⊎ InChoice rule.head k

-- s has exactly the literals that are decisive in some rule
pub record DecisiveSet (rules : List Rule) (s : LiteralSet) : Type 0 where
  pub all : All (λ rule. (k : Lit) → Decisive rule k → In s k) rules
  pub only : (k : Lit) → In s k → Any (λ rule. Decisive rule k) rules

-- n is the number of different literals that are decisive in some rule
abbrev pub Breadth : List Rule → ℕ → Type 0
Breadth rules n = (s : LiteralSet) × DecisiveSet rules s × (n ≡ size s)

-- no two entries of the list are equal
abbrev pub Different : List LiteralSet → Type 0
Different sets = AllPairs ◌≢◌ sets

-- a list of different answer sets has at most 2 to the power of n entries
abbrev pub AtMostAnswers : List Rule → ℕ → Type 0
AtMostAnswers rules n = (sets : List LiteralSet) → All (AnswerSet rules) sets → Different sets → length sets ≤ 2 ^ n
