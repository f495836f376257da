-- The rules of a table, one after another.
use Rattle.std.proofs.Common.{◌≡◌, ap, ℕ, ◌<◌, ◌↔◌, Bool, true, false, IsTrue, MatchBool, List, [], ◌∷◌, ◌++◌, length, All, Some, refl}
use Rattle.std.proofs.lemmas.Bool.{false≢true}
use Rattle.std.specs.Iterator.{YieldsFirst}
use Rattle.std.proofs.lemmas.Iterator.{YieldsList}
use Rattle.std.proofs.lemmas.Iterator.Consumers.{YieldsList-from_first}
use Rattle.std.specs.List.{AllWithin, HoldsAt}
use Rattle.std.proofs.lemmas.Iterator.Search.{true_from_All}
use Rattle.std.proofs.lemmas.List.Elements.{All-nil, All-push, All-pop, All-from_all_within}
use Rattle.literals.specs.declared.literal_set.LiteralSet.{LiteralSet}
use Rattle.literals.specs.Sets.{◌⊑◌}
use Rattle.tables.specs.declared.records.Rule.{Rule}
use Rattle.tables.specs.declared.row.RuleRow.{RuleRow}
use Rattle.tables.specs.declared.table.Records.{Records}
use Rattle.answer_sets.specs.Rules.{rules_of}
use Rattle.answer_sets.specs.Closing.{ClosedBy}

-- the rules that are left of a table
abbrev pub rules_left : Records Rule RuleRow → List Rule
rules_left left = rules_of left.rows.now

-- an iterator over a table gives its rules
pub rules_given : (rows : List RuleRow) (left : Records Rule RuleRow) → left.rows.now ≡ rows → YieldsList (YieldsFirst rules_left) (λ rule. rule) left (rules_of rows)
rules_given rows left e = YieldsList-from_first (λ rule. rule) rules_left (rules_of rows) (ap rules_of e)

-- `got` has what the rules give to `set`, each taken once
pub record Grown (against chosen set : LiteralSet) (rules : List Rule) (got : LiteralSet) : Type 0 where
  pub grown : set ⊑ got
  pub least : (y : LiteralSet) → All (ClosedBy against chosen y) rules → set ⊑ y → got ⊑ y
  pub closed : got ⊑ set → All (ClosedBy against chosen set) rules

module _ (against chosen set : LiteralSet) where
  pub grown_none : Grown against chosen set [] set
  grown_none = record { grown = λ l h. h; least = λ y all s. s; closed = λ s. All-nil (ClosedBy against chosen set) }

  -- one rule more
  pub grown_more : (rules : List Rule) (got : LiteralSet) (rule : Rule) (next : LiteralSet) → Grown against chosen set rules got
      → got ⊑ next
      → ((y : LiteralSet) → ClosedBy against chosen y rule → got ⊑ y → next ⊑ y)
      → ((z : LiteralSet) → z ⊑ got → next ⊑ z → ClosedBy against chosen z rule)
      → Grown against chosen set (rules ++ rule ∷ []) next
  grown_more rules got rule next g grown least closed = record {
    grown = λ l h. grown l (g.grown l h);
    least = λ y all s.
        let p = All-pop (ClosedBy against chosen y) (rules ++ rule ∷ []) rules (Some rule) refl all in
        least y p.1 (g.least y p.0 s);
    closed = λ s.
        All-push (ClosedBy against chosen set) rules rule (g.closed (λ l h. s l (grown l h))) (closed set g.grown s);
  }

-- what `all` answers
pub answered : {X : Type 0} (P : X → Type 0) (r : Bool) (xs : List X)
    → MatchBool r (AllWithin P xs 0 (length xs)) ((k : ℕ) × (k < length xs) × HoldsAt (λ x. ¬ (P x)) xs k) → IsTrue r ↔ All P xs
answered P true xs h = (λ t. All-from_all_within P xs h, λ all. refl)
answered P false xs h = (λ t. absurd (false≢true t), λ all. true_from_All P (λ x. ¬ (P x)) false xs (λ x p n. n p) h all)
