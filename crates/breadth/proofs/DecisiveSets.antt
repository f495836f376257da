-- The decisive literals of rules, one after another, and what their number says of answer sets.
use Rattle.std.proofs.Common.{◌^◌, ◌≤◌, List, [], ◌∷◌, ◌++◌, length, get_or, All, AllPairs, refl, subst, ⊎_elim, arith}
use Rattle.std.proofs.lemmas.List.Elements.{All-nil, All-cons, All-append, All-weaker, All-contains, Contains-append_left, Contains-append_right}
use Rattle.literals.specs.declared.literal_set.LiteralSet.{LiteralSet}
use Rattle.literals.specs.Sets.{Lit, In, size, ◌⊑◌, Union}
use Rattle.literals.proofs.SetLaws.{none_in}
use Rattle.tables.specs.declared.records.Rule.{Rule}
use Rattle.answer_sets.specs.AnswerSets.{AnswerSet}
use Rattle.breadth.specs.Breadth.{Decisive, DecisiveSet, Different, AtMostAnswers}
use Rattle.breadth.proofs.Agreeing.{answers_alike}
use Rattle.breadth.proofs.Counting.{SameAt, Same, at_most, listed, listed_length, listed_has}

-- ---- no rule, one rule, and two lists of rules

pub decisive_none : DecisiveSet [] (record { plus = 0; minus = 0 })
decisive_none = record { all = All-nil _; only = λ k p. absurd (none_in k p) }

pub decisive_one : (rule : Rule) (s : LiteralSet) → ((k : Lit) → Decisive rule k → In s k) → ((k : Lit) → In s k → Decisive rule k) → DecisiveSet (rule ∷ []) s
decisive_one rule s to from = record {
  all = All-cons (λ r. (k : Lit) → Decisive r k → In s k) rule [] to (All-nil _);
  only = λ k p. (0, rule, omega arith, refl, from k p);
}

decisive_inside : (rules : List Rule) (x s : LiteralSet) → DecisiveSet rules x → x ⊑ s → All (λ r. (k : Lit) → Decisive r k → In s k) rules
decisive_inside rules x s d i = All-weaker (λ r. (k : Lit) → Decisive r k → In x k) (λ r. (k : Lit) → Decisive r k → In s k) (λ r h k p. i k (h k p)) rules d.all

pub decisive_both : (one two : List Rule) (x y s : LiteralSet) → DecisiveSet one x → DecisiveSet two y → Union x y s → DecisiveSet (one ++ two) s
decisive_both one two x y s a b u = record {
  all = All-append (λ q. (k : Lit) → Decisive q k → In s k) one two (decisive_inside one x s a u.left) (decisive_inside two y s b u.right);
  only = λ k p. ⊎_elim
      (λ q. let o = a.only k q in let at = Contains-append_left one two o.1 (o.0, o.2, o.3) in (at.0, o.1, at.1, at.2, o.4))
      (λ q. let o = b.only k q in let at = Contains-append_right one two o.1 (o.0, o.2, o.3) in (at.0, o.1, at.1, at.2, o.4))
      (u.only k p);
}

-- ---- answer sets

module _ (rules : List Rule) (d : LiteralSet) (decisive : DecisiveSet rules d) where
  apart : (sets : List LiteralSet) → All (AnswerSet rules) sets → Different sets → AllPairs (λ s t. Same (listed d) s t → ⊥) sets
  apart sets all n i j e below inside same =
      let s = get_or sets i e in
      let t = get_or sets j e in
      let at : (k : Lit) → In d k → SameAt s t k = λ k p. All-contains (SameAt s t) (listed d) k same (listed_has d k p) in
      n i j e below inside (answers_alike rules d decisive s t (λ k p. (at k p).0) (λ k p. (at k p).1) (all i e (omega arith)) (all j e inside))

  pub at_most_answers : AtMostAnswers rules (size d)
  at_most_answers sets all n = subst (λ m. length sets ≤ 2 ^ m) (listed_length d) (at_most (listed d) sets (apart sets all n))
