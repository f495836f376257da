-- The stations, worked through: the breadth of the last, and one computed test each.
use Rattle.std.proofs.Common.{ℕ, ◌^◌, nat_lt, IsTrue, All, List, [], ◌∷◌, refl, inl, inr, ⊎_elim}
use Rattle.std.proofs.lemmas.Bool.{ltb-true}
use Rattle.std.proofs.lemmas.List.Elements.{All-from_recursion}
use lib.Count.{ones, ones_in}
use Rattle.literals.specs.declared.literal_set.LiteralSet.{LiteralSet}
use Rattle.literals.specs.Sets.{Lit, In}
use Rattle.literals.proofs.Bitsets.{none_has}
use Rattle.picks.specs.declared.fit.Fit.{Fit}
use Rattle.literals.proofs.SetLaws.{none_in, union_is}
use Rattle.tables.specs.declared.records.Head.{Head}
use Rattle.tables.specs.declared.records.Head.TheVariants.{Plain, Constraint, Choice}
use Rattle.tables.specs.declared.records.Rule.{Rule}
use Rattle.answer_sets.specs.Rules.{rules_of}
use Rattle.breadth.specs.Breadth.{InChoice, DecisiveSet, Breadth}
use Rattle.breadth.proofs.DecisiveSets.{decisive_none, decisive_one, decisive_both}
use Rattle.stations.specs.Listing.{Lists}
use Rattle.stations.specs.Stations.{Station, atoms, stations, two_choices}
use Rattle.stations.proofs.Deciding.{none, join, listing}

-- ---- the breadth

-- the literals of a choice head
abbrev choice_set : Head → LiteralSet
choice_set (Plain literal) = none
choice_set Constraint = none
choice_set (Choice choice) = choice.head

choice_in : (head : Head) (k : Lit) → InChoice head k → In (choice_set head) k
choice_in (Plain literal) k p = absurd p
choice_in Constraint k p = absurd p
choice_in (Choice choice) k p = p

in_choice : (head : Head) (k : Lit) → In (choice_set head) k → InChoice head k
in_choice (Plain literal) k p = none_in k p
in_choice Constraint k p = none_in k p
in_choice (Choice choice) k p = p

-- the decisive literals of rules that are written out
abbrev decisive : List Rule → LiteralSet
decisive [] = none
decisive (rule ∷ rules) = join (join rule.body.absent (choice_set rule.head)) (decisive rules)

decisive_is : (rules : List Rule) → DecisiveSet rules (decisive rules)
decisive_is [] = decisive_none
decisive_is (rule ∷ rules) =
    let here = join rule.body.absent (choice_set rule.head) in
    let u = union_is rule.body.absent (choice_set rule.head) in
    decisive_both (rule ∷ []) rules here (decisive rules) (decisive (rule ∷ rules))
    (decisive_one rule here (λ k. ⊎_elim (u.left k) (λ q. u.right k (choice_in rule.head k q)))
    (λ k p. ⊎_elim (λ q. inl q) (λ q. inr (in_choice rule.head k q)) (u.only k p)))
    (decisive_is rules) (union_is here (decisive rules))

pub last_broad : Breadth (rules_of two_choices.rows) 4
unfolding ones ones_in
last_broad = (decisive (rules_of two_choices.rows), decisive_is (rules_of two_choices.rows), refl)

-- ---- the fits

-- a set of atoms as a fit
abbrev fit : (word : ℕ) → IsTrue (nat_lt word (2 ^ 64)) → Fit
fit word below = record { literals = atoms word; sound = (ltb-true word (2 ^ 64) below, ltb-true 0 (2 ^ 64) refl, λ a p. none_has a) }

abbrev Stands : Station → Type 0
Stands s = Lists (rules_of s.rows) s.fits

pub all_listed : All Stands stations
unfolding ones ones_in
all_listed =
    All-from_recursion Stands stations (
      (fit 0 refl ∷ [], refl, listing 1 0 _ _ refl),
      (
        (fit 1 refl ∷ (fit 2 refl ∷ []), refl, listing 2 2 _ _ refl),
        (
          ([], refl, listing 2 1 _ _ refl),
          (
            (fit 0 refl ∷ [], refl, listing 2 2 _ _ refl),
            (
              (fit 0 refl ∷ (fit 1 refl ∷ []), refl, listing 2 1 _ _ refl),
              (
                (fit 0 refl ∷ [], refl, listing 2 1 _ _ refl),
                (
                  (fit 0x0a refl ∷ (fit 0x15 refl ∷ (fit 0x19 refl ∷ [])), refl, listing 3 5 _ _ refl),
                  tt,
                ),
              ),
            ),
          ),
        ),
      ),
    )
