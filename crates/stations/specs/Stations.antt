-- Small books of rules with the fits that are their answer sets. Here a is atom 0, b atom 1, and so on to e; bit 0 of a word
-- stands for a, bit 1 for b, and so on.
use Rattle.std.specs.Prelude.{ℕ, List, [], ◌∷◌}
use Rattle.literals.specs.declared.condition.Condition.{Condition}
use Rattle.literals.specs.declared.literal_set.LiteralSet.{LiteralSet}
use Rattle.tables.specs.declared.row.RuleRow.{RuleRow}
use Rattle.tables.specs.declared.row.RuleRow.TheVariants.{Plain, Constraint, Choice}

-- a set of atoms
abbrev pub atoms : ℕ → LiteralSet
atoms word = record { plus = word; minus = 0 }

-- the first atoms are wanted, the second stand under "not"
abbrev pub body : ℕ → ℕ → Condition
body wanted absent = record { wanted = atoms wanted; absent = atoms absent }

-- a book as a table of rows, and its fits as sets of literals
pub record Station : Type 0 where
  pub rows : List RuleRow
  pub fits : List LiteralSet

-- the empty book: the empty fit alone
abbrev pub empty_book : Station
empty_book = record { rows = []; fits = atoms 0 ∷ [] }

-- "a if not b", "b if not a": {a}, then {b}
abbrev pub even_loop : Station
even_loop = record { rows = Plain 0 (body 0 2) ∷ (Plain 2 (body 0 1) ∷ []); fits = atoms 1 ∷ (atoms 2 ∷ []) }

-- "a if not a": none
abbrev pub odd_loop : Station
odd_loop = record { rows = Plain 0 (body 0 1) ∷ []; fits = [] }

-- "a if b", "b if a": the empty fit alone
abbrev pub positive_loop : Station
positive_loop = record { rows = Plain 0 (body 2 0) ∷ (Plain 2 (body 1 0) ∷ []); fits = atoms 0 ∷ [] }

-- choice 0 to 1 of a: the empty fit, then {a}
abbrev pub free_choice : Station
free_choice = record { rows = Choice 0 1 (atoms 1) (body 0 0) ∷ []; fits = atoms 0 ∷ (atoms 1 ∷ []) }

-- choice 1 to 1 of a, if a: the empty fit alone
abbrev pub choice_of_itself : Station
choice_of_itself = record { rows = Choice 1 1 (atoms 1) (body 1 0) ∷ []; fits = atoms 0 ∷ [] }

-- choice 1 to 1 of a and b, choice 1 to 1 of c and d, "e if a", and not both b and c: {b, d}, then {a, c, e}, then {a, d, e}
abbrev pub two_choices : Station
two_choices = record {
  rows = Choice 1 1 (atoms 0x03) (body 0 0) ∷ (Choice 1 1 (atoms 0x0c) (body 0 0) ∷ (Plain 8 (body 1 0) ∷ (Constraint (body 6 0) ∷ [])));
  fits = atoms 0x0a ∷ (atoms 0x15 ∷ (atoms 0x19 ∷ []));
}

abbrev pub stations : List Station
stations = empty_book ∷ (even_loop ∷ (odd_loop ∷ (positive_loop ∷ (free_choice ∷ (choice_of_itself ∷ (two_choices ∷ []))))))
