-- Which rows of plain numbers make a record.
use Rattle.std.specs.Prelude.{ℕ, Bool, true, ◌&&◌, ◌==◌, bit_and, nat_le}
use Rattle.literals.specs.Sets.{size}
use Rattle.literals.specs.declared.literal_set.LiteralSet.{LiteralSet}
use Rattle.tables.specs.declared.row.RuleRow.{RuleRow}
use Rattle.tables.specs.declared.row.RuleRow.TheVariants.{Plain, Constraint, Choice}
use Rattle.tables.specs.declared.row.WishRow.{WishRow}
use Rattle.tables.specs.declared.row.AlternativeRow.{AlternativeRow}
use Rattle.tables.specs.declared.row.PenaltyRow.{PenaltyRow}

-- n lies from low to high
abbrev pub within : ℕ → ℕ → ℕ → Bool
within low high n = nat_le low n && nat_le n high

-- a literal code is at most 127; a choice has a literal in its head, and least ≤ greatest ≤ the number of head literals
abbrev pub makes_rule : RuleRow → Bool
makes_rule (Plain code body) = nat_le code 127
makes_rule (Constraint body) = true
makes_rule (Choice least greatest head body) = nat_le 1 (size head) && (nat_le least greatest && nat_le greatest (size head))

abbrev pub makes_wish : WishRow → Bool
makes_wish w = within 1 16 w.rank

abbrev pub makes_alternative : AlternativeRow → Bool
makes_alternative a = within 1 8 a.level

abbrev pub makes_penalty : PenaltyRow → Bool
makes_penalty p = within 1 16 p.level

-- no atom is in a fit together with its strong negation
abbrev pub makes_fit : LiteralSet → Bool
makes_fit s = bit_and s.plus s.minus == 0
