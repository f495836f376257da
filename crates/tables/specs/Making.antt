-- Which record a row makes, and which row a record has.
use Rattle.std.specs.Prelude.{◌≡◌, ℕ, ◌≤◌, Bool, true, false, ◌&&◌, Some, None, Option, nat_le, refl}
use Rattle.std.proofs.Common.{suc-le-suc}
use Rattle.std.proofs.lemmas.Bool.{leb-true, and_parts}
use Rattle.literals.specs.Sets.{size}
use Rattle.literals.specs.declared.condition.Condition.{Condition}
use Rattle.tables.specs.Rows.{within, makes_rule, makes_wish, makes_alternative, makes_penalty}
use Rattle.tables.specs.declared.row.RuleRow.{RuleRow}
use Rattle.tables.specs.declared.row.RuleRow.TheVariants as row
use Rattle.tables.specs.declared.row.WishRow.{WishRow}
use Rattle.tables.specs.declared.row.AlternativeRow.{AlternativeRow}
use Rattle.tables.specs.declared.row.PenaltyRow.{PenaltyRow}
use Rattle.tables.specs.declared.records.Head.{Head}
use Rattle.tables.specs.declared.records.Head.TheVariants as head
use Rattle.tables.specs.declared.records.Rule.{Rule}
use Rattle.tables.specs.declared.records.Wish.{Wish}
use Rattle.tables.specs.declared.records.Alternative.{Alternative}
use Rattle.tables.specs.declared.records.Penalty.{Penalty}

-- what is made where a test says yes
abbrev pub tested : {R : Type 0} (b : Bool) → (b ≡ true → R) → Option R
tested true made = Some (made refl)
tested false made = None

-- the bounds that a test has shown, which a record holds in its ghost field
pub bounds : (low high n : ℕ) → within low high n ≡ true → (low ≤ n) × (n ≤ high)
bounds low high n e = let p = and_parts (nat_le low n) (nat_le n high) e in (leb-true low n p.0, leb-true n high p.1)

pub choice_bounds : (least greatest number : ℕ) → (nat_le 1 number && (nat_le least greatest && nat_le greatest number)) ≡ true
    → (1 ≤ number) × (least ≤ greatest) × (greatest ≤ number)
choice_bounds least greatest number e =
    let p = and_parts (nat_le 1 number) (nat_le least greatest && nat_le greatest number) e in
    let q = and_parts (nat_le least greatest) (nat_le greatest number) p.1 in
    (leb-true 1 number p.0, leb-true least greatest q.0, leb-true greatest number q.1)

-- Rules: the row of one, the rule of a row that passes the test, and of any row, if it makes one. So too below.

abbrev pub head_row : Head → Condition → RuleRow
head_row (head.Plain literal) body = row.Plain literal.code body
head_row head.Constraint body = row.Constraint body
head_row (head.Choice choice) body = row.Choice choice.least choice.greatest choice.head body

abbrev pub rule_row : Rule → RuleRow
rule_row rule = head_row rule.head rule.body

abbrev pub rule_from : (r : RuleRow) → makes_rule r ≡ true → Rule
rule_from (row.Plain code body) e =
    record { head = head.Plain (record { code = code; known = suc-le-suc (leb-true code 127 e) }); body = body }
rule_from (row.Constraint body) e = record { head = head.Constraint; body = body }
rule_from (row.Choice least greatest of body) e =
    record { head = head.Choice (record { least = least; greatest = greatest; head = of; sound = choice_bounds least greatest (size of) e }); body = body }

abbrev pub rule_of : RuleRow → Option Rule
rule_of r = tested (makes_rule r) (rule_from r)

-- Wishes.

abbrev pub wish_row : Wish → WishRow
wish_row w = record { rank = w.rank; body = w.body }

abbrev pub wish_from : (r : WishRow) → makes_wish r ≡ true → Wish
wish_from r e = record { rank = r.rank; body = r.body; sound = bounds 1 16 r.rank e }

abbrev pub wish_of : WishRow → Option Wish
wish_of r = tested (makes_wish r) (wish_from r)

-- Alternatives.

abbrev pub alternative_row : Alternative → AlternativeRow
alternative_row a = record { wish = a.wish; level = a.level; condition = a.condition }

abbrev pub alternative_from : (r : AlternativeRow) → makes_alternative r ≡ true → Alternative
alternative_from r e = record { wish = r.wish; level = r.level; condition = r.condition; sound = bounds 1 8 r.level e }

abbrev pub alternative_of : AlternativeRow → Option Alternative
alternative_of r = tested (makes_alternative r) (alternative_from r)

-- Penalties.

abbrev pub penalty_row : Penalty → PenaltyRow
penalty_row p = record { level = p.level; condition = p.condition }

abbrev pub penalty_from : (r : PenaltyRow) → makes_penalty r ≡ true → Penalty
penalty_from r e = record { level = r.level; condition = r.condition; sound = bounds 1 16 r.level e }

abbrev pub penalty_of : PenaltyRow → Option Penalty
penalty_of r = tested (makes_penalty r) (penalty_from r)
