-- Why a record determines its row and is determined by it.
use Rattle.std.proofs.Common.{◌≡◌, ℕ, ◌<◌, ◌≤◌, Bool, true, false, leb, Some, None, Ok, Option, Result, sym, refl, ap, ◌∙◌, arith}
use mathlib.Core.HLevel.{×_prop, ×₃_prop}
use mathlib.Core.Path.{path_j'}
use native.Mathlib.Bridge.{le_prop}
use Rattle.std.proofs.lemmas.Bool.{le-leb, and_from}
use Rattle.literals.specs.Sets.{size}
use Rattle.literals.specs.declared.condition.Condition.{Condition}
use Rattle.literals.specs.declared.literal.Literal.{Literal}
use Rattle.literals.specs.declared.record_fault.RecordFault.{RecordFault}
use Rattle.tables.specs.Rows.{within, makes_rule, makes_wish, makes_alternative, makes_penalty}
use Rattle.tables.specs.Making.{tested, head_row, rule_row, rule_from, rule_of, wish_row, wish_from, wish_of, alternative_row, alternative_from, alternative_of, penalty_row, penalty_from, penalty_of}
use Rattle.tables.specs.Tables.{or_refused, Faithful}
use Rattle.tables.specs.declared.row.RuleRow.{RuleRow}
use Rattle.tables.specs.declared.row.RuleRow.TheVariants as row
use Rattle.tables.specs.declared.records.Head.{Head}
use Rattle.tables.specs.declared.records.Head.TheVariants as head
use Rattle.tables.specs.declared.records.Choice.{Choice}
use Rattle.tables.specs.declared.records.Rule.{Rule}
use Rattle.tables.specs.declared.records.Wish.{Wish}
use Rattle.tables.specs.declared.records.Alternative.{Alternative}
use Rattle.tables.specs.declared.records.Penalty.{Penalty}

-- where the test says yes, what is made is made, by whichever proof
tested_true : {R : Type 0} {b : Bool} (made : b ≡ true → R) (e : b ≡ true) → tested b made ≡ Some (made e)
tested_true {R} made e = path_j' (λ b p. (f : b ≡ true → R) → tested b f ≡ Some (f p)) (λ f. refl) e made

tested_false : {R : Type 0} {b : Bool} (made : b ≡ true → R) → b ≡ false → tested b made ≡ None
tested_false {R} made e = path_j' (λ b p. (f : b ≡ true → R) → tested b f ≡ None) (λ f. refl) e made

-- what was made has the row that each thing so made has
tested_row : {Row R : Type 0} (row_of : R → Row) (row : Row) (b : Bool) (made : b ≡ true → R) (x : R)
    → ((e : b ≡ true) → row_of (made e) ≡ row) → tested b made ≡ Some x → row_of x ≡ row
tested_row row_of row true made x k e = let i : made refl ≡ x = cc in ap row_of (sym i) ∙ k refl
tested_row row_of row false made x k e = let z : ◌≡◌ {A = ℕ} 0 1 = cc in absurd (omega arith)

module _ {Row R : Type 0} (makes : Row → Bool) (from : (row : Row) → makes row ≡ true → R) (row_of : R → Row)
    (valid : (x : R) → makes (row_of x) ≡ true)
    (keeps : (row : Row) (e : makes row ≡ true) → row_of (from row e) ≡ row)
    (same : (x : R) (e : makes (row_of x) ≡ true) → from (row_of x) e ≡ x) where
  made_again : (x : R) → tested (makes (row_of x)) (from (row_of x)) ≡ Some x
  made_again x = tested_true (from (row_of x)) (valid x) ∙ ap Some (same x (valid x))

  alone : (x y : R) → row_of x ≡ row_of y → x ≡ y
  alone x y e =
      let p : tested (makes (row_of x)) (from (row_of x)) ≡ Some y = rw e (made_again y) in
      let q = made_again x in
      cc

  faithful : Faithful makes (λ row. tested (makes row) (from row)) row_of
  faithful = record {
    valid = valid;
    again = made_again;
    kept = λ row x. tested_row row_of row (makes row) (from row) x (keeps row);
    alone = alone;
    none = λ row. tested_false (from row);
  }

-- a record that has the row is what is to be made of the row
pub accepted : {Row R : Type 0} (makes : Row → Bool) (of : Row → Option R) (row_of : R → Row) → Faithful makes of row_of
    → (row : Row) (x : R) → row ≡ row_of x → ◌≡◌ {A = Result R RecordFault} (Ok x) (or_refused (of row))
accepted makes of row_of f row x e = ap or_refused (sym (ap of e ∙ f.again x))

-- bounds make the test say yes
within_true : (low high n : ℕ) → (low ≤ n) × (n ≤ high) → within low high n ≡ true
within_true low high n h = and_from (leb low n) (leb n high) (le-leb low n h.0) (le-leb n high h.1)

-- Rules.

rule_valid : (h : Head) (body : Condition) → makes_rule (head_row h body) ≡ true
rule_valid (head.Plain literal) body = le-leb literal.code 127 (omega arith)
rule_valid head.Constraint body = refl
rule_valid (head.Choice choice) body =
    let s = choice.sound in
    and_from _ _ (le-leb 1 _ s.0) (and_from _ _ (le-leb choice.least _ s.1) (le-leb choice.greatest _ s.2))

rule_keeps : (r : RuleRow) (e : makes_rule r ≡ true) → rule_row (rule_from r e) ≡ r
rule_keeps (row.Plain code body) e = refl
rule_keeps (row.Constraint body) e = refl
rule_keeps (row.Choice least greatest of body) e = refl

rule_same : (h : Head) (body : Condition) (e : makes_rule (head_row h body) ≡ true) → rule_from (head_row h body) e ≡ record { head = h; body = body }
rule_same (head.Plain literal) body e =
    ap (λ (k : literal.code < 128). record { head = head.Plain (record { code = literal.code; known = k }); body = body })
    (le_prop _ literal.known)
rule_same head.Constraint body e = refl
rule_same (head.Choice choice) body e =
    ap (λ (s : (1 ≤ size choice.head) × (choice.least ≤ choice.greatest) × (choice.greatest ≤ size choice.head)).
    record { head = head.Choice (record { least = choice.least; greatest = choice.greatest; head = choice.head; sound = s }); body = body })
    (×₃_prop le_prop le_prop le_prop _ choice.sound)

pub rule_faithful : Faithful makes_rule rule_of rule_row
rule_faithful =
    faithful makes_rule rule_from rule_row
    (λ x. rule_valid x.head x.body) rule_keeps (λ x. rule_same x.head x.body)

pub plain_accepted : (r : RuleRow) (literal : Literal) (body : Condition) → r ≡ row.Plain literal.code body
    → ◌≡◌ {A = Result Rule RecordFault} (Ok (record { head = head.Plain literal; body = body })) (or_refused (rule_of r))
plain_accepted r literal body e = accepted makes_rule rule_of rule_row rule_faithful r (record { head = head.Plain literal; body = body }) e

pub constraint_accepted : (r : RuleRow) (body : Condition) → r ≡ row.Constraint body
    → ◌≡◌ {A = Result Rule RecordFault} (Ok (record { head = head.Constraint; body = body })) (or_refused (rule_of r))
constraint_accepted r body e = accepted makes_rule rule_of rule_row rule_faithful r (record { head = head.Constraint; body = body }) e

pub choice_accepted : (r : RuleRow) (choice : Choice) (body : Condition)
    → r ≡ row.Choice choice.least choice.greatest choice.head body
    → ◌≡◌ {A = Result Rule RecordFault} (Ok (record { head = head.Choice choice; body = body })) (or_refused (rule_of r))
choice_accepted r choice body e = accepted makes_rule rule_of rule_row rule_faithful r (record { head = head.Choice choice; body = body }) e

-- Wishes.

wish_same : (x : Wish) (e : makes_wish (wish_row x) ≡ true) → wish_from (wish_row x) e ≡ x
wish_same x e =
    ap (λ (s : (1 ≤ x.rank) × (x.rank ≤ 16)). record { rank = x.rank; body = x.body; sound = s })
    (×_prop le_prop le_prop _ x.sound)

pub wish_faithful : Faithful makes_wish wish_of wish_row
wish_faithful = faithful makes_wish wish_from wish_row (λ x. within_true 1 16 x.rank x.sound) (λ r e. refl) wish_same

-- Alternatives.

alternative_same : (x : Alternative) (e : makes_alternative (alternative_row x) ≡ true) → alternative_from (alternative_row x) e ≡ x
alternative_same x e =
    ap (λ (s : (1 ≤ x.level) × (x.level ≤ 8)). record { wish = x.wish; level = x.level; condition = x.condition; sound = s })
    (×_prop le_prop le_prop _ x.sound)

pub alternative_faithful : Faithful makes_alternative alternative_of alternative_row
alternative_faithful =
    faithful makes_alternative alternative_from alternative_row
    (λ x. within_true 1 8 x.level x.sound) (λ r e. refl) alternative_same

-- Penalties.

penalty_same : (x : Penalty) (e : makes_penalty (penalty_row x) ≡ true) → penalty_from (penalty_row x) e ≡ x
penalty_same x e =
    ap (λ (s : (1 ≤ x.level) × (x.level ≤ 16)). record { level = x.level; condition = x.condition; sound = s })
    (×_prop le_prop le_prop _ x.sound)

pub penalty_faithful : Faithful makes_penalty penalty_of penalty_row
penalty_faithful = faithful makes_penalty penalty_from penalty_row (λ x. within_true 1 16 x.level x.sound) (λ r e. refl) penalty_same
