-- Closed sets where the rules that are active and the literals that choices take are told apart. A search between two bounds
-- knows only that some rules are surely not active, and that some literals cannot be chosen.
use Rattle.std.specs.Prelude.{All}
use Rattle.literals.specs.declared.literal_set.LiteralSet.{LiteralSet}
use Rattle.literals.specs.Sets.{Lit, In, ◌⊑◌}
use Rattle.tables.specs.declared.records.Rule.{Rule}
use Rattle.answer_sets.specs.Rules.{rules_of, Active, Gives}
use Rattle.answer_sets.specs.declared.closing.Reduct.{Reduct}

-- x has what the rule gives, if no literal of `against` bars it and all its wanted literals are in x; choices take from `chosen`.
-- At against = chosen = s this is closedness for s
abbrev pub ClosedBy : LiteralSet → LiteralSet → LiteralSet → Rule → Type 0
ClosedBy against chosen x rule = Active against rule → rule.body.wanted ⊑ x → (k : Lit) → Gives rule.head chosen k → In x k

-- x has what each rule of the reduct gives
abbrev pub ClosedByAll : Reduct → LiteralSet → Type 0
ClosedByAll r x = All (ClosedBy r.against r.chosen x) (rules_of r.rows.now)
