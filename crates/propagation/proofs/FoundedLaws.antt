-- What the rules that are not surely barred can give from nothing includes every answer set between the bounds.
use Rattle.std.proofs.Common.{List}
use Rattle.std.specs.List.{All}
use Rattle.literals.specs.declared.literal_set.LiteralSet.{LiteralSet}
use Rattle.literals.specs.Sets.{Lit, ◌⊑◌, Shared}
use Rattle.picks.specs.declared.bounds.Bounds.{Bounds}
use Rattle.picks.specs.Between.{Between}
use Rattle.tables.specs.declared.records.Head.{Head}
use Rattle.tables.specs.declared.records.Head.TheVariants.{Plain, Constraint, Choice}
use Rattle.tables.specs.declared.records.Rule.{Rule}
use Rattle.answer_sets.specs.AnswerSets.{ClosedUnder, AnswerSet}
use Rattle.answer_sets.specs.Closing.{ClosedBy}
use Rattle.answer_sets.specs.Rules.{Gives}
use Rattle.propagation.specs.Narrowing.{Tighter, Lawful}

closed_includes : (rules : List Rule) (b : Bounds) (x : LiteralSet) → All (ClosedBy b.lower b.upper x) rules
    → (s : LiteralSet) → AnswerSet rules s → Between b s → s ⊑ x
closed_includes rules b x closed s a w = a.founded.least x (λ k d inside. weaker _ (closed k d inside)) where
  gives_more : (h : Head) (k : Lit) → Gives h s k → Gives h b.upper k
  gives_more (Plain literal) k g = g
  gives_more Constraint k g = g
  gives_more (Choice choice) k g = (g.0, w.high k g.1)

  weaker : (rule : Rule) → ClosedBy b.lower b.upper x rule → ClosedUnder s x rule
  weaker rule c active wanted k g = c (λ l h p. active l h (w.low l p)) wanted k (gives_more rule.head k g)

-- so the upper bound may be brought down to it
pub by_founded : (rules : List Rule) (b : Bounds) (x u : LiteralSet) → All (ClosedBy b.lower b.upper x) rules → Shared b.upper x u
    → Tighter (AnswerSet rules) b (record { lower = b.lower; upper = u })
by_founded rules b x u closed both = record {
  low = λ l h. h;
  high = both.left;
  keeps = λ s a w. record { low = w.low; high = λ k h. both.all k (w.high k h) (closed_includes rules b x closed s a w k h) };
}

-- what loses no answer set loses no lawful fit
pub lawful_kept : (rules : List Rule) (b n : Bounds) → Tighter (AnswerSet rules) b n → Tighter (Lawful rules) b n
lawful_kept rules b n t = record { low = t.low; high = t.high; keeps = λ s lawful. t.keeps s lawful.answer }
