-- What no rule gives is in no answer set, and the strong negation of what is in is out.
use Rattle.std.proofs.Common.{List, [], ◌∷◌, ◌++◌}
use Rattle.std.specs.List.{All}
use Rattle.std.proofs.lemmas.List.Elements.{All-weaker, All-push}
use Rattle.literals.specs.declared.literal_set.LiteralSet.{LiteralSet}
use Rattle.literals.specs.Sets.{Lit, atom, negated, In, ◌⊑◌, opposite_of, Shared}
use Rattle.literals.proofs.SetLaws.{shared_is}
use Rattle.picks.specs.declared.bounds.Bounds.{Bounds}
use Rattle.picks.specs.Between.{Between}
use Rattle.tables.specs.declared.records.Rule.{Rule}
use Rattle.answer_sets.specs.AnswerSets.{ClosedUnder, AnswerSet}
use Rattle.answer_sets.specs.Rules.{Satisfies}
use Rattle.propagation.specs.declared.turn.Turn.{Turn}
use Rattle.propagation.specs.Narrowing.{Tighter, Lawful}
use Rattle.propagation.specs.Support.{Supports, Turned, Supported}
use Rattle.propagation.proofs.Steps.{tighter_trans, widened}

-- one rule more
module _ (t u : Turn) (rule : Rule) (turned : Turned rule t u) where
  pub turned_bounds : (rules : List Rule) (b : Bounds) → ((s : LiteralSet) → Lawful rules s → Satisfies s rule)
      → Tighter (Lawful rules) b t.bounds → Tighter (Lawful rules) b u.bounds
  turned_bounds rules b here tighter = tighter_trans (Lawful rules) b t.bounds u.bounds tighter (record {
    low = turned.bounds.low;
    high = turned.bounds.high;
    keeps = λ s lawful. turned.bounds.keeps s (here s lawful);
  })

  pub turned_supports : (s : LiteralSet) (rules : List Rule) → Between u.bounds s
      → (Between t.bounds s → All (Supports t.support s) rules) → All (Supports u.support s) (rules ++ rule ∷ [])
  turned_supports s rules w before =
      let v = widened t.bounds u.bounds turned.bounds.low turned.bounds.high s w in
      All-push (Supports u.support s) rules rule
      (All-weaker (Supports t.support s) (Supports u.support s) (λ r h holds k g. turned.more k (h holds k g)) rules (before v)) (turned.supports s v)

-- an answer set is inside whatever supports it: what it shares with the support is closed
closed_shared : (support s both : LiteralSet) → Shared s support both → (rule : Rule)
    → ClosedUnder s s rule → Supports support s rule → ClosedUnder s both rule
closed_shared support s both j rule closed supports active wanted l g =
    let there : rule.body.wanted ⊑ s = λ m q. j.left m (wanted m q) in
    j.all l (closed active there l g) (supports (there, active) l g)

support_includes : (rules : List Rule) (support s : LiteralSet) → AnswerSet rules s → All (Supports support s) rules → s ⊑ support
support_includes rules support s a all k p =
    let j = shared_is s support in
    j.right k (a.founded.least _ (λ n d inside. closed_shared support s _ j _ (a.founded.closed n d inside) (all n d inside)) k p)

-- so after the last rule
pub by_support : (rules : List Rule) (b : Bounds) (t : Turn) (n : Bounds) → Tighter (Lawful rules) b t.bounds
    → ((s : LiteralSet) → Between t.bounds s → All (Supports t.support s) rules) → Supported t n → Tighter (Lawful rules) b n
by_support rules b t n p supports e = tighter_trans (Lawful rules) b t.bounds n p (record {
  low = λ k h. rw e.low h;
  high = e.high;
  keeps = λ s l w. record {
    low = λ k h. w.low k (rw e.low at h);
    high = λ k h. e.all k (w.high k h) (support_includes rules t.support s l.answer (supports s w) k h)
        (λ q. apart k s l h (w.low (opposite_of k) q));
  };
}) where
  apart : (k : Lit) (s : LiteralSet) → Lawful rules s → In s k → In s (opposite_of k) → ⊥
  apart (atom a) s l h q = l.consistent a h q
  apart (negated a) s l h q = l.consistent a q h
