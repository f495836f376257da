use Rattle.propagation.proofs.Steps.{tighter_refl}
use Rattle.propagation.proofs.turn.Turn.step.Goals as goal

pub returns-then-fails : goal.returns-then-fails
returns-then-fails c = record {
  bounds = tighter_refl _ c.args.self.bounds;
  more = λ k h. h;
  supports = λ s w holds k g. absurd (c.fails.ensures c.if-fails.true s holds w);
}
