use Rattle.std.proofs.Common.{arith}
use Rattle.std.proofs.lemmas.Bool.Decides.{not_from_Decides}
use Rattle.literals.proofs.SetLaws.{size_more, size_le}
use Rattle.answer_sets.specs.Rules.{rules_of}
use Rattle.propagation.proofs.FoundedLaws.{by_founded, lawful_kept}
use Rattle.propagation.proofs.founded.founded.Goals as goal

pub loop-reduct-smaller : goal.loop-reduct-smaller
loop-reduct-smaller c =
    omega (
      arith,
      size_more c.loop-reduct.reached c.grow-next.result c.grow-next.ensures.grown
          (not_from_Decides _ c.is_subset-in-loop-reduct.ensures c.if-is_subset-2.false),
      size_le c.grow-next.result (omega arith) (omega arith),
    )

pub returns-then-is_subset-2 : goal.returns-then-is_subset-2
returns-then-is_subset-2 c =
    let answers =
    by_founded (rules_of c.args.rows.now) c.args.bounds c.loop-reduct.reached c.intersection.result
    (c.grow-next.ensures.closed (c.is_subset-in-loop-reduct.ensures.0 c.if-is_subset-2.true)) c.intersection.ensures in
    record { answers = answers; lawful = lawful_kept _ _ _ answers }
