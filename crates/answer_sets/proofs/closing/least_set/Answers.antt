use Rattle.std.proofs.Common.{arith}
use Rattle.std.proofs.lemmas.Bool.Decides.{not_from_Decides}
use Rattle.literals.proofs.SetLaws.{size_more, size_le}
use Rattle.answer_sets.proofs.closing.least_set.Goals as goal

pub loop-reduct-smaller : goal.loop-reduct-smaller
loop-reduct-smaller c =
    omega (
      arith,
      size_more c.loop-reduct.reached c.grow-next.result c.grow-next.ensures.grown
          (not_from_Decides _ c.is_subset.ensures c.if-is_subset.false),
      size_le c.grow-next.result (omega arith) (omega arith),
    )
