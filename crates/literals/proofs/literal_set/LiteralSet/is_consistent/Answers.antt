use Rattle.std.proofs.lemmas.Bool.Decides.{Decides-like, Decides-eqb}
use Rattle.literals.proofs.Bitsets.{and_apart, apart_and}
use Rattle.literals.proofs.literal_set.LiteralSet.is_consistent.Goals as goal

pub returns : goal.returns
returns c =
    let s = c.args.self in
    Decides-like _ (and_apart s.plus s.minus) (apart_and s.plus s.minus) (Decides-eqb _ _)
