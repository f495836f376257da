use Rattle.std.proofs.lemmas.Bool.Decides.{same_from_decides, Decides-like, Decides-eqb}
use Rattle.literals.proofs.Bitsets.{and_apart, apart_and}
use Rattle.tables.specs.Rows.{makes_fit}
use Rattle.tables.proofs.row.LiteralSetRow.makes_record.Goals as goal

pub returns : goal.returns
returns c =
    let s = c.args.self.now in
    same_from_decides c.is_consistent.result (makes_fit s) c.is_consistent.ensures (Decides-like (makes_fit s) (and_apart s.plus s.minus) (apart_and s.plus s.minus) (Decides-eqb _ _))
