use Rattle.literals.proofs.Bitsets.{same_bits, highest_decides}
use Rattle.literals.proofs.SetLaws.{same_sets}
use Rattle.literals.proofs.Settling.{first_decides, first_difference}
use Rattle.literals.proofs.literal_set.LiteralSet.first_difference.Goals as goal

pub returns : goal.returns
returns c = record {
  found = first_difference c.args.self c.args.other _ _ c.symmetric_difference.ensures c.highest.ensures;
  words = same_bits;
  highest = highest_decides;
  sets = same_sets;
  first = first_decides;
}
