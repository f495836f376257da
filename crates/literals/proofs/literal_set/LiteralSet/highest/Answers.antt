use Rattle.std.proofs.Common.{◌+◌, ◌*◌, arith}
use Rattle.literals.proofs.Codes.{named_even, named_odd}
use Rattle.literals.proofs.Settling.{highest_atom, highest_negated, highest_made}
use Rattle.literals.proofs.literal_set.LiteralSet.highest.Goals as goal

pub returns-in-Some : goal.returns-in-Some
returns-in-Some c =
    highest_made c.args.self (2 * c.in-Some.atom) _ c.new.result c.new.ensures (omega (arith, c.in-Some.ensures.below)) (named_even c.in-Some.atom)
    (highest_atom c.args.self c.in-Some.atom c.in-Some.ensures.highest)

pub returns-in_ok-highest_bit-in-None : goal.returns-in_ok-highest_bit-in-None
returns-in_ok-highest_bit-in-None c =
    let atom = c.in_ok-highest_bit-in-None.field-0 in
    highest_made c.args.self (2 * atom + 1) _ c.new-in-None.result c.new-in-None.ensures (omega (arith, c.in_ok-highest_bit-in-None.ensures.below)) (named_odd atom)
    (highest_negated c.args.self atom c.in-None.ensures.highest c.in_ok-highest_bit-in-None.ensures.highest)
