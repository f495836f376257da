use Rattle.std.proofs.Common.{◌-◌, ◌≤◌, length, refl, ◌∙◌, arith, length-drop, rules}
use Rattle.std.proofs.lemmas.List.{take_rest}
use Rattle.frames.proofs.FrameLaws.{checked_more}
use Rattle.frames.proofs.HexLaws.{digits_front, faultless}
use Rattle.frames.proofs.hex.Digits.check_holds.Goals as goal

pub loop-rest-init : goal.loop-rest-init
loop-rest-init c = record { small = omega arith; decides = refl; digits = (faultless c.args.self.now.line.now c.args.self.now.good).0 }

pub loop-rest-preserved : goal.loop-rest-preserved
loop-rest-preserved c =
    let rest = c.loop-rest.rest.now in
    let two : 2 ≤ length rest = search rules in
    let more : 2 ≤ length rest - 2 = rw (take_rest rest 2, length-drop 2 rest) at c.if-more-lt2.false in
    rw (take_rest rest 2, c.byte_of-byte.ensures)
    (record {
      small = omega arith;
      decides = c.loop-rest.invariant.decides ∙ checked_more rest c.loop-rest.sum two more;
      digits = digits_front rest two c.loop-rest.invariant.digits;
    })
