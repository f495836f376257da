use Rattle.picks.proofs.Sides.{sound_fewer}
use Rattle.picks.proofs.picks.Picks.without.Goals as goal

pub invariant_of-result : goal.invariant_of-result
invariant_of-result c =
    let p = c.args.self in
    record { sound = sound_fewer p.required _ p.excluded _ p.sound c.without.ensures.left c.without-2.ensures.left }
