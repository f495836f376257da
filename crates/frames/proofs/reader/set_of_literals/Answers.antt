use Rattle.frames.proofs.FrameLaws.{two_words}
use Rattle.frames.proofs.reader.set_of_literals.Goals as goal

pub returns : goal.returns
returns c =
    let a = c.in_ok-plus.ensures in
    let b = c.in_ok-minus.ensures in
    two_words c.args.bytes.now c.in_ok-plus.rest.now c.in_ok-minus.rest.now c.in_ok-plus.plus c.in_ok-minus.minus a.1 a.2 b.0 b.1 b.2
