use Rattle.std.proofs.Common.{Some, sym, ap, ◌∙◌}
use Rattle.std.proofs.lemmas.List.{take_rest}
use Rattle.frames.proofs.FrameLaws.{feed_some, feed_none}
use Rattle.frames.proofs.reader.split_line.Goals as goal

pub returns-in-Some : goal.returns-in-Some
returns-in-Some c =
    let at = feed_some c.args.text.now c.in-Some.at (sym c.in-Some.ensures) in
    record { line = sym at.0; rest = ap (λ r. Some r) (take_rest c.args.text.now _) ∙ sym at.1 }

pub returns-in-None : goal.returns-in-None
returns-in-None c =
    let at = feed_none c.args.text.now (sym c.in-None.ensures) in
    record { line = sym at.0; rest = sym at.1 }
