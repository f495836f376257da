use Rattle.std.proofs.Common.{◌+◌, ◌++◌, sym, ap, ◌∙◌}
use Rattle.frames.specs.Frames.{line_for}
use Rattle.frames.proofs.DigitLaws.{some_same}
use Rattle.texts.proofs.WriteLaws.{write_result, write_again}
use Rattle.texts.proofs.writing.write_lines.Goals as goal

pub loop-frame-preserved : goal.loop-frame-preserved
loop-frame-preserved g c =
    let (done, w) = c.loop-frame.invariant in
    let next = c.in-Some.ensures in
    let long = some_same (sym c.unwrap-at.ensures ∙ write_result w c.requires next c.write_frame.ensures.result) in
    (done ++ line_for c.in-Some.frame, write_again w c.requires next c.write_frame.ensures.buffer (ap (λ n. c.loop-frame.at + n) long))
