use Rattle.std.proofs.Common.{◌≤◌, ◌++◌, length, drop, sym, ap, ◌∙◌, arith}
use Rattle.texts.specs.Writing.{text_of, ending}
use Rattle.texts.proofs.WriteLaws.{text_written}
use Rattle.texts.proofs.writing.write_text.Goals as goal

pub returns-clause-buffer : goal.returns-clause-buffer
returns-clause-buffer g c =
    let fs = g.F.FrameSource.left c.args.frames in
    let size = c.in-Some.ensures in
    let room : length (text_of (ending fs)) ≤ length c.args.out.now = omega (arith, c.if-out-size.false) in
    text_written fs c.args.out.now c.write_lines-at.new.out c.write_lines-at.result c.write_lines-at.ensures.number c.write_lines-at.ensures.buffer c.write_frame.new.out c.in-Some.size.frames size.frames room c.write_frame.ensures.buffer
    ∙ ap (λ k. text_of (ending fs) ++ drop k c.args.out.now) (sym size.bytes)
