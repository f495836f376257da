use Rattle.std.proofs.Common.{ℕ, List, length}
use Rattle.texts.specs.Writing.{text_of}
use Rattle.texts.proofs.WriteLaws.{Written}
use Rattle.texts.proofs.writing.write_lines.Given as goal

-- the lines so far stand at the front, and the rest is as it was
abbrev pub invariant-loop-frame : goal.invariant-loop-frame
invariant-loop-frame g l = (done : List ℕ) × Written (text_of (g.F.FrameSource.left l.initial.source)) l.initial.out l.out l.at (g.F.FrameSource.left l.source) done

abbrev pub decreases-loop-frame : goal.decreases-loop-frame
decreases-loop-frame g l = length (g.F.FrameSource.left l.source)
