use Rattle.std.proofs.Common.{◌≡◌, ◌+◌, ◌≤◌, length}
use Rattle.texts.specs.Writing.{text_of}
use Rattle.texts.proofs.writing.measure.Given as goal

-- what was counted, and what is still to come
abbrev pub invariant-loop-frame : goal.invariant-loop-frame
invariant-loop-frame g l =
    (l.bytes + length (text_of (g.F.FrameSource.left l.source)) ≡ 9 + length (text_of (g.F.FrameSource.left l.initial.source)))
    × (l.count + length (g.F.FrameSource.left l.source) ≡ length (g.F.FrameSource.left l.initial.source)) × (l.bytes ≤ 1048576) × (l.count ≤ 65535)

abbrev pub decreases-loop-frame : goal.decreases-loop-frame
decreases-loop-frame g l = length (g.F.FrameSource.left l.source)
