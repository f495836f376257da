use Rattle.std.proofs.Common.{List, length}
use Rattle.frames.specs.declared.frame.Frame.{Frame}
use Rattle.texts.proofs.FillLaws.{Going}
use Rattle.texts.proofs.rows.fill.Given as goal

-- the rows of the frames that were seen stand in the table
abbrev pub invariant-loop-frame : goal.invariant-loop-frame
invariant-loop-frame g l = (fs : List Frame) × Going g.R.FrameRow.given l.kind l.text l.rest l.table l.initial.table l.count l.seen fs

abbrev pub decreases-loop-frame : goal.decreases-loop-frame
decreases-loop-frame g l = length l.rest
