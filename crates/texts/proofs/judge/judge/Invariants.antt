use Rattle.std.proofs.Common.{◌≡◌, ◌+◌, ◌≤◌, List, [], length}
use Rattle.frames.specs.declared.frame.Frame.{Frame}
use Rattle.texts.specs.Lines.{lines}
use Rattle.texts.specs.Reading.{read_from}
use Rattle.texts.specs.Summary.{Saw}
use Rattle.texts.proofs.judge.judge.Given as goal

-- the rest of the text decides, behind the frames that were seen
abbrev pub invariant-loop-rest : goal.invariant-loop-rest
invariant-loop-rest l =
    (fs : List Frame) × Saw l.seen fs × (length fs + length l.rest ≤ length l.text) × (read_from l.kind [] (lines l.text) ≡ read_from l.kind fs (lines l.rest))

abbrev pub decreases-loop-rest : goal.decreases-loop-rest
decreases-loop-rest l = length l.rest
