use Rattle.std.proofs.Common.{◌≡◌, ◌++◌, take}
use Rattle.std.specs.List.{flat_map}
use Rattle.frames.specs.Frames.{word_bytes}
use Rattle.frames.proofs.writer.fields.Given as goal

-- the numbers so far stand behind the head
abbrev pub invariant-loop-number : goal.invariant-loop-number
invariant-loop-number g l = l.body.items ≡ l.head ++ flat_map (word_bytes g.row.WIDTH) (take l.number-index l.numbers)
