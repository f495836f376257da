use Rattle.std.proofs.Common.{◌≡◌, ◌*◌, length, take}
use Rattle.frames.specs.Digits.{hex_of}
use Rattle.frames.proofs.writer.line.Given as goal

-- the digits of the bytes so far
abbrev pub invariant-loop-byte : goal.invariant-loop-byte
invariant-loop-byte l = record { digits : l.line.items ≡ hex_of (take l.byte-index l.body); long : length l.line.items ≡ 2 * l.byte-index }
