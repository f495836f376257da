use Rattle.std.proofs.Common.{◌≡◌, ◌++◌, ◌+◌, ◌*◌, ◌≤◌, true, length}
use Rattle.std.specs.List.{list_all}
use Rattle.frames.specs.Digits.{is_digit, bytes_of}
use Rattle.frames.proofs.hex.Digits.bytes.Given as goal

-- the bytes so far, and those of the digits that are left
abbrev pub invariant-loop-rest : goal.invariant-loop-rest
invariant-loop-rest g l = record {
  split : bytes_of l.self.line.now ≡ l.bytes.items ++ bytes_of l.rest;
  digits : list_all is_digit l.rest ≡ true;
  room : 2 * length l.bytes.items + length l.rest ≤ 2 * g.row.ROOM + 1;
}

abbrev pub decreases-loop-rest : goal.decreases-loop-rest
decreases-loop-rest g l = length l.rest
