use Rattle.std.proofs.Common.{◌≡◌, ◌<◌, true, length}
use Rattle.std.specs.List.{list_all}
use Rattle.frames.specs.Digits.{is_digit, bytes_of}
use Rattle.frames.specs.Frames.{checked_from}
use Rattle.frames.proofs.hex.Digits.check_holds.Given as goal

-- the digits that are left decide, under the sum so far
abbrev pub invariant-loop-rest : goal.invariant-loop-rest
invariant-loop-rest l = record {
  small : l.sum < 251;
  decides : checked_from 0 (bytes_of l.self.line.now) ≡ checked_from l.sum (bytes_of l.rest);
  digits : list_all is_digit l.rest ≡ true;
}

abbrev pub decreases-loop-rest : goal.decreases-loop-rest
decreases-loop-rest l = length l.rest
