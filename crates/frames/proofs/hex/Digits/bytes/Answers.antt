use Rattle.std.proofs.Common.{rules}
use Rattle.frames.proofs.HexLaws.{faultless}
use Rattle.frames.proofs.hex.Digits.bytes.Goals as goal

pub loop-rest-init : goal.loop-rest-init
loop-rest-init g c = record { split = search rules; room = search rules; digits = (faultless c.args.self.now.line.now c.args.self.now.good).0 }
