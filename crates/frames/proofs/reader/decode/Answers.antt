use Rattle.std.proofs.Common.{sym, ap, ◌∙◌}
use Rattle.std.specs.Option.{ok_or}
use Rattle.std.proofs.lemmas.Result.{err_from_is_err_and}
use Rattle.frames.specs.declared.frame.FrameFault.TheVariants.{Kind}
use Rattle.frames.specs.Digits.{bytes_of}
use Rattle.frames.proofs.HexLaws.{faultless}
use Rattle.frames.proofs.DigitLaws.{bytes_small, err_same}
use Rattle.frames.proofs.FrameLaws.{framed_long}
use Rattle.frames.proofs.reader.decode.Goals as goal

pub returns-in_err-bytes : goal.returns-in_err-bytes
returns-in_err-bytes c =
    let line = c.args.digits.now.line.now in
    let at = c.in_err-bytes.ensures in
    let long = rw at.ok_part at c.bytes.ensures in
    let kind = err_same (at.value ∙ ap (λ o. ok_or o Kind) at.ok_part) in
    let p = err_from_is_err_and c.from_residual.result c.from_residual.ensures.1 in
    rw (p.1, p.2, kind) (sym (framed_long (bytes_of line) long (bytes_small line (faultless line c.args.digits.now.good).0) (sym c.check_holds.ensures ∙ c.if-not-check_holds.false)))
