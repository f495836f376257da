use Rattle.std.proofs.Common.{arith}
use Rattle.frames.proofs.FrameLaws.{condition_none, condition_some}
use Rattle.frames.proofs.reader.condition.Goals as goal

pub returns-in_default : goal.returns-in_default
returns-in_default c =
    let a = c.in_ok-wanted.ensures in
    let b = c.in_ok-absent.ensures in
    condition_none c.args.fields.now c.in_ok-wanted.rest.now c.in_ok-absent.field-0.1.now a.2 b.0 b.2 (λ z. omega arith)

pub returns : goal.returns
returns c =
    let a = c.in_ok-wanted.ensures in
    let b = c.in_ok-absent.ensures in
    condition_some c.args.fields.now c.in_ok-wanted.rest.now c.in_ok-absent.field-0.1.now a.2 b.0 b.2
    c.in_ok-wanted.wanted c.in_ok-absent.field-0.0 (omega arith) a.1 b.1
