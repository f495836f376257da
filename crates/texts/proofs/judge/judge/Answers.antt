use Rattle.std.proofs.Common.{◌+◌, ◌<◌, [], ◌∷◌, ◌++◌, length, Err, sym, ap, ◌∙◌, arith}
use Rattle.std.proofs.lemmas.List.{length-append}
use Rattle.texts.specs.Reading.{refused}
use Rattle.texts.proofs.PlaceLaws.{placed}
use Rattle.texts.proofs.LineLaws.{step_read, step_on, step_refused, read_shorter, nonempty}
use Rattle.texts.proofs.judge.judge.Goals as goal

pub loop-rest-smaller : goal.loop-rest-smaller
loop-rest-smaller c =
    let (fs, seen, long, rest) = c.loop-rest.invariant in
    let frame = c.in-Ok.frame in
    let text = c.loop-rest.rest.now in
    read_shorter text frame c.in-Ok.behind.now (step_read c.args.kind fs text frame c.in-Ok.behind.now (c.in-Ok.ensures fs seen)).0

pub loop-rest-preserved : goal.loop-rest-preserved
loop-rest-preserved c =
    let (fs, seen, long, rest) = c.loop-rest.invariant in
    let frame = c.in-Ok.frame in
    let text = c.loop-rest.rest.now in
    let step = c.in-Ok.ensures fs seen in
    let parts = step_read c.args.kind fs text frame c.in-Ok.behind.now step in
    let shorter = read_shorter text frame c.in-Ok.behind.now parts.0 in
    let one = length-append fs (frame ∷ []) in
    (fs ++ frame ∷ [], c.after-seen.ensures c.args.kind fs seen (placed c.args.kind fs frame parts.1).0, omega (arith, long), rest ∙ step_on c.args.kind fs text frame c.in-Ok.behind.now step)

pub returns-in-Err : goal.returns-in-Err
returns-in-Err c =
    let (fs, seen, long, rest) = c.loop-rest.invariant in
    let some : 0 < length c.loop-rest.rest.now = nonempty (length c.loop-rest.rest.now) c.is_empty.result c.is_empty.ensures c.loop-rest-test.true in
    rest ∙ step_refused c.args.kind fs c.loop-rest.rest.now c.in-Err.fault some (c.in-Err.ensures fs seen) ∙ ap (λ k. refused c.in-Err.fault (k + 1)) (sym (ap (λ s. s.frames) seen.summary)) ∙ ap Err (sym c.refusal.ensures)
