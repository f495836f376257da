use Rattle.std.proofs.Common.{[], ◌∷◌, ◌++◌, arith}
use Rattle.texts.proofs.FillLaws.{fill_placed, fill_shorter, fill_room, fill_again, fill_done}
use Rattle.texts.proofs.LineLaws.{within_limit}
use Rattle.texts.proofs.rows.fill.Goals as goal

pub put-count-requires : goal.put-count-requires
put-count-requires g c =
    let (fs, going) = c.loop-frame.invariant in
    let (whole, all, room) = c.requires in
    let (short, ok) = within_limit c.args.kind c.args.text.now whole all in
    fill_room going ok (c.in-Ok.ensures fs going.known) c.of_frame.ensures room c.loop-frame.auto.table

pub loop-frame-smaller : goal.loop-frame-smaller
loop-frame-smaller g c =
    let (fs, going) = c.loop-frame.invariant in
    let (whole, all, room) = c.requires in
    let (short, ok) = within_limit c.args.kind c.args.text.now whole all in fill_shorter going ok (c.in-Ok.ensures fs going.known)

pub loop-frame-preserved : goal.loop-frame-preserved
loop-frame-preserved g c =
    let (fs, going) = c.loop-frame.invariant in
    let (whole, all, room) = c.requires in
    let (short, ok) = within_limit c.args.kind c.args.text.now whole all in
    let step = c.in-Ok.ensures fs going.known in
    let fits = fill_room going ok step c.of_frame.ensures room c.loop-frame.auto.table in
    (fs ++ c.in-Ok.frame ∷ [], fill_again going ok step {table' = c.put-count.new.table} c.of_frame.ensures c.put-count.ensures.number (omega (arith, c.put-count.ensures.number)) (c.after-seen.ensures c.args.kind fs going.known (fill_placed going ok step)) c.put-count.ensures.table)

pub returns : goal.returns
returns g c = λ whole all.
    let (fs, going) = c.loop-frame.invariant in
    let (short, ok) = within_limit c.args.kind c.args.text.now whole all in fill_done going ok (c.in_default.ensures fs going.known)
