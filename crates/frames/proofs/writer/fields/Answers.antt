use Rattle.std.proofs.Common.{◌++◌, get_or, ap, ◌∙◌, arith, length}
use Rattle.frames.proofs.WordLaws.{be_word, low_bytes, length_word_bytes}
use Rattle.frames.proofs.WriteLaws.{number_more, number_fits}
use Rattle.frames.proofs.writer.fields.Goals as goal

pub unwrap-requires-in-loop-number : goal.unwrap-requires-in-loop-number
unwrap-requires-in-loop-number g c =
    let number = get_or c.args.numbers.now c.loop-number.number-index 0 in
    let bytes = low_bytes g.row.WIDTH number c.to_be_bytes.result c.requires.width (be_word number c.to_be_bytes.result c.to_be_bytes.ensures) in
    let long = ap length bytes ∙ length_word_bytes g.row.WIDTH number in
    let before = ap length c.loop-number.invariant in
    let fits = number_fits g.row.WIDTH c.args.head.now c.args.numbers.now c.loop-number.number-index c.loop-number-test.true _ c.requires.room in
    c.try_extend_from_slice-in-loop-number.ensures.variant.1 (omega arith)

pub loop-number-preserved : goal.loop-number-preserved
loop-number-preserved g c =
    let number = get_or c.args.numbers.now c.loop-number.number-index 0 in
    let bytes = low_bytes g.row.WIDTH number c.to_be_bytes.result c.requires.width (be_word number c.to_be_bytes.result c.to_be_bytes.ensures) in
    let more = number_more g.row.WIDTH c.args.head.now c.args.numbers.now c.loop-number.number-index c.loop-number-test.true in
    let ok = rw c.unwrap-in-loop-number.ensures at c.try_extend_from_slice-in-loop-number.ensures.ok in
    ok ∙ (λ z. c.loop-number.invariant z ++ bytes z) ∙ more
