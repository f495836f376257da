use Rattle.std.proofs.Common.{length, take, drop, sym, ap, ◌∙◌}
use Rattle.std.specs.Option.{is_some}
use Rattle.std.proofs.lemmas.List.{take_at}
use Rattle.answer.specs.Answers.{answered_in}
use Rattle.answer.proofs.AnswerLaws.{room_for, wrote_front, written_front}
use Rattle.answer.proofs.answer.Goals as goal

pub unwrap-count-requires : goal.unwrap-count-requires
unwrap-count-requires c =
    ap is_some (c.answer_into.ensures.result ∙ wrote_front _ _ (room_for _ c.args.input.now c.as_mut_slice-4.result.now (c.as_mut_slice-4.ensures.len ∙ c.in_ok-out.ensures.len)))

pub returns : goal.returns
returns c =
    let rules = c.as_mut_slice.ensures.len ∙ c.in_ok-rules.ensures.len in
    let wishes = c.as_mut_slice-2.ensures.len ∙ c.in_ok-wishes.ensures.len in
    let alternatives = c.as_mut_slice-3.ensures.len ∙ c.in_ok-alternatives.ensures.len in
    let room = room_for _ c.args.input.now c.as_mut_slice-4.result.now (c.as_mut_slice-4.ensures.len ∙ c.in_ok-out.ensures.len) in
    let whole = take_at c.answer_into.new.out (drop (length c.answer_into.new.out) c.in_ok-out.out.items) c.in_ok-out.out.len (c.answer_into.auto.out ∙ c.as_mut_slice-4.ensures.len) in
    c.shrink_to_fit.ensures.items ∙ c.truncate.ensures.items ∙ ap (take c.unwrap-count.result) whole ∙ written_front _ _ room (sym c.unwrap-count.ensures ∙ c.answer_into.ensures.result) c.answer_into.ensures.buffer
    ∙ ap (λ s. answered_in s c.args.input.now) (λ i. record { rules = rules i; wishes = wishes i; alternatives = alternatives i })
