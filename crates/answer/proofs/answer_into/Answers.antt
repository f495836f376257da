use Rattle.std.proofs.Common.{length, sym, ap, ◌∙◌}
use Rattle.std.specs.Result.{result_ok}
use Rattle.std.proofs.lemmas.Bool.{lt-ltb, cond-true}
use Rattle.frames.specs.AnswerLines.{refusal_line}
use Rattle.frames.specs.Frames.{wrote_in, written_in}
use Rattle.texts.specs.Reading.{number_of}
use Rattle.texts.specs.Writing.{book_text, writable_book, write_book, written}
use Rattle.texts.specs.Rows.{fronts, table_rows}
use Rattle.answer.specs.Answers.{longest}
use Rattle.answer.proofs.AnswerLaws.{wrote_text, written_text, ok_of, refused_line, front_writable, front_text}
use Rattle.answer.proofs.answer_into.Goals as goal

pub returns-then-input-gt-LONGEST-clause-buffer : goal.returns-then-input-gt-LONGEST-clause-buffer
returns-then-input-gt-LONGEST-clause-buffer c =
    let out = c.args.out.now in
    c.write_refusal.ensures.buffer ∙ ap (λ x. written_in (refusal_line (number_of x.fault) x.line) out) c.from.ensures
    ∙ sym (ap (λ l. written_in l out) (cond-true _ _ _ (lt-ltb longest (length c.args.input.now) c.if-input-gt-LONGEST.true)))

pub returns-in-Ok-clause-result : goal.returns-in-Ok-clause-result
returns-in-Ok-clause-result c =
    let out = c.args.out.now in
    let read = c.in-Ok.ensures.read in
    let book = fronts c.in-Ok.size (table_rows c.read.new.self) in
    c.ok-in-Ok.ensures.value ∙ ap result_ok (c.write.ensures.result ∙ ap (λ t. write_book t (length out)) c.front.ensures) ∙ wrote_text (book_text book) out (writable_book book) (front_writable c.args.input.now read)
    ∙ ap (λ l. wrote_in l out) (front_text c.args.input.now read c.if-input-gt-LONGEST.false)

pub returns-in-Ok-clause-buffer : goal.returns-in-Ok-clause-buffer
returns-in-Ok-clause-buffer c =
    let out = c.args.out.now in
    let read = c.in-Ok.ensures.read in
    let book = fronts c.in-Ok.size (table_rows c.read.new.self) in
    c.write.ensures.buffer ∙ ap (λ t. written c.write.result (book_text t) out) c.front.ensures ∙ ap (λ r. written r (book_text book) out) (c.write.ensures.result ∙ ap (λ t. write_book t (length out)) c.front.ensures)
    ∙ written_text (book_text book) out (writable_book book) (front_writable c.args.input.now read) ∙ ap (λ l. written_in l out) (front_text c.args.input.now read c.if-input-gt-LONGEST.false)

pub returns-in-Err-clause-result : goal.returns-in-Err-clause-result
returns-in-Err-clause-result c =
    c.ok-in-Err.ensures.value ∙ ap result_ok c.write_refusal-in-Err.ensures.result ∙ ok_of _ _ ∙ sym (ap (λ l. wrote_in l c.args.out.now) (refused_line c.args.input.now c.in-Err.ensures.read c.if-input-gt-LONGEST.false))

pub returns-in-Err-clause-buffer : goal.returns-in-Err-clause-buffer
returns-in-Err-clause-buffer c = c.write_refusal-in-Err.ensures.buffer ∙ sym (ap (λ l. written_in l c.args.out.now) (refused_line c.args.input.now c.in-Err.ensures.read c.if-input-gt-LONGEST.false))
