use Rattle.std.proofs.Common.{◌∷◌, ap, ◌∙◌}
use Rattle.frames.specs.Frames.{sealed, line_with, written_in}
use Rattle.frames.proofs.WordLaws.{be_pair}
use Rattle.frames.proofs.WriteLaws.{condition_words}
use Rattle.frames.proofs.writer.write_frame.Goals as goal

pub returns-in-Wish-clause-buffer : goal.returns-in-Wish-clause-buffer
returns-in-Wish-clause-buffer c =
    rw c.in-Wish.is
    (c.write_fields.ensures.buffer ∙ ap (λ bs. written_in (line_with (sealed (17 ∷ bs))) c.args.out.now) (condition_words c.in-Wish.body _ c.condition_words.ensures))

pub returns-in-Alternative-clause-buffer : goal.returns-in-Alternative-clause-buffer
returns-in-Alternative-clause-buffer c =
    rw c.in-Alternative.is
    (c.write_fields-in-Alternative.ensures.buffer ∙ ap (λ bs. written_in (line_with (sealed (18 ∷ c.in-Alternative.level ∷ bs))) c.args.out.now) (condition_words c.in-Alternative.condition _ c.condition_words-in-Alternative.ensures))

pub returns-in-End-clause-buffer : goal.returns-in-End-clause-buffer
returns-in-End-clause-buffer c =
    rw c.in-End.is
    (rw (be_pair c.in-End.count c.to_be_bytes.result c.to_be_bytes.ensures) at c.write_line-in-End.ensures.buffer)

pub returns-in-Fit-clause-buffer : goal.returns-in-Fit-clause-buffer
returns-in-Fit-clause-buffer c = rw c.in-Fit.is c.write_fields-in-Fit.ensures.buffer
