use Rattle.std.proofs.Common.{◌∷◌, ap, ◌∙◌}
use Rattle.frames.specs.Frames.{sealed, line_with, written_in}
use Rattle.frames.proofs.WriteLaws.{condition_words}
use Rattle.frames.proofs.writer.write_rule.Goals as goal

pub returns-in-Plain-clause-buffer : goal.returns-in-Plain-clause-buffer
returns-in-Plain-clause-buffer c =
    rw c.in-Plain.is
    (c.write_fields.ensures.buffer ∙ ap (λ bs. written_in (line_with (sealed (1 ∷ c.in-Plain.code ∷ bs))) c.args.out.now) (condition_words c.in-Plain.body _ c.condition_words.ensures))

pub returns-in-Constraint-clause-buffer : goal.returns-in-Constraint-clause-buffer
returns-in-Constraint-clause-buffer c =
    rw c.in-Constraint.is
    (c.write_fields-in-Constraint.ensures.buffer ∙ ap (λ bs. written_in (line_with (sealed (2 ∷ bs))) c.args.out.now) (condition_words c.in-Constraint.body _ c.condition_words-in-Constraint.ensures))

pub returns-in-Choice-clause-buffer : goal.returns-in-Choice-clause-buffer
returns-in-Choice-clause-buffer c =
    rw c.in-Choice.is
    (rw c.condition_words-in-Choice.ensures at c.write_fields-in-Choice.ensures.buffer)
