use Rattle.frames.proofs.WordLaws.{be_four}
use Rattle.frames.proofs.answer_frames.write_refusal.Goals as goal

pub returns-clause-buffer : goal.returns-clause-buffer
returns-clause-buffer g c = rw (be_four c.line.result c.to_be_bytes.result c.to_be_bytes.ensures, c.number.ensures, c.line.ensures) at c.write_line.ensures.buffer
