use Rattle.texts.specs.Rows.{book_rows}
use Rattle.texts.proofs.SourceLaws.{all_left}
use Rattle.texts.proofs.frame_source.BookFrames.of.Goals as goal

pub returns : goal.returns
returns c = all_left (book_rows c.args.book)
