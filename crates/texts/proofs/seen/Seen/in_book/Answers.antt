use Rattle.std.proofs.Common.{eqb, sym, ap, ◌∙◌}
use Rattle.texts.specs.Places.{is_rule, in_book}
use Rattle.texts.proofs.SummaryLaws.{every_count}
use Rattle.texts.proofs.seen.Seen.in_book.Goals as goal

pub returns-in-Rule : goal.returns-in-Rule
returns-in-Rule c = λ fs saw. ap (λ s. eqb s.rules s.frames) saw.summary ∙ sym (every_count is_rule fs) ∙ sym (ap (in_book fs) c.in-Rule.is)
