use Rattle.std.proofs.Common.{refl, arith}
use Rattle.frames.specs.declared.frame.Frame.TheVariants.{Rule, RankStep, Wish, Alternative, End, Fit}
use Rattle.texts.proofs.SummaryLaws.{saw_after}
use Rattle.texts.proofs.seen.Seen.after.Goals as goal

pub returns-in-Rule : goal.returns-in-Rule
returns-in-Rule c = λ kind fs saw place. saw_after c.args.self fs (Rule c.in-Rule.field-0) c.args.frame c.in-Rule.is _ refl refl (omega arith) (omega arith) (omega arith) (omega arith) refl kind saw place

pub returns-in-RankStep : goal.returns-in-RankStep
returns-in-RankStep c = λ kind fs saw place. saw_after c.args.self fs RankStep c.args.frame c.in-RankStep.is _ refl (omega arith) refl (omega arith) (omega arith) (omega arith) refl kind saw place

pub returns-in-Wish : goal.returns-in-Wish
returns-in-Wish c = λ kind fs saw place. saw_after c.args.self fs (Wish c.in-Wish.field-0) c.args.frame c.in-Wish.is _ refl (omega arith) (omega arith) refl (omega arith) (omega arith) refl kind saw place

pub returns-in-Alternative : goal.returns-in-Alternative
returns-in-Alternative c = λ kind fs saw place. saw_after c.args.self fs (Alternative c.in-Alternative.level c.in-Alternative.condition) c.args.frame c.in-Alternative.is _ refl (omega arith) (omega arith) (omega arith) refl (omega arith) refl kind saw place

pub returns-in-End : goal.returns-in-End
returns-in-End c = λ kind fs saw place. saw_after c.args.self fs (End c.in-End.field-0) c.args.frame c.in-End.is _ refl (omega arith) (omega arith) (omega arith) (omega arith) (omega arith) refl kind saw place

pub returns-in-Fit : goal.returns-in-Fit
returns-in-Fit c = λ kind fs saw place. saw_after c.args.self fs (Fit c.in-Fit.field-0) c.args.frame c.in-Fit.is _ refl (omega arith) (omega arith) (omega arith) (omega arith) refl refl kind saw place
