use Rattle.std.proofs.lemmas.Bool.Decides.{Decides-like, Decides-eqb}
use Rattle.literals.proofs.Bitsets.{and_sub, sub_and}
use Rattle.literals.proofs.SetLaws.{by_words, plus_words, minus_words}
use Rattle.literals.proofs.literal_set.LiteralSet.is_subset.Goals as goal

pub returns-then-self-other : goal.returns-then-self-other
returns-then-self-other c =
    let x = c.args.self in
    let y = c.args.other in
    Decides-like _
    (λ e. by_words x y (and_sub x.plus y.plus c.if-self-other.true) (and_sub x.minus y.minus e))
    (λ s. sub_and x.minus y.minus (minus_words x y s))
    (Decides-eqb _ _)

pub returns-else-self-other : goal.returns-else-self-other
returns-else-self-other c =
    let x = c.args.self in
    let y = c.args.other in
    Decides-like _ (λ e. absurd (c.if-self-other.false e)) (λ s. sub_and x.plus y.plus (plus_words x y s)) (Decides-eqb _ _)
