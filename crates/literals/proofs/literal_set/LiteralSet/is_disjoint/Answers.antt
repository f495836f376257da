use Rattle.std.proofs.lemmas.Bool.Decides.{Decides-like, Decides-eqb}
use Rattle.literals.specs.Sets.{atom, negated}
use Rattle.literals.proofs.Bitsets.{and_apart, apart_and}
use Rattle.literals.proofs.SetLaws.{apart_by_words}
use Rattle.literals.proofs.literal_set.LiteralSet.is_disjoint.Goals as goal

pub returns-then-self-other-eq0 : goal.returns-then-self-other-eq0
returns-then-self-other-eq0 c =
    let x = c.args.self in
    let y = c.args.other in
    Decides-like _
    (λ e. apart_by_words x y (and_apart x.plus y.plus c.if-self-other-eq0.true) (and_apart x.minus y.minus e))
    (λ d. apart_and x.minus y.minus (λ a. d (negated a)))
    (Decides-eqb _ _)

pub returns-else-self-other-eq0 : goal.returns-else-self-other-eq0
returns-else-self-other-eq0 c =
    let x = c.args.self in
    let y = c.args.other in
    Decides-like _ (λ e. absurd (c.if-self-other-eq0.false e)) (λ d. apart_and x.plus y.plus (λ a. d (atom a))) (Decides-eqb _ _)
