use Rattle.std.proofs.Common.{⊎_elim, sym, subst, arith}
use Rattle.std.proofs.lemmas.Bool.Decides.{nat_tests}
use Rattle.literals.proofs.SetLaws.{present, size_le}
use Rattle.answer_sets.specs.Rules.{rules_of}
use Rattle.propagation.specs.Narrowing.{Narrowed, Lawful}
use Rattle.propagation.proofs.Steps.{tighter_trans, bounds_less}
use Rattle.propagation.proofs.narrowing.narrow.Goals as goal

pub returns-in_err-next-clause-narrowed : goal.returns-in_err-next-clause-narrowed
returns-in_err-next-clause-narrowed c =
    subst (Narrowed (Lawful (rules_of c.args.rows.now)) c.args.bounds) (sym c.from_residual.ensures)
    (λ s lawful w. c.in_err-next.ensures s lawful (c.loop-n.invariant.keeps s lawful w))

pub returns-then-eq-clause-wide : goal.returns-then-eq-clause-wide
returns-then-eq-clause-wide c l h =
    ⊎_elim (λ here. here) (λ out. let crossed = c.are_crossed.ensures.crossed.1 (λ s. out (s l h)) in cc) (present c.loop-n.n.upper l)

pub loop-n-smaller : goal.loop-n-smaller
loop-n-smaller c =
    let next = c.in_ok-next.next in
    bounds_less c.loop-n.n next c.in_ok-next.ensures.low c.in_ok-next.ensures.high
    (size_le next.lower (omega arith) (omega arith)) (λ same. grind (arith, nat_tests))

pub loop-n-preserved : goal.loop-n-preserved
loop-n-preserved c = tighter_trans _ _ c.loop-n.n _ c.loop-n.invariant c.in_ok-next.ensures

pub returns-clause-narrowed : goal.returns-clause-narrowed
returns-clause-narrowed c s lawful w =
    c.are_crossed.ensures.nothing.0 c.loop-n-test.false s (c.loop-n.invariant.keeps s lawful w)
