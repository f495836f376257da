use Rattle.std.proofs.Common.{Some, None, arith}
use Rattle.literals.specs.Sets.{named}
use Rattle.answer_sets.specs.Rules.{rules_of}
use Rattle.propagation.specs.Narrowing.{Lawful}
use Rattle.rulebook.proofs.Settling.{fewer_excluded, fewer_included, fewer_narrowed, first_narrowed, none_narrowed, none_hopeful, first_settled, first_excluded, first_included}
use Rattle.rulebook.proofs.search.Search.+settle.Goals as goal

pub returns-in_err-n : goal.returns-in_err-n
returns-in_err-n g t c = rw c.from_residual.ensures (none_narrowed _ _ c.args.bounds c.in_err-n.ensures.narrowed)

pub returns-then-is_hopeless : goal.returns-then-is_hopeless
returns-then-is_hopeless g t c =
    let n = c.in_ok-n.n in
    first_narrowed _ _ c.args.bounds n c.in_ok-n.ensures.narrowed None (none_hopeful _ _ n (c.is_hopeless.ensures c.if-is_hopeless.true))

pub returns-in_default : goal.returns-in_default
returns-in_default g t c =
    let n = c.in_ok-n.n in
    first_narrowed _ _ c.args.bounds n c.in_ok-n.ensures.narrowed _
    (first_settled _ _ n c.in_ok-n.ensures.wide c.in_default.ensures c.suiting.result c.suiting.ensures)

pub settle-requires : goal.settle-requires
settle-requires g t c κs within =
    let n = c.in_ok-n.n in (
      omega (
        arith,
        c.decreases,
        fewer_narrowed (Lawful (rules_of c.args.self.now.rows.now)) c.args.bounds n c.in_ok-n.ensures.narrowed,
        fewer_excluded n c.exclude.result (named c.in-Some.literal.code) c.in_ok-n.ensures.wide c.in-Some.ensures c.exclude.ensures.bounds,
      ),
      within,
    )

pub returns-in-Some-settle : goal.returns-in-Some-settle
returns-in-Some-settle g t c =
    let n = c.in_ok-n.n in
    first_narrowed _ _ c.args.bounds n c.in_ok-n.ensures.narrowed (Some c.in-Some-settle.fit)
    (first_excluded _ _ n (named c.in-Some.literal.code) c.in-Some.ensures c.exclude.result c.exclude.ensures.between
    c.in-Some-settle.fit c.in-Some-settle.ensures)

pub settle-requires-2 : goal.settle-requires-2
settle-requires-2 g t c κs within =
    let n = c.in_ok-n.n in (
      omega (
        arith,
        c.decreases,
        fewer_narrowed (Lawful (rules_of c.args.self.now.rows.now)) c.args.bounds n c.in_ok-n.ensures.narrowed,
        fewer_included n c.include.result (named c.in-Some.literal.code) c.in_ok-n.ensures.wide c.in-Some.ensures c.include.ensures.bounds,
      ),
      within,
    )

pub returns : goal.returns
returns g t c =
    let n = c.in_ok-n.n in
    first_narrowed _ _ c.args.bounds n c.in_ok-n.ensures.narrowed _
    (first_included _ _ n (named c.in-Some.literal.code) c.in-Some.ensures c.exclude.result c.exclude.ensures.between
    c.include.result c.include.ensures.between c.in_default-settle.ensures c.settle-2.result c.settle-2.ensures)
