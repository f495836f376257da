use Rattle.std.proofs.Common.{rules, arith}
use Rattle.literals.specs.Sets.{In, named}
use Rattle.literals.proofs.SetLaws.{size_le}
use Rattle.rulebook.proofs.Following.{less_included, less_excluded, none_after, after_having, after_lacking, after_taking}
use Rattle.rulebook.proofs.search.Search.+settle_after.Goals as goal

pub returns-in_err-literal : goal.returns-in_err-literal
returns-in_err-literal g t c =
    rw c.from_residual.ensures (none_after _ _ c.args.given c.args.bounds c.doubtful.result c.doubtful.ensures c.in_err-literal.ensures)

pub settle_after-requires : goal.settle_after-requires
settle_after-requires g t c κs within =
    let n = c.include.result in
    let k = named c.in_ok-literal.literal.code in
    let has : In c.args.given.literals k = search rules in (
      omega (
        arith,
        c.decreases,
        less_included c.args.given.literals c.args.bounds c.doubtful.result c.doubtful.ensures k c.in_ok-literal.ensures
            n has c.include.ensures.bounds (size_le n.lower (omega arith) (omega arith)),
      ),
      within,
    )

pub returns-then-has : goal.returns-then-has
returns-then-has g t c =
    let k = named c.in_ok-literal.literal.code in
    let has : In c.args.given.literals k = search rules in
    after_having _ _ c.args.given c.args.bounds
    c.doubtful.result c.doubtful.ensures k c.in_ok-literal.ensures has c.include.result c.include.ensures.between
    c.settle_after.result c.settle_after.ensures

pub settle_after-requires-2 : goal.settle_after-requires-2
settle_after-requires-2 g t c κs within =
    let k = named c.in_ok-literal.literal.code in
    let lacks : ¬ In c.args.given.literals k = search rules in (
      omega (
        arith,
        c.decreases,
        less_excluded c.args.given.literals c.args.bounds c.doubtful.result c.doubtful.ensures k c.in_ok-literal.ensures
            c.exclude.result lacks c.exclude.ensures.bounds,
      ),
      within,
    )

pub returns-in-Some : goal.returns-in-Some
returns-in-Some g t c =
    let k = named c.in_ok-literal.literal.code in
    let lacks : ¬ In c.args.given.literals k = search rules in
    after_lacking _ _ c.args.given c.args.bounds
    c.doubtful.result c.doubtful.ensures k c.in_ok-literal.ensures lacks c.exclude.result c.exclude.ensures.between
    c.in-Some.fit c.in-Some.ensures

pub returns : goal.returns
returns g t c =
    let k = named c.in_ok-literal.literal.code in
    let lacks : ¬ In c.args.given.literals k = search rules in
    after_taking _ _ c.args.given c.args.bounds
    c.doubtful.result c.doubtful.ensures k c.in_ok-literal.ensures lacks c.exclude.result c.exclude.ensures.between
    c.include-2.result c.include-2.ensures.between c.in_default.ensures c.settle.result c.settle.ensures
