use Rattle.std.proofs.Common.{◌+◌, ◌-◌}
use Rattle.literals.specs.Sets.{size}
use Rattle.rulebook.proofs.search.Search.+settle_after.Given as goal

-- the literals that are not yet in, and those that are not yet out
abbrev pub decreases-settle_after : goal.decreases-settle_after
decreases-settle_after g l = (128 - size l.bounds.lower) + size l.bounds.upper
