use Rattle.std.proofs.Common.{◌-◌}
use Rattle.literals.specs.Sets.{size}
use Rattle.rulebook.proofs.search.Search.+settle.Given as goal

-- the number of open literals
abbrev pub decreases-settle : goal.decreases-settle
decreases-settle g l = size l.bounds.upper - size l.bounds.lower
