use Rattle.std.proofs.Common.{◌≡◌, length}
use Rattle.tables.specs.Tables.{records}
use Rattle.tables.proofs.table.RecordsIterator.next.Given as goal

-- what is left makes the records that are left
abbrev pub invariant-loop-row : goal.invariant-loop-row
invariant-loop-row g l = records g.R.Record.of l.self.rows.now ≡ records g.R.Record.of l.fn.self.rows.now

abbrev pub decreases-loop-row : goal.decreases-loop-row
decreases-loop-row g l = length l.self.rows.now
