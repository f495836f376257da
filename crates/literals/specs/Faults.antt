-- The number and the line of each refusal to make a record.
use Rattle.std.specs.Prelude.{ℕ}
use Rattle.literals.specs.declared.record_fault.RecordFault.{RecordFault}
use Rattle.literals.specs.declared.record_fault.RecordFault.TheVariants.{OutOfRange, Inconsistent}

abbrev pub number_of : RecordFault → ℕ
number_of OutOfRange = 4
number_of Inconsistent = 4

abbrev pub line_of : RecordFault → ℕ
line_of OutOfRange = 0
line_of Inconsistent = 0
