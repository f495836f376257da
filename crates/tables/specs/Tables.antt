-- The records of a table of rows, and how records and rows are tied.
use Rattle.std.specs.Prelude.{◌≡◌, ℕ, Bool, true, false, List, [], ◌∷◌, ◌++◌, replicate, Some, None, Ok, Err, Option, Result}
use Rattle.literals.specs.declared.record_fault.RecordFault.{RecordFault}
use Rattle.literals.specs.declared.record_fault.RecordFault.TheVariants.{OutOfRange}

-- a record, if there is one, in front of others
abbrev pub onto : {R : Type 0} → Option R → List R → List R
onto None made = made
onto (Some x) made = x ∷ made

-- the records of a table, in its order: rows that make none are left out (not for wishes, which keep their places)
abbrev pub records : {Row R : Type 0} → (Row → Option R) → List Row → List R
records of [] = []
records of (row ∷ rows) = onto (of row) (records of rows)

-- a record, or the refusal of a row that makes none
abbrev pub or_refused : {R : Type 0} → Option R → Result R RecordFault
or_refused (Some x) = Ok x
or_refused None = Err OutOfRange

-- what is made of a row, by whether it makes a record: a record of just that row, else the refusal
abbrev pub Judged : {Row R : Type 0} → Bool → (R → Row) → Row → Result R RecordFault → Type 0
Judged makes row_of row (Ok x) = (makes ≡ true) × (row_of x ≡ row)
Judged makes row_of row (Err fault) = (makes ≡ false) × (fault ≡ OutOfRange)

-- a record determines its row and is determined by it, and the rows that make records are those of records
pub record Faithful {Row R : Type 0} (makes : Row → Bool) (of : Row → Option R) (row_of : R → Row) : Type 0 where
  -- a record's row makes a record,
  pub valid : (x : R) → makes (row_of x) ≡ true
  -- that very record
  pub again : (x : R) → of (row_of x) ≡ Some x
  -- the record that a row makes has that row
  pub kept : (row : Row) (x : R) → of row ≡ Some x → row_of x ≡ row
  -- no two records have one row
  pub alone : (x y : R) → row_of x ≡ row_of y → x ≡ y
  -- a row that fails the test makes no record
  pub none : (row : Row) → makes row ≡ false → of row ≡ None

-- however many such rows stand at the end of a table, its records are the same
abbrev pub Idle : {Row R : Type 0} → (Row → Option R) → Row → Type 0
Idle {Row} of row = (rows : List Row) (n : ℕ) → records of (rows ++ replicate n row) ≡ records of rows
