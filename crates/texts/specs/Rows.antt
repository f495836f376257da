-- The rows that the frames of a text give, table by table.
use Rattle.std.specs.Prelude.{◌≡◌, ℕ, ◌+◌, ◌-◌, Bool, if◌then◌else◌, ◌||◌, List, [], ◌∷◌, ◌++◌, length, take, drop, Some, None, Ok, Option, Result, nat_lt}
use Rattle.std.specs.Result.{result_map_both, result_unwrap_or}
use Rattle.literals.specs.declared.literal_set.LiteralSet.{LiteralSet}
use Rattle.tables.specs.declared.row.RuleRow.{RuleRow}
use Rattle.tables.specs.declared.row.WishRow.{WishRow}
use Rattle.tables.specs.declared.row.AlternativeRow.{AlternativeRow}
use Rattle.tables.specs.Tables.{onto}
use Rattle.frames.specs.declared.frame.Frame.{Frame}
use Rattle.frames.specs.declared.frame.Frame.TheVariants.{Rule, Wish, Alternative, Fit}
use Rattle.texts.specs.declared.fault.Fault.TheVariants.{TableShort}
use Rattle.texts.specs.declared.book.Book.{Book}
use Rattle.texts.specs.declared.book.BookTables.{BookTables}
use Rattle.texts.specs.declared.book_size.BookSize.{BookSize}
use Rattle.texts.specs.declared.fault.Refusal.{Refusal}
use Rattle.texts.specs.declared.seen.TextKind.TheVariants as kind
use Rattle.texts.specs.Places.{is_step, is_wish}
use Rattle.texts.specs.Reading.{frames_in, refused, and_then}

-- The row that a frame gives, behind so many rank steps and so many wishes.
abbrev pub rule_in : ℕ → ℕ → Frame → Option RuleRow
rule_in steps wishes (Rule row) = Some row
rule_in steps wishes _ = None

-- a wish has rank 1 plus the steps before it
abbrev pub wish_in : ℕ → ℕ → Frame → Option WishRow
wish_in steps wishes (Wish body) = Some (record { rank = steps + 1; body = body })
wish_in steps wishes _ = None

-- an alternative is one of the last wish before it; wishes are numbered from 0
abbrev pub alternative_in : ℕ → ℕ → Frame → Option AlternativeRow
alternative_in steps wishes (Alternative level condition) =
    Some (record { wish = wishes - 1; level = level; condition = condition })
alternative_in steps wishes _ = None

abbrev pub fit_in : ℕ → ℕ → Frame → Option LiteralSet
fit_in steps wishes (Fit set) = Some set
fit_in steps wishes _ = None

-- all rows of one table, by what a frame gives to it
abbrev pub rows_from : {R : Type 0} → (ℕ → ℕ → Frame → Option R) → ℕ → ℕ → List Frame → List R
rows_from given steps wishes [] = []
rows_from given steps wishes (f ∷ fs) =
    onto (given steps wishes f)
    (rows_from given
    (steps + (if is_step f then 1 else 0)) (wishes + (if is_wish f then 1 else 0)) fs)

abbrev pub rows_in : {R : Type 0} → (ℕ → ℕ → Frame → Option R) → List Frame → List R
rows_in given fs = rows_from given 0 0 fs

-- the tables of a book
pub record Tables : Type 0 where
  pub rules : List RuleRow
  pub wishes : List WishRow
  pub alternatives : List AlternativeRow

abbrev pub tables_of : List Frame → Tables
tables_of fs = record {
  rules = rows_in rule_in fs;
  wishes = rows_in wish_in fs;
  alternatives = rows_in alternative_in fs;
}

-- the tables that a program holds
abbrev pub book_rows : Book → Tables
book_rows b =
    record { rules = b.rules.now; wishes = b.wishes.now; alternatives = b.alternatives.now }

abbrev pub table_rows : BookTables → Tables
table_rows b =
    record { rules = b.rules.now; wishes = b.wishes.now; alternatives = b.alternatives.now }

abbrev pub size_of : Tables → BookSize
size_of t = record {
  rules = length t.rules;
  wishes = length t.wishes;
  alternatives = length t.alternatives;
}

-- the first rows, so many of each table
abbrev pub fronts : BookSize → Tables → Tables
fronts size t = record {
  rules = take size.rules t.rules;
  wishes = take size.wishes t.wishes;
  alternatives = take size.alternatives t.alternatives;
}

-- What a text gives.
abbrev pub catalogue : List ℕ → Result (List LiteralSet) Refusal
catalogue text = and_then (frames_in kind.Catalogue text) (λ fs. Ok (rows_in fit_in fs))

abbrev pub book : List ℕ → Result Tables Refusal
book text = and_then (frames_in kind.Book text) (λ fs. Ok (tables_of fs))

-- The same into tables of so many rows.
abbrev pub read_catalogue : List ℕ → ℕ → Result (List LiteralSet) Refusal
read_catalogue text room =
    and_then (catalogue text)
    (λ rows. (if nat_lt room (length rows) then refused TableShort 0 else Ok rows))

-- one of the tables has no room for so many rows
abbrev pub is_short : BookSize → BookSize → Bool
is_short room rows =
    nat_lt room.rules rows.rules
    || (nat_lt room.wishes rows.wishes || nat_lt room.alternatives rows.alternatives)

abbrev pub read_book : List ℕ → BookSize → Result Tables Refusal
read_book text room =
    and_then (book text) (λ t. (if is_short room (size_of t) then refused TableShort 0 else Ok t))

-- A table after reading: the rows at its front; a refusal changes nothing.
abbrev pub rows_of : {A B : Type 0} → (A → List B) → Result A Refusal → List B
rows_of rows r = result_unwrap_or (result_map_both rows (λ e. e) r) []

abbrev pub overwritten : {A : Type 0} → List A → List A → List A
overwritten rows table = rows ++ drop (length rows) table

-- how many rows were read
abbrev pub row_count : {A : Type 0} → Result (List A) Refusal → Result ℕ Refusal
row_count r = result_map_both length (λ e. e) r

-- how many rows were read into each table
abbrev pub book_count : Result Tables Refusal → Result BookSize Refusal
book_count r = result_map_both size_of (λ e. e) r

-- What reading into tables gives, and the tables after it, by what was read.
pub record ReadInto (read : Result Tables Refusal) (before : Tables) (r : Result BookSize Refusal) (after : Tables)
    : Type 0 where
  pub result : r ≡ book_count read
  pub rule_table : after.rules ≡ overwritten (rows_of (λ t. t.rules) read) before.rules
  pub wish_table : after.wishes ≡ overwritten (rows_of (λ t. t.wishes) read) before.wishes
  pub alternative_table :
      after.alternatives ≡ overwritten (rows_of (λ t. t.alternatives) read) before.alternatives

-- The same of a book text.
abbrev pub BookRead : List ℕ → Tables → Result BookSize Refusal → Tables → Type 0
BookRead text before r after = ReadInto (read_book text (size_of before)) before r after
