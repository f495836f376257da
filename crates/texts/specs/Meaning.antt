-- What reading and writing a text mean: refusals are what the lines show, accepted texts are those of tables, and each gives
-- the other back.
use Rattle.std.specs.Prelude.{◌≡◌, ℕ, ◌^◌, ◌<◌, ◌↔◌, true, List, Ok}
use Rattle.std.specs.List.{All}
use Rattle.literals.specs.declared.literal_set.LiteralSet.{LiteralSet}
use Rattle.tables.specs.declared.row.WishRow.{WishRow}
use Rattle.tables.specs.declared.row.AlternativeRow.{AlternativeRow}
use Rattle.frames.specs.Frames.{SetFits, ConditionFits, RuleFits}
use Rattle.texts.specs.declared.seen.TextKind.TheVariants.{Book, Catalogue}
use Rattle.texts.specs.Rows.{Tables, catalogue, book}
use Rattle.texts.specs.Writing.{catalogue_text, book_text, writable_catalogue, writable_book}
use Rattle.texts.specs.Refusals.{RefusalsStand}

-- The numbers of a row fit their types, as they do in every table that a program can hold.
abbrev pub WishFits : WishRow → Type 0
WishFits w = (w.rank < 256) × ConditionFits w.body

abbrev pub AlternativeFits : AlternativeRow → Type 0
AlternativeFits a = (a.wish < 2 ^ 64) × (a.level < 256) × ConditionFits a.condition

abbrev pub TablesFit : Tables → Type 0
TablesFit t =
    All RuleFits t.rules × All WishFits t.wishes × All AlternativeFits t.alternatives

-- Reading a catalogue text.
pub record CatalogueReading (text : List ℕ) : Type 0 where
  -- it is refused for what its lines show
  pub refused : RefusalsStand Catalogue text
  -- it is accepted exactly when it is the text of some catalogue
  pub accepted : ((rows : List LiteralSet) × (catalogue text ≡ Ok rows))
      ↔ ((rows : List LiteralSet) × All SetFits rows
      × (writable_catalogue rows ≡ true) × (catalogue_text rows ≡ text))
  -- accepted and written again, it is the same text
  pub same : (rows : List LiteralSet) → catalogue text ≡ Ok rows → catalogue_text rows ≡ text

-- Writing a catalogue.
pub record CatalogueWriting (rows : List LiteralSet) : Type 0 where
  -- it is writable exactly when some text gives it
  pub given : All SetFits rows
      → (writable_catalogue rows ≡ true) ↔ ((text : List ℕ) × (catalogue text ≡ Ok rows))
  -- written, it reads back equal
  pub back : All SetFits rows → writable_catalogue rows ≡ true
      → catalogue (catalogue_text rows) ≡ Ok rows

-- Reading a book text: the same.
pub record BookReading (text : List ℕ) : Type 0 where
  pub refused : RefusalsStand Book text
  pub accepted : ((t : Tables) × (book text ≡ Ok t))
      ↔ ((t : Tables) × TablesFit t × (writable_book t ≡ true) × (book_text t ≡ text))
  pub same : (t : Tables) → book text ≡ Ok t → book_text t ≡ text

-- Writing the tables of a book: the same.
pub record BookWriting (t : Tables) : Type 0 where
  pub given : TablesFit t → (writable_book t ≡ true) ↔ ((text : List ℕ) × (book text ≡ Ok t))
  pub back : TablesFit t → writable_book t ≡ true → book (book_text t) ≡ Ok t
