-- Rows that make no record count for nothing.
use Rattle.std.proofs.Common.{◌≡◌, ℕ, zero, suc, [], ◌∷◌, replicate, None, Option, refl, ap, ◌∙◌}
use Rattle.tables.specs.Tables.{onto, records, Idle}

module _ {Row R : Type 0} (of : Row → Option R) where
  -- they make no records
  records_none : (row : Row) → of row ≡ None → (n : ℕ) → records of (replicate n row) ≡ []
  records_none row e zero = refl
  records_none row e (suc n) = ap (λ o. onto o (records of (replicate n row))) e ∙ records_none row e n

  pub idle : (row : Row) → of row ≡ None → Idle of row
  idle row e [] n = records_none row e n
  idle row e (first ∷ rows) n = ap (onto (of first)) (idle row e rows n)
