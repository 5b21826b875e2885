-- The row that a search found as document 01's index, or none.
-- Assumes nothing.
use Rattle.std.specs.Prelude.{ℕ, Option, Some, None}
use Rattle.std.proofs.Math.Option as found
use Rattle.rows.specs.declared.RowNumber.{RowNumber}

abbrev pub row_found : Option RowNumber → found.Option ℕ
row_found (Some row) = found.some row.0
row_found None = found.none
