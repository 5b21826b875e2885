-- What the search for a row badly placed says.
-- Assumes nothing.
use Rattle.std.specs.Prelude.{◌≡◌, List, ℕ, Option, Result, Ok, Err, length}
use Rattle.rules.specs.Placing.{placing}
use Rattle.rows.specs.declared.RowNumber.{RowNumber}
use Rattle.rows.specs.Found.{row_found}
use Rattle.placing.specs.declared.NeedsLists.{NeedsLists}

-- the first row badly placed, or none; or no lists were lent
abbrev pub Searched : List ℕ → List ℕ → Result (Option RowNumber) NeedsLists → Type 0
Searched w l (Ok row) = row_found row ≡ placing w
Searched w l (Err e) = length l ≡ 0
