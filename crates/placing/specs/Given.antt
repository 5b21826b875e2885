-- The placing call's answer as document 01's refusal, row badly placed, or none.
-- Assumes nothing.
use Rattle.std.specs.Prelude.{ℕ, Option, Result, Ok, Err}
use Rattle.std.proofs.Math.Option as found
use Rattle.rules.specs.Calls.{Answer, refused, answered}
use Rattle.refusals.specs.declared.Refusal.{Refusal}
use Rattle.refusals.specs.Returned.{returned}
use Rattle.rows.specs.declared.RowNumber.{RowNumber}
use Rattle.rows.specs.Found.{row_found}

abbrev pub given : Result (Option RowNumber) Refusal → Answer (found.Option ℕ)
given (Ok row) = answered (row_found row)
given (Err r) = refused (returned r).0 (returned r).1
