-- The refusal call's answer as document 01's number and index.
-- Assumes nothing.
use Rattle.std.specs.Prelude.{ℕ, Result, Ok, Err}
use Rattle.std.proofs.Math.Option.{Option, none, some}
use Rattle.refusals.specs.declared.Refusal.{Refusal}
use Rattle.refusals.specs.Returned.{returned}

abbrev pub given : {A : Type 0} → Result A Refusal → Option (ℕ × ℕ)
given (Err r) = some (returned r)
given (Ok body) = none
