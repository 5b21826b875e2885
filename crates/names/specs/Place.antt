-- The answer of a search as document 01's index, or none.
-- Assumes nothing.
use Rattle.std.specs.Prelude.{ℕ, Option, Some, None}
use Rattle.std.proofs.Math.Option as found

abbrev pub place : Option ℕ → found.Option ℕ
place (Some i) = found.some i
place None = found.none
