-- The invariant: no row below r is bad.
-- Assumes nothing.
use mathlib.Core.Path.{◌≡◌}
use mathlib.Core.Bool.{false}
use Prim.Native.Nat.{ℕ, ◌<◌}
use Rattle.rules.specs.Refusals.{bad_row}
use Rattle.body.proofs.first_bad_row.Given as goal

abbrev pub invariant-loop-r : goal.invariant-loop-r
invariant-loop-r l = (k : ℕ) → k < l.r → bad_row l.rows l.pairs k ≡ false
