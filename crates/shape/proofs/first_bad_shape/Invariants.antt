-- Each row passed keeps its shape; so the first that does not is the lowest, and past the last row there is none.
-- Assumes nothing.
use mathlib.Core.Path.{◌≡◌}
use mathlib.Core.Bool.{false}
use Prim.Native.Nat.{ℕ, ◌<◌}
use Rattle.rules.specs.Refusals.{bad_shape}
use Rattle.shape.proofs.first_bad_shape.Given as goal

abbrev pub invariant-loop-r : goal.invariant-loop-r
invariant-loop-r l = (k : ℕ) → k < l.r → bad_shape l.rows k ≡ false
