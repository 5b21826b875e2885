-- The invariant: no row below r has a bad size.
-- Assumes nothing.
use mathlib.Core.Path.{◌≡◌}
use mathlib.Core.Bool.{false}
use Prim.Native.Nat.{ℕ, ◌<◌}
use Rattle.rules.specs.Refusals.{bad_size}
use Rattle.body.proofs.first_bad_size.Given as goal

abbrev pub invariant-loop-r : goal.invariant-loop-r
invariant-loop-r l = (k : ℕ) → k < l.r → bad_size l.rows k ≡ false
