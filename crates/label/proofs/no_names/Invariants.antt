-- The loop's invariant: no row before r has a name.
-- Assumes nothing.
use mathlib.Core.Path.{◌≡◌}
use Prim.Native.Nat.{ℕ, ◌<◌}
use Rattle.rules.specs.Rows.{name}
use Rattle.label.proofs.no_names.Given as goal

abbrev pub invariant-loop-r : goal.invariant-loop-r
invariant-loop-r l = (k : ℕ) → k < l.r → name l.rows k ≡ 0
