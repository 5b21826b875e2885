-- There are as many bodies as turns, and no more differ, so that neither count wraps.
-- Assumes nothing.
use mathlib.Core.Path.{◌≡◌}
use Prim.Native.Nat.{◌≤◌}
use Rattle.oracle_cases.proofs.main.Given as goal

abbrev pub invariant-loop-body : goal.invariant-loop-body
invariant-loop-body l = (l.bodies ≡ l.body-counter) × (l.differ ≤ l.body-counter)
