-- The loop keeps `ParentsTo`: row 0 and the children of the rows before r have their words.
-- Assumes nothing.
use mathlib.Core.Path.{◌≡◌}
use Prim.Native.Nat.{◌≤◌}
use lib.ListN.{length}
use Rattle.rules.specs.Rows.{row_count}
use Rattle.parents.specs.Parents.{ParentsTo}
use Rattle.parents.proofs.parents_of.Given as goal

abbrev pub invariant-loop-r : goal.invariant-loop-r
invariant-loop-r l = (row_count l.rows ≤ length l.parents) × (length l.parents ≡ length l.initial.parents) × ParentsTo l.rows l.parents l.r
