-- The loop keeps `Written`: the children of row r before c have their words. The measure is what is left of the row.
-- Assumes nothing.
use mathlib.Core.Path.{◌≡◌}
use Prim.Native.Nat.{◌-◌}
use lib.ListN.{length}
use Rattle.rules.specs.Rows.{end}
use Rattle.parents.proofs.Written.{Written}
use Rattle.parents.proofs.write_children.Given as goal

abbrev pub invariant-loop-c : goal.invariant-loop-c
invariant-loop-c l = (l.end ≡ end l.rows l.r) × (length l.parents ≡ length l.initial.parents) × Written l.rows l.parents l.r l.c

abbrev pub decreases-loop-c : goal.decreases-loop-c
decreases-loop-c l = l.end - l.c
