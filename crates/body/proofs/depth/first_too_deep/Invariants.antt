-- A row's depth is 1 and the rows before it that reach past it: all before it but those that ended before it, and those that end at it.
-- The invariant: ended and ends count those of the rows below r, and none of them is over 100 deep.
-- Assumes nothing.
use mathlib.Core.Path.{◌≡◌}
use mathlib.Core.Bool.{false}
use Prim.Native.Nat.{ℕ, ◌<◌}
use lib.Dec.{ltb}
use lib.ListN.{length}
use Rattle.rules.specs.Rows.{end, depth}
use Rattle.rules.proofs.Count.{Counted}
use Rattle.body.proofs.depth.first_too_deep.Given as goal

abbrev pub invariant-loop-r : goal.invariant-loop-r
invariant-loop-r l =
    (length l.ends ≡ 2001) × Counted (end l.rows) l.ends l.ended l.r × ((k : ℕ) → k < l.r → ltb 100 (depth l.rows k) ≡ false)
