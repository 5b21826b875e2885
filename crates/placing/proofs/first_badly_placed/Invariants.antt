-- The invariant: no row below r is badly placed, and break_end and loop_end say how far the rows below r reach, of those that a break and a continue need;
-- the rows passed over change neither.
-- The measure is what is left of the count. Assumes nothing.
use Prim.Native.Nat.{◌-◌}
use Rattle.placing.proofs.Counting.{Known}
use Rattle.placing.proofs.first_badly_placed.Given as goal

abbrev pub invariant-loop-r : goal.invariant-loop-r
invariant-loop-r l =
    Known l.rows l.r l.break_end l.loop_end

abbrev pub decreases-loop-r : goal.decreases-loop-r
decreases-loop-r l = l.count - l.r
