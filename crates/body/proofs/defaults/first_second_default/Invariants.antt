-- The invariant: the rows before r were looked at, and `lowest` is the lowest second default found, or the number of rows (`Lowest`). A second default comes
-- after its parent, so none is left once r has come to `lowest`. The measure is what is left of the rows.
-- Assumes nothing.
use Prim.Native.Nat.{◌-◌}
use Rattle.body.proofs.Seconds.{Lowest}
use Rattle.body.proofs.defaults.first_second_default.Given as goal

abbrev pub invariant-loop-r : goal.invariant-loop-r
invariant-loop-r l = Lowest l.rows l.lowest l.r

abbrev pub decreases-loop-r : goal.decreases-loop-r
decreases-loop-r l = l.count - l.r
