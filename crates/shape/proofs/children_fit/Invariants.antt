-- Each turn steps over one child, so that what is left to fit is as good as the whole (Stepping). The measure is what is left of the rows.
-- Assumes nothing.
use Prim.Native.Nat.{◌-◌}
use Rattle.shape.specs.Held.{held}
use Rattle.shape.proofs.Stepping.{Walk}
use Rattle.shape.proofs.children_fit.Given as goal

abbrev pub invariant-loop-c : goal.invariant-loop-c
invariant-loop-c l = Walk l.rows (held l.holding) l.end l.initial.c l.i l.c

abbrev pub decreases-loop-c : goal.decreases-loop-c
decreases-loop-c l = l.end - l.c
