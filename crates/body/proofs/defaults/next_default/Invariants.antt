-- The invariant: the search stands at an item, or past the last, and no item before that is a default clause (`Looking`). The measure is what is left.
-- Assumes nothing.
use Prim.Native.Nat.{◌-◌}
use Rattle.body.proofs.Seconds.{Looking}
use Rattle.body.proofs.defaults.next_default.Given as goal

abbrev pub invariant-loop-c : goal.invariant-loop-c
invariant-loop-c l = Looking l.rows l.end l.initial.c l.c

abbrev pub decreases-loop-c : goal.decreases-loop-c
decreases-loop-c l = l.end - l.c
