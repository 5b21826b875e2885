-- The loop keeps `Turn`: what is left of the walk is the whole walk. Turns.antt has a law for each way in which a turn goes on or ends.
-- Assumes nothing.
use Prim.Native.Nat.{◌-◌}
use Rattle.runner.proofs.Turns.{Turn}
use Rattle.runner.proofs.walk_on.Given as goal

abbrev pub invariant-loop-made : goal.invariant-loop-made
invariant-loop-made l =
    let b = l.table.faultless.body in
    Turn b.rows.now b.pairs.now b.bytes.now l.choices l.limit l.place l.made l.used

abbrev pub decreases-loop-made : goal.decreases-loop-made
decreases-loop-made l = l.limit - l.made
