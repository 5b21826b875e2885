-- The loop's invariant: none of the rows passed is badly placed.
-- Assumes nothing.
use Rattle.placing.proofs.Labelled.{NoneBad}
use Rattle.placing.proofs.all_labelled.Given as goal

abbrev pub invariant-loop-r : goal.invariant-loop-r
invariant-loop-r l = NoneBad l.rows l.r
