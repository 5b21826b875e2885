-- The invariant: none of the rows passed counts.
-- Assumes nothing.
use Rattle.placing.specs.Counted.{PassedOver}
use Rattle.placing.proofs.counts.next_that_counts.Given as goal

abbrev pub invariant-loop-r : goal.invariant-loop-r
invariant-loop-r l = PassedOver l.rows l.from l.r l.end
