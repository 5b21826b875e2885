-- The climb over the rows around the branch that hold items: the invariant is that no Block passed has a label with the branch's canonical number,
-- the measure 1 + the row that it has come to.
-- Assumes nothing.
use Rattle.rules.specs.Labels.{word}
use Rattle.rows.specs.Found.{row_found}
use Rattle.jumps.proofs.ListClimb.{Climbing}
use Rattle.jumps.proofs.enclosing_target.Given as goal

abbrev pub invariant-loop-open : goal.invariant-loop-open
invariant-loop-open l = Climbing l.body.rows.now l.body.pairs.now l.body.bytes.now l.c l.fn.row.0 (row_found l.open)

abbrev pub decreases-loop-open : goal.decreases-loop-open
decreases-loop-open l = word (row_found l.open)
