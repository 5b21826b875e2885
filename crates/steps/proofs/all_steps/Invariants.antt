-- The loop keeps `StepsTo`: the rows before r have their steps.
-- Assumes nothing.
use Rattle.steps.proofs.AllRows.{StepsTo}
use Rattle.steps.proofs.all_steps.Given as goal

abbrev pub invariant-loop-r : goal.invariant-loop-r
invariant-loop-r l = StepsTo l.body.rows.now l.body.pairs.now l.body.bytes.now l.firsts l.steps l.r l.first
