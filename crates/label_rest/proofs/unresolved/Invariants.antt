-- The loop's invariant: the state of the pass at row r, from the sheet at entry. Each turn is one law.
-- Assumes nothing.
use Rattle.label_rest.specs.Left.{LeftOver}
use Rattle.label_rest.proofs.unresolved.Given as goal

abbrev pub invariant-loop-r : goal.invariant-loop-r
invariant-loop-r l = LeftOver l.body.rows.now l.body.pairs.now l.body.bytes.now l.r l.at l.initial.sheet l.sheet l.used
