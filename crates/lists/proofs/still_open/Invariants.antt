-- The invariant: `open` is the row in hand, or none, as Opened.antt says; the code returns at it or takes the next one out.
-- The measure is its word, which falls.
-- Assumes nothing.
use Rattle.rules.specs.Labels.{word}
use Rattle.rows.specs.Found.{row_found}
use Rattle.lists.specs.Listed.{Open}
use Rattle.lists.proofs.still_open.Given as goal

abbrev pub invariant-loop-open : goal.invariant-loop-open
invariant-loop-open l = Open l.rows (word (row_found l.open)) l.r

abbrev pub decreases-loop-open : goal.decreases-loop-open
decreases-loop-open l = word (row_found l.open)
