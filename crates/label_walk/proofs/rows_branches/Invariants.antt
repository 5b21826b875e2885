-- The loop's invariant: the state of the walk at row r, the list in hand, and the lists of the rows before r.
-- Assumes nothing.
use mathlib.Core.Path.{◌≡◌}
use lib.ListN.{length}
use Rattle.rules.specs.Labels.{word}
use Rattle.rows.specs.Found.{row_found}
use Rattle.lists.specs.Listed.{InHand, ListedBelow}
use Rattle.label_walk.proofs.WalkSteps.{Turn}
use Rattle.label_walk.proofs.rows_branches.Given as goal

abbrev pub invariant-loop-r : goal.invariant-loop-r
invariant-loop-r l =
    Turn l.body.rows.now l.body.pairs.now l.body.bytes.now l.r l.faults l.initial.sheet l.initial.bindings l.initial.heads
    l.initial.goto_or_label l.initial.contexts l.sheet l.bindings l.heads l.goto_or_label l.contexts
    × (length l.lists ≡ length l.initial.lists) × InHand l.body.rows.now (word (row_found l.around.list)) l.around.end l.r
    × ListedBelow l.body.rows.now l.lists l.r
