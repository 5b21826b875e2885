-- The invariant: `around` is the list in hand at r, and the words below r are written.
-- Assumes nothing.
use mathlib.Core.Path.{◌≡◌}
use lib.ListN.{length}
use Rattle.rules.specs.Labels.{word}
use Rattle.rows.specs.Found.{row_found}
use Rattle.lists.specs.Listed.{InHand, ListedBelow}
use Rattle.lists.proofs.lists_of.Given as goal

abbrev pub invariant-loop-r : goal.invariant-loop-r
invariant-loop-r l =
    (length l.lists ≡ length l.initial.lists) × InHand l.rows (word (row_found l.around.list)) l.around.end l.r × ListedBelow l.rows l.lists l.r
