-- The two searches for a break call each other, each on fewer rows: twice the rows of a statement, and one more than that of a list. At a row the search
-- answers as that below it does, and through a list what is left, from the next item on, answers as the whole does.
-- Assumes nothing.
use Prim.Native.Nat.{◌+◌, ◌-◌, ◌*◌}
use Rattle.rules.specs.Rows.{size}
use Rattle.breaks.proofs.Search.{Walk}
use Rattle.breaks.proofs.+has_break_has_break_items.Given as goal

abbrev pub decreases-has_break : goal.decreases-has_break
decreases-has_break l = 2 * size l.body.now.rows.now l.row.0

abbrev pub decreases-has_break_items : goal.decreases-has_break_items
decreases-has_break_items l = 2 * (l.end - l.from.0) + 1

abbrev pub invariant-has_break_items-loop-c : goal.invariant-has_break_items-loop-c
invariant-has_break_items-loop-c l = Walk l.body.rows.now l.body.pairs.now l.body.bytes.now l.end l.label.0 l.implicit l.initial.c l.c

abbrev pub decreases-has_break_items-loop-c : goal.decreases-has_break_items-loop-c
decreases-has_break_items-loop-c l = l.end - l.c
