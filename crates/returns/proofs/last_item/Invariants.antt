-- Each turn steps over one item. The invariant: the item kept is the last so far that is no Empty, and all rows since are Empty; an Empty is one row.
-- In the inner loop it holds at the end of the item at c, whose size is in hand. The measure of both is what is left of the rows.
-- Assumes nothing.
use Prim.Native.Nat.{◌+◌, ◌-◌, ◌≤◌, ◌<◌}
use Rattle.rules.specs.Rows.{row_count}
use Rattle.returns.proofs.LastItem.{Walk}
use Rattle.returns.proofs.last_item.Given as goal

abbrev pub invariant-loop-size : goal.invariant-loop-size
invariant-loop-size l =
    (l.initial.c ≤ l.c) × (l.c < l.end) × (1 ≤ l.size) × (l.c + l.size ≤ row_count l.rows) × Walk l.rows l.fn.from.0 l.end l.last (l.c + l.size)

abbrev pub decreases-loop-size : goal.decreases-loop-size
decreases-loop-size l = l.end - l.c

abbrev pub invariant-loop-c : goal.invariant-loop-c
invariant-loop-c l = Walk l.rows l.initial.c l.end l.last l.c

abbrev pub decreases-loop-c : goal.decreases-loop-c
decreases-loop-c l = l.end - l.c
