-- The statement rule, the list rule and the rule of a switch call each other, each on a smaller measure (proofs/Calls.antt). Each answers as the definition
-- does: by the row's kind (proofs/RowRule.antt), by the last item that is no Empty (proofs/ByClass.antt), and clause by clause (proofs/SwitchRule.antt).
-- Assumes nothing.
use Prim.Native.Nat.{◌+◌, ◌-◌, ◌*◌}
use Rattle.rules.specs.Rows.{size}
use Rattle.returns.proofs.SwitchRule.{Walk}
use Rattle.returns.proofs.+is_terminating_stmt_is_terminating_list_is_terminating_switch.Given as goal

abbrev pub decreases-is_terminating_stmt : goal.decreases-is_terminating_stmt
decreases-is_terminating_stmt l = 2 * size l.body.now.rows.now l.row.0

abbrev pub decreases-is_terminating_list : goal.decreases-is_terminating_list
decreases-is_terminating_list l = 2 * (l.end - l.from.0) + 1

abbrev pub decreases-is_terminating_switch : goal.decreases-is_terminating_switch
decreases-is_terminating_switch l = 2 * size l.body.now.rows.now l.row.0 - 1

abbrev pub invariant-is_terminating_switch-loop-c : goal.invariant-is_terminating_switch-loop-c
invariant-is_terminating_switch-loop-c l = Walk l.body.rows.now l.body.pairs.now l.body.bytes.now l.end l.label.0 l.initial.c l.initial.has_default l.c l.has_default

abbrev pub decreases-is_terminating_switch-loop-c : goal.decreases-is_terminating_switch-loop-c
decreases-is_terminating_switch-loop-c l = l.end - l.c
