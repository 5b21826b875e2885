use mathlib.Core.Path.{◌≡◌, sym}
use mathlib.Core.Bool.{◌||◌}
use Prim.Native.Nat.{ℕ}
use native.Mathlib.Omega.{arith}
use borrow.Author.Rules.{rules}
use Rattle.rules.specs.Class.{is_default, class}
use Rattle.returns.proofs.ByClass.{list-empty, last-answer}
use Rattle.body.proofs.Facts.{facts_of}
use Rattle.returns.proofs.Calls.{one-row-empties, last-call}
use Rattle.returns.proofs.RowRule.{Known, expr-answer, return-answer, jump-answer, leave-answer, other-answer, labeled-call, labeled-answer, list-call}
use Rattle.returns.proofs.RowRule.{list-answer, if-answer, then-call, else-call, first-no, both-parts, switch-call, select-call, for-answer}
use Rattle.returns.proofs.RowRule.{loop-answer, else-fits, below}
use Rattle.returns.proofs.SwitchRule.{Opened, begin, ended, default-here, default-before, clause-call, is_open, is-left, next}
use Rattle.returns.proofs.+is_terminating_stmt_is_terminating_list_is_terminating_switch.Goals as goal
use Rattle.returns.proofs.+is_terminating_stmt_is_terminating_list_is_terminating_switch.Goals.{is_terminating_stmt-After-size, is_terminating_switch-After-size}
use Rattle.returns.proofs.+is_terminating_stmt_is_terminating_list_is_terminating_switch.Goals.{is_terminating_switch-then-default, is_terminating_switch-else-default}

-- ---- what is known of the row once the code has read its size
known : {t : ℕ} (c : is_terminating_stmt-After-size t) →
    Known c.args.body.now.rows.now c.args.body.now.pairs.now c.args.body.now.bytes.now t c.args.row.0 c.args.label.0 c.size.result
known c = record {
  measure = c.decreases;
  body = facts_of c.args.body.now;
  row = c.requires.0;
  statement = c.requires.1;
  labelled = c.requires.2;
  size_is = c.size.ensures;
}

-- and of a switch or Select before its clauses
opened : {t : ℕ} (c : is_terminating_switch-After-size t) →
    Opened c.args.body.now.rows.now c.args.body.now.pairs.now c.args.body.now.bytes.now t c.args.row.0 c.args.label.0 c.size.result c.args.found
opened c = record {
  measure = c.decreases;
  body = facts_of c.args.body.now;
  row = c.requires.0;
  opening = c.requires.1;
  found-is = c.requires.2;
  labelled = c.requires.3;
  size_is = c.size.ensures;
}

-- ---- the statement rule
pub is_terminating_stmt-is_terminating_stmt-requires : goal.is_terminating_stmt-is_terminating_stmt-requires
is_terminating_stmt-is_terminating_stmt-requires t c =
    labeled-call (known (goal.at.is_terminating_stmt-is_terminating_stmt-requires t c).After-size) c.in-Labeled.ensures c.name.ensures

pub is_terminating_stmt-is_terminating_list-requires : goal.is_terminating_stmt-is_terminating_list-requires
is_terminating_stmt-is_terminating_list-requires t c =
    list-call (known (goal.at.is_terminating_stmt-is_terminating_list-requires t c).After-size) c.in-Block.ensures

pub is_terminating_stmt-returns-then-not-with_else : goal.is_terminating_stmt-returns-then-not-with_else
is_terminating_stmt-returns-then-not-with_else t c =
    if-answer (known (goal.at.is_terminating_stmt-returns-then-not-with_else t c).After-size) c.in-If.ensures c.is_marked-with_else.ensures
    c.if-not-with_else.true

pub is_terminating_stmt-is_terminating_stmt-requires-in-If : goal.is_terminating_stmt-is_terminating_stmt-requires-in-If
is_terminating_stmt-is_terminating_stmt-requires-in-If t c =
    then-call (known (goal.at.is_terminating_stmt-is_terminating_stmt-requires-in-If t c).After-size) c.in-If.ensures c.is_marked-with_else.ensures
    c.if-not-with_else.false

pub is_terminating_stmt-returns-then-not-is_terminating_stmt : goal.is_terminating_stmt-returns-then-not-is_terminating_stmt
is_terminating_stmt-returns-then-not-is_terminating_stmt t c =
    first-no (known (goal.at.is_terminating_stmt-returns-then-not-is_terminating_stmt t c).After-size) c.in-If.ensures c.is_marked-with_else.ensures
    c.if-not-with_else.false c.is_terminating_stmt-in-If.ensures c.if-not-is_terminating_stmt.true

pub is_terminating_stmt-size-requires-in-If : goal.is_terminating_stmt-size-requires-in-If
is_terminating_stmt-size-requires-in-If t c =
    (then-call (known (goal.at.is_terminating_stmt-size-requires-in-If t c).After-size) c.in-If.ensures c.is_marked-with_else.ensures
    c.if-not-with_else.false).1.0

pub is_terminating_stmt-overflow_add-els : goal.is_terminating_stmt-overflow_add-els
is_terminating_stmt-overflow_add-els t c =
    omega (
      arith,
      else-fits (known (goal.at.is_terminating_stmt-overflow_add-els t c).After-size) c.in-If.ensures c.is_marked-with_else.ensures
          c.if-not-with_else.false c.size-in-If.ensures,
    )

pub is_terminating_stmt-is_terminating_stmt-requires-in-If-2 : goal.is_terminating_stmt-is_terminating_stmt-requires-in-If-2
is_terminating_stmt-is_terminating_stmt-requires-in-If-2 t c =
    else-call (known (goal.at.is_terminating_stmt-is_terminating_stmt-requires-in-If-2 t c).After-size) c.in-If.ensures c.is_marked-with_else.ensures
    c.if-not-with_else.false c.size-in-If.ensures

pub is_terminating_stmt-is_terminating_switch-requires : goal.is_terminating_stmt-is_terminating_switch-requires
is_terminating_stmt-is_terminating_switch-requires t c =
    switch-call (known (goal.at.is_terminating_stmt-is_terminating_switch-requires t c).After-size) c.kind_at.ensures c.in-Switch.is

pub is_terminating_stmt-is_terminating_switch-requires-in-Select : goal.is_terminating_stmt-is_terminating_switch-requires-in-Select
is_terminating_stmt-is_terminating_switch-requires-in-Select t c =
    select-call (known (goal.at.is_terminating_stmt-is_terminating_switch-requires-in-Select t c).After-size) c.in-Select.ensures

pub is_terminating_stmt-returns-then-with_condition : goal.is_terminating_stmt-returns-then-with_condition
is_terminating_stmt-returns-then-with_condition t c =
    for-answer (known (goal.at.is_terminating_stmt-returns-then-with_condition t c).After-size) c.in-For.ensures c.is_marked-with_condition.ensures
    c.if-with_condition.true

pub is_terminating_stmt-has_break_items-requires : goal.is_terminating_stmt-has_break_items-requires
is_terminating_stmt-has_break_items-requires t c = below (known (goal.at.is_terminating_stmt-has_break_items-requires t c).After-size)

pub is_terminating_stmt-returns-in-Labeled : goal.is_terminating_stmt-returns-in-Labeled
is_terminating_stmt-returns-in-Labeled t c =
    labeled-answer (known (goal.at.is_terminating_stmt-returns-in-Labeled t c).After-size) c.in-Labeled.ensures c.is_terminating_stmt.ensures

pub is_terminating_stmt-returns-in-Expr : goal.is_terminating_stmt-returns-in-Expr
is_terminating_stmt-returns-in-Expr t c = expr-answer (known (goal.at.is_terminating_stmt-returns-in-Expr t c).After-size) c.in-Expr.ensures c.is_marked.ensures

pub is_terminating_stmt-returns-in-Return : goal.is_terminating_stmt-returns-in-Return
is_terminating_stmt-returns-in-Return t c = return-answer (known (goal.at.is_terminating_stmt-returns-in-Return t c).After-size) c.in-Return.ensures

pub is_terminating_stmt-returns-in-Goto : goal.is_terminating_stmt-returns-in-Goto
is_terminating_stmt-returns-in-Goto t c =
    jump-answer (known (goal.at.is_terminating_stmt-returns-in-Goto t c).After-size) c.in-Branch.ensures _ c.branch_at.ensures c.in-Goto.is

pub is_terminating_stmt-returns-in_default-matches : goal.is_terminating_stmt-returns-in_default-matches
is_terminating_stmt-returns-in_default-matches t c =
    leave-answer (known (goal.at.is_terminating_stmt-returns-in_default-matches t c).After-size) c.in-Branch.ensures _ c.branch_at.ensures
    c.in_default-matches.not-Goto c.in_default-matches.not-Fallthrough

pub is_terminating_stmt-returns-in-Block : goal.is_terminating_stmt-returns-in-Block
is_terminating_stmt-returns-in-Block t c =
    list-answer (known (goal.at.is_terminating_stmt-returns-in-Block t c).After-size) c.in-Block.ensures c.is_terminating_list.ensures

pub is_terminating_stmt-returns-else-not-is_terminating_stmt : goal.is_terminating_stmt-returns-else-not-is_terminating_stmt
is_terminating_stmt-returns-else-not-is_terminating_stmt t c =
    both-parts (known (goal.at.is_terminating_stmt-returns-else-not-is_terminating_stmt t c).After-size) c.in-If.ensures c.is_marked-with_else.ensures
    c.if-not-with_else.false c.is_terminating_stmt-in-If.ensures c.if-not-is_terminating_stmt.false c.size-in-If.ensures c.is_terminating_stmt-in-If-2.ensures

pub is_terminating_stmt-returns-else-with_condition : goal.is_terminating_stmt-returns-else-with_condition
is_terminating_stmt-returns-else-with_condition t c =
    loop-answer (known (goal.at.is_terminating_stmt-returns-else-with_condition t c).After-size) c.in-For.ensures c.is_marked-with_condition.ensures
    c.if-with_condition.false c.has_break_items.ensures

pub is_terminating_stmt-returns-in_default : goal.is_terminating_stmt-returns-in_default
is_terminating_stmt-returns-in_default t c = other-answer (known (goal.at.is_terminating_stmt-returns-in_default t c).After-size) _ c.kind_at.ensures (search rules)

-- ---- the list rule
pub is_terminating_list-last_item-requires : goal.is_terminating_list-last_item-requires
is_terminating_list-last_item-requires t c =
    let f = facts_of c.args.body.now in
    (f.sized, f.details, one-row-empties f, c.requires.0)

pub is_terminating_list-is_terminating_stmt-requires : goal.is_terminating_list-is_terminating_stmt-requires
is_terminating_list-is_terminating_stmt-requires t c =
    last-call (facts_of c.args.body.now) c.decreases c.requires.0 c.requires.1 c.requires.2 c.in-Some.ensures

pub is_terminating_list-returns-in-Some : goal.is_terminating_list-returns-in-Some
is_terminating_list-returns-in-Some t c = last-answer (facts_of c.args.body.now) c.requires.0 c.in-Some.ensures c.is_terminating_stmt.ensures

pub is_terminating_list-returns-in-None : goal.is_terminating_list-returns-in-None
is_terminating_list-returns-in-None t c = sym (list-empty (facts_of c.args.body.now) _ _ c.requires.0 c.in-None.ensures)

-- ---- the rule of a switch
pub is_terminating_switch-loop-c-init : goal.is_terminating_switch-loop-c-init
is_terminating_switch-loop-c-init t c = begin (opened (goal.at.is_terminating_switch-loop-c-init t c).After-size)

pub is_terminating_switch-is_terminating_list-requires : goal.is_terminating_switch-is_terminating_list-requires
is_terminating_switch-is_terminating_list-requires t c =
    clause-call (opened (goal.at.is_terminating_switch-is_terminating_list-requires t c).After-size) c.loop-c.invariant c.loop-c-test.true
    c.size-in-loop-c.ensures

pub is_terminating_switch-returns-then-not-is_terminating_list : goal.is_terminating_switch-returns-then-not-is_terminating_list
is_terminating_switch-returns-then-not-is_terminating_list t c =
    is_open (opened (goal.at.is_terminating_switch-returns-then-not-is_terminating_list t c).After-size) c.loop-c.invariant c.loop-c-test.true
    c.size-in-loop-c.ensures c.is_terminating_list.ensures c.if-not-is_terminating_list.true

pub is_terminating_switch-has_break_items-requires : goal.is_terminating_switch-has_break_items-requires
is_terminating_switch-has_break_items-requires t c =
    let call = clause-call (opened (goal.at.is_terminating_switch-has_break_items-requires t c).After-size) c.loop-c.invariant c.loop-c-test.true
    c.size-in-loop-c.ensures in
    call.1.0

pub is_terminating_switch-returns-then-has_break_items : goal.is_terminating_switch-returns-then-has_break_items
is_terminating_switch-returns-then-has_break_items t c =
    is-left (opened (goal.at.is_terminating_switch-returns-then-has_break_items t c).After-size) c.loop-c.invariant c.loop-c-test.true
    c.size-in-loop-c.ensures c.has_break_items.ensures c.if-has_break_items.true

pub is_terminating_switch-loop-c-preserved : goal.is_terminating_switch-loop-c-preserved
is_terminating_switch-loop-c-preserved t c =
    let o = opened (goal.at.is_terminating_switch-loop-c-preserved t c).After-size in
    let i = c.loop-c.invariant in
    let l = c.loop-c-test.true in
    let default : c.if-default.has_default ≡ c.loop-c.has_default || is_default (class c.args.body.now.rows.now c.loop-c.c) =
    elim c.if-default.branch [
      | is_terminating_switch-then-default w ↦ default-here o i l c.is_marked-default.ensures w.if-default.true w.has_default-is
      | is_terminating_switch-else-default w ↦ default-before o i l c.is_marked-default.ensures w.if-default.false w.has_default-is
    ] in
    next o i l c.size-in-loop-c.ensures c.is_terminating_list.ensures c.if-not-is_terminating_list.false c.has_break_items.ensures
    c.if-has_break_items.false default

pub is_terminating_switch-returns : goal.is_terminating_switch-returns
is_terminating_switch-returns t c =
    ended (opened (goal.at.is_terminating_switch-returns t c).After-size) c.loop-c.invariant c.loop-c-test.false
