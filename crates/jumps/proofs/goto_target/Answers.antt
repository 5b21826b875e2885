-- The declared label of the goto's name, step by step: each way out is one law of the tables.
-- Assumes nothing.
use native.Mathlib.Omega.{arith}
use Rattle.walk_state.proofs.TableRows.{canon-place, declared-place}
use Rattle.jumps.proofs.EarlierLabel.{no-canon, no-declared, label_after, no-list, list-in, list-ended, list-around}
use Rattle.jumps.proofs.goto_target.Goals as goal

pub canon_of-c-requires : goal.canon_of-c-requires
canon_of-c-requires c = (c.requires.row_bound.0, canon-place c.requires.tables c.args.row.0 c.requires.row_bound.0)

pub returns-then-c-eq0 : goal.returns-then-c-eq0
returns-then-c-eq0 c = no-canon c.requires.tables _ c.requires.row_bound.0 c.canon_of-c.ensures c.if-c-eq0.true

pub offset_bounds-tables-c : goal.offset_bounds-tables-c
offset_bounds-tables-c c = omega (arith, declared-place c.requires.tables _ _ c.requires.row_bound.0 c.canon_of-c.ensures)

pub bounds-tables-c : goal.bounds-tables-c
bounds-tables-c c = declared-place c.requires.tables _ _ c.requires.row_bound.0 c.canon_of-c.ensures

pub returns-in_err-label : goal.returns-in_err-label
returns-in_err-label c =
    rw c.from_residual.ensures
    (no-declared c.requires.tables _ c.requires.row_bound.0 c.canon_of-c.ensures c.if-c-eq0.false c.in_err-label.ensures)

pub returns-then-row-label : goal.returns-then-row-label
returns-then-row-label c =
    label_after c.requires.tables _ c.requires.row_bound.0 c.canon_of-c.ensures c.if-c-eq0.false _ c.in_ok-label.ensures c.if-row-label.true

pub returns-in_err-list : goal.returns-in_err-list
returns-in_err-list c =
    rw c.from_residual-in_err-list.ensures
    (no-list c.requires.tables _ c.requires.row_bound.0 c.canon_of-c.ensures c.if-c-eq0.false _ c.in_ok-label.ensures c.if-row-label.false
    c.in_err-list.ensures)

pub size-requires : goal.size-requires
size-requires c =
    list-in c.requires.tables _ c.requires.row_bound.0 c.canon_of-c.ensures c.if-c-eq0.false _ c.in_ok-label.ensures c.if-row-label.false _
    c.in_ok-list.ensures

pub returns-then-list-size : goal.returns-then-list-size
returns-then-list-size c =
    list-ended c.requires.tables _ c.requires.row_bound.0 c.canon_of-c.ensures c.if-c-eq0.false _ c.in_ok-label.ensures c.if-row-label.false _
    c.in_ok-list.ensures _ c.size.ensures c.if-list-size.true

pub returns : goal.returns
returns c =
    list-around c.requires.tables _ c.requires.row_bound.0 c.canon_of-c.ensures c.if-c-eq0.false _ c.in_ok-label.ensures c.if-row-label.false _
    c.in_ok-list.ensures _ c.size.ensures c.if-list-size.false
