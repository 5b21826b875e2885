-- A goto with an earlier label is bound to it; else it is pending, on top of those of its name, or, named `_`, of none.
-- Assumes nothing.
use native.Mathlib.Omega.{arith}
use Rattle.walk_state.proofs.TableRows.{canon-place}
use Rattle.jumps.proofs.BranchSteps.{head-place, label_small, goto-bound, goto-blank, goto-pending}
use Rattle.jumps.proofs.goto_branches.Goals as goal

pub overflow_add-bindings : goal.overflow_add-bindings
overflow_add-bindings c =
    omega (arith, label_small c.requires.tables _ _ _ _ _ _ c.requires.row_bound.0 c.requires.walking c.requires.row_bound.1 _ c.in-Some.ensures)

pub overflow_cast-bindings : goal.overflow_cast-bindings
overflow_cast-bindings c =
    omega (arith, label_small c.requires.tables _ _ _ _ _ _ c.requires.row_bound.0 c.requires.walking c.requires.row_bound.1 _ c.in-Some.ensures)

pub returns-in-Some : goal.returns-in-Some
returns-in-Some c =
    goto-bound c.requires.tables _ _ _ _ _ _ c.requires.row_bound.0 c.requires.walking c.requires.row_bound.1 _ c.in-Some.ensures

pub canon_of-c-requires : goal.canon_of-c-requires
canon_of-c-requires c =
    (c.requires.row_bound.0, canon-place c.requires.tables _ c.requires.row_bound.0)

pub offset_bounds-heads-c : goal.offset_bounds-heads-c
offset_bounds-heads-c c =
    omega (arith, head-place c.requires.tables _ _ _ _ _ _ c.requires.row_bound.0 c.requires.walking _ c.canon_of-c.ensures)

pub bounds-heads-c : goal.bounds-heads-c
bounds-heads-c c =
    head-place c.requires.tables _ _ _ _ _ _ c.requires.row_bound.0 c.requires.walking _ c.canon_of-c.ensures

pub offset_bounds-heads-c-then-c-ne0 : goal.offset_bounds-heads-c-then-c-ne0
offset_bounds-heads-c-then-c-ne0 c =
    omega (arith, head-place c.requires.tables _ _ _ _ _ _ c.requires.row_bound.0 c.requires.walking _ c.canon_of-c.ensures)

pub bounds-heads-c-then-c-ne0 : goal.bounds-heads-c-then-c-ne0
bounds-heads-c-then-c-ne0 c =
    head-place c.requires.tables _ _ _ _ _ _ c.requires.row_bound.0 c.requires.walking _ c.canon_of-c.ensures

pub returns-then-c-ne0 : goal.returns-then-c-ne0
returns-then-c-ne0 c =
    goto-pending c.requires.tables _ _ _ _ _ _ c.requires.row_bound.0 c.requires.walking c.requires.row_bound.1 c.in_default.ensures _ c.canon_of-c.ensures
    c.if-c-ne0.true

pub returns-else-c-ne0 : goal.returns-else-c-ne0
returns-else-c-ne0 c =
    goto-blank c.requires.tables _ _ _ _ _ _ c.requires.row_bound.0 c.requires.walking c.requires.row_bound.1 c.in_default.ensures _ c.canon_of-c.ensures
    c.if-c-ne0.false
