-- A row with the canonical number 0 is `_`, which is no label: nothing changes. Any other is a label, the latest of its list: `labelled` puts it into the
-- list's context and leaves the latest declaration there, which `label_branches` gets.
-- Assumes nothing.
use mathlib.Core.Path.{◌∙◌}
use native.Mathlib.Omega.{arith}
use Rattle.walk_state.proofs.TableRows.{canon-place}
use Rattle.label_walk.proofs.TableSteps.{blank-walked, blank-contexts, labels, label-list, label-latest, labelled}
use Rattle.label_walk.proofs.labeled_branches.Goals as goal

pub canon_of-requires : goal.canon_of-requires
canon_of-requires c =
    let h = c.requires.row_bound.0 in (h, canon-place c.requires.tables _ h)

-- ---- `_`
pub returns-then-canon_of-eq0-clause-walked : goal.returns-then-canon_of-eq0-clause-walked
returns-then-canon_of-eq0-clause-walked c = blank-walked c.requires c.canon_of.ensures c.if-canon_of-eq0.true

pub returns-then-canon_of-eq0-clause-contexts : goal.returns-then-canon_of-eq0-clause-contexts
returns-then-canon_of-eq0-clause-contexts c = blank-contexts c.requires c.canon_of.ensures c.if-canon_of-eq0.true

-- ---- a label
pub overflow_sub-list : goal.overflow_sub-list
overflow_sub-list c = (label-list c.requires c.canon_of.ensures c.if-canon_of-eq0.false c.from-list.ensures).0

pub slice_copy_out-labelled : goal.slice_copy_out-labelled
slice_copy_out-labelled c = omega (arith, label-list c.requires c.canon_of.ensures c.if-canon_of-eq0.false c.from-list.ensures)

pub bounds-contexts-list : goal.bounds-contexts-list
bounds-contexts-list c = omega (arith, label-list c.requires c.canon_of.ensures c.if-canon_of-eq0.false c.from-list.ensures)

pub label_branches-requires-clause-row_bound : goal.label_branches-requires-clause-row_bound
label_branches-requires-clause-row_bound c =
    (c.requires.row_bound.0, labels c.requires c.canon_of.ensures c.if-canon_of-eq0.false)

pub label_branches-requires-clause-latest_value : goal.label_branches-requires-clause-latest_value
label_branches-requires-clause-latest_value c =
    c.from-latest.ensures
    ∙ label-latest c.requires c.canon_of.ensures c.if-canon_of-eq0.false c.from-list.ensures c.labelled-ctx.ensures

pub returns-clause-contexts : goal.returns-clause-contexts
returns-clause-contexts c =
    labelled c.requires c.canon_of.ensures c.if-canon_of-eq0.false c.from-list.ensures c.labelled-ctx.ensures
