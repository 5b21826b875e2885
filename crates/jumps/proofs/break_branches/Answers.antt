-- A labelled break or continue with a valid target is bound to its declared label; else one fault is put, which has its room.
-- Assumes nothing.
use native.Mathlib.Omega.{arith}
use Rattle.rows.proofs.Branches.{is-branch, not-branch}
use Rattle.walk_state.proofs.TableRows.{canon-place, declared-place}
use Rattle.jumps.proofs.BranchRows.{break-11}
use Rattle.jumps.proofs.BranchSteps.{faults-small, break-bound, invalid-fits, break-walked, continue-walked}
use Rattle.jumps.proofs.break_branches.Goals as goal
use Rattle.jumps.proofs.break_branches.Goals.{in-Break, in_default}

pub canon_of-c-requires : goal.canon_of-c-requires
canon_of-c-requires c = (c.requires.row_bound.0, canon-place c.requires.tables _ c.requires.row_bound.0)

pub offset_bounds-tables-c : goal.offset_bounds-tables-c
offset_bounds-tables-c c = omega (arith, declared-place c.requires.tables _ _ c.requires.row_bound.0 c.canon_of-c.ensures)

pub bounds-tables-c : goal.bounds-tables-c
bounds-tables-c c = declared-place c.requires.tables _ _ c.requires.row_bound.0 c.canon_of-c.ensures

pub returns-then-valid_target : goal.returns-then-valid_target
returns-then-valid_target c =
    let (h, k, z) = c.requires.row_bound in
    break-bound c.requires.tables _ _ _ _ _ _ h c.requires.walking k z _ _ c.canon_of-c.ensures c.from.ensures c.if-valid_target.ensures

pub branch_at-requires-clause-row_bound : goal.branch_at-requires-clause-row_bound
branch_at-requires-clause-row_bound c =
    let (h, k, z) = c.requires.row_bound in
    (h, break-11 _ _ (c.requires.tables.body.details _ h) k)

pub report-requires : goal.report-requires
report-requires c =
    let (h, k, z) = c.requires.row_bound in
    (h, invalid-fits c.requires.tables _ _ _ _ _ _ h c.requires.walking k z c.if-valid_target.ensures)

pub overflow_add-result : goal.overflow_add-result
overflow_add-result c = omega (arith, faults-small c.requires.tables _ _ _ _ _ _ c.requires.row_bound.0 c.requires.walking)

pub returns : goal.returns
returns c =
    let (h, k, z) = c.requires.row_bound in
    elim c.match-branch_at.branch [
      | in-Break w ↦
          break-walked c.requires.tables _ _ _ _ _ _ h c.requires.walking k z c.if-valid_target.ensures _
          (is-branch c.branch_at.ensures w.in-Break.is) (rw w.code-is at c.report.ensures)
      | in_default w ↦
          continue-walked c.requires.tables _ _ _ _ _ _ h c.requires.walking k z c.if-valid_target.ensures _
          (not-branch c.branch_at.ensures w.in_default.not-Break) (rw w.code-is at c.report.ensures)
    ]
