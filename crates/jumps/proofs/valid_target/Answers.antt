-- A break needs the row below its target's label to be breakable, a continue a loop; the detail says which of the two the row is.
-- Assumes nothing.
use mathlib.Core.Path.{sym}
use native.Mathlib.Omega.{arith}
use Rattle.rules.proofs.BreakRows.{valid-none}
use Rattle.rows.specs.declared.details.Branch.TheVariants.{Break}
use Rattle.rows.proofs.Branches.{eq-true, eq-false}
use Rattle.jumps.proofs.BranchRows.{break-11, zero-break, not-zero-continue, target_row, valid-break, valid-continue}
use Rattle.jumps.proofs.valid_target.Goals as goal

pub returns-in_default : goal.returns-in_default
returns-in_default c = sym (valid-none _ _ _ _ (sym c.in_default.ensures))

pub overflow_add-label : goal.overflow_add-label
overflow_add-label c =
    omega (arith, target_row c.requires.tables.body _ c.requires.row_bound.0 _ c.in-Some.ensures, c.requires.tables.body.most_rows)

pub kind_at-kind-requires : goal.kind_at-kind-requires
kind_at-kind-requires c =
    let h = target_row c.requires.tables.body _ c.requires.row_bound.0 _ c.in-Some.ensures in
    record { row_bound = h; allowed = c.requires.tables.body.details _ h }

pub branch_at-requires-clause-row_bound : goal.branch_at-requires-clause-row_bound
branch_at-requires-clause-row_bound c =
    let (h, t) = c.requires.row_bound in
    (h, break-11 _ _ (c.requires.tables.body.details _ h) t)

pub returns-then-eq : goal.returns-then-eq
returns-then-eq c =
    let (h, t) = c.requires.row_bound in
    valid-break c.requires.tables.body _ h _ c.in-Some.ensures _ c.kind_at-kind.ensures _
    (zero-break _ _ (c.requires.tables.body.details _ h) t (eq-true _ Break c.branch_at.ensures c.if-eq.ensures)) c.is_breakable.ensures

pub returns-else-eq : goal.returns-else-eq
returns-else-eq c =
    let (h, t) = c.requires.row_bound in
    valid-continue c.requires.tables.body _ h _ c.in-Some.ensures _ c.kind_at-kind.ensures _
    (not-zero-continue _ _ (c.requires.tables.body.details _ h) t (eq-false _ Break c.branch_at.ensures c.if-eq.ensures)) c.is_loop.ensures
