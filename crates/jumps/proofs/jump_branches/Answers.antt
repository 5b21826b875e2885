-- A Branch row by its name and detail: without a label nothing, a fallthrough one fault, a goto and a break by their own work.
-- Assumes nothing.
use mathlib.Core.Path.{sym, ◌∙◌}
use native.Mathlib.Omega.{arith}
use Rattle.jumps.proofs.BranchRows.{detail-goto, detail-others}
use Rattle.jumps.proofs.BranchSteps.{faults-small, unlabelled, fallthrough-fits, fallthrough-walked}
use Rattle.jumps.proofs.jump_branches.Goals as goal

pub returns-then-name-eq0 : goal.returns-then-name-eq0
returns-then-name-eq0 c =
    unlabelled c.requires.tables _ _ _ _ _ _ c.requires.row_bound.0 c.requires.walking c.requires.row_bound.1
    (sym c.name-name.ensures ∙ c.if-name-eq0.true)

pub goto_branches-requires-clause-row_bound : goal.goto_branches-requires-clause-row_bound
goto_branches-requires-clause-row_bound c =
    let (h, t) = c.requires.row_bound in
    (h, detail-goto _ _ (c.requires.tables.body.details _ h) t (sym c.detail-detail.ensures ∙ c.if-detail-from.true ∙ c.from.ensures))

pub report-requires : goal.report-requires
report-requires c =
    let (h, t) = c.requires.row_bound in (
      h,
      fallthrough-fits c.requires.tables _ _ _ _ _ _ h c.requires.walking t (sym c.from-2.ensures ∙ sym c.if-detail-from-2.true ∙ c.detail-detail.ensures)
          (omega (arith, c.name-name.ensures, c.if-name-eq0.false)),
    )

pub overflow_add-result : goal.overflow_add-result
overflow_add-result c = omega (arith, faults-small c.requires.tables _ _ _ _ _ _ c.requires.row_bound.0 c.requires.walking)

pub returns-then-detail-from-2 : goal.returns-then-detail-from-2
returns-then-detail-from-2 c =
    let (h, t) = c.requires.row_bound in
    fallthrough-walked c.requires.tables _ _ _ _ _ _ h c.requires.walking t (sym c.from-2.ensures ∙ sym c.if-detail-from-2.true ∙ c.detail-detail.ensures)
    (omega (arith, c.name-name.ensures, c.if-name-eq0.false)) _ c.report.ensures

pub break_branches-requires-clause-row_bound : goal.break_branches-requires-clause-row_bound
break_branches-requires-clause-row_bound c =
    let (h, t) = c.requires.row_bound in
    let k = detail-others _ _ (c.requires.tables.body.details _ h) t
    (λ e. c.if-detail-from.false (c.detail-detail.ensures ∙ e ∙ sym c.from.ensures))
    (λ e. c.if-detail-from-2.false (c.detail-detail.ensures ∙ e ∙ sym c.from-2.ensures)) in
    (h, k, omega (arith, c.name-name.ensures, c.if-name-eq0.false))
