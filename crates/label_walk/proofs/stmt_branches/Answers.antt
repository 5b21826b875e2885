-- Each arm is one row of RowSteps.antt by its kind.
-- Assumes nothing.
use mathlib.Core.Path.{refl, sym, ◌∙◌}
use Rattle.rows.specs.declared.kinds.Kind.TheVariants.{Labeled}
use Rattle.rows.proofs.Numbers.{eq-true, eq-false}
use Rattle.label_walk.proofs.RowSteps.{list-passes, label-row, branch-row, branch-contexts, plain-row, plain-walked}
use Rattle.label_walk.proofs.stmt_branches.Goals as goal

-- ---- Branch
pub jump_branches-more-requires-clause-row_bound : goal.jump_branches-more-requires-clause-row_bound
jump_branches-more-requires-clause-row_bound c = branch-row c.requires (sym c.kind.ensures ∙ c.if-kind-from.true ∙ c.from.ensures)

pub returns-then-kind-from-clause-contexts : goal.returns-then-kind-from-clause-contexts
returns-then-kind-from-clause-contexts c = branch-contexts c.requires (sym c.kind.ensures ∙ c.if-kind-from.true ∙ c.from.ensures)

pub returns-then-kind-from-clause-around : goal.returns-then-kind-from-clause-around
returns-then-kind-from-clause-around c = list-passes c.requires (sym c.kind.ensures ∙ c.if-kind-from.true ∙ c.from.ensures) refl

-- ---- Labeled
pub labeled_branches-more-requires-clause-row_bound : goal.labeled_branches-more-requires-clause-row_bound
labeled_branches-more-requires-clause-row_bound c = label-row c.requires (eq-true _ Labeled c.kind_at.ensures c.if-eq.ensures)

pub returns-then-eq-clause-around : goal.returns-then-eq-clause-around
returns-then-eq-clause-around c = list-passes c.requires (eq-true _ Labeled c.kind_at.ensures c.if-eq.ensures) refl

-- ---- the others
pub plain_branches-requires-clause-row_bound : goal.plain_branches-requires-clause-row_bound
plain_branches-requires-clause-row_bound c =
    (c.requires.row_bound.0, plain-row c.requires (eq-false _ Labeled c.kind_at.ensures c.if-eq.ensures), c.requires.walking.block_labels.0)

pub returns-clause-walked : goal.returns-clause-walked
returns-clause-walked c =
    plain-walked c.requires (eq-false _ Labeled c.kind_at.ensures c.if-eq.ensures)
    (λ e. c.if-kind-from.false (c.kind.ensures ∙ e ∙ sym c.from.ensures)) c.plain_branches.ensures.linked
