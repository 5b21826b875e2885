-- A row of detail 1 is no Block, and its kind says whether it is a declaration; a row of another detail is no declaration, and its kind says whether it is a
-- Block.
-- Assumes nothing.
use Rattle.rows.specs.declared.kinds.Kind.TheVariants.{Block}
use Rattle.rows.proofs.Numbers.{eq-true, eq-false}
use Rattle.label_walk.proofs.RowWords.{is-declaration, is-block}
use Rattle.label_walk.proofs.PlainRows.{undeclared, unlinked-block, linked-block, marked, unmarked}
use Rattle.label_walk.proofs.plain_branches.Goals as goal

-- ---- detail 1
pub decl_branches-requires-clause-row_bound : goal.decl_branches-requires-clause-row_bound
decl_branches-requires-clause-row_bound c =
    let h = c.requires.row_bound.0 in
    (h, is-declaration c.requires.listing.body h c.if-is_marked.ensures c.kind_at-kind.ensures c.if-may_declare.ensures)

pub returns-then-may_declare-clause-linked : goal.returns-then-may_declare-clause-linked
returns-then-may_declare-clause-linked c = marked c.requires c.if-is_marked.ensures

pub returns-else-may_declare-clause-linked : goal.returns-else-may_declare-clause-linked
returns-else-may_declare-clause-linked c = marked c.requires c.if-is_marked.ensures

pub returns-else-may_declare-clause-contexts : goal.returns-else-may_declare-clause-contexts
returns-else-may_declare-clause-contexts c = undeclared c.requires c.kind_at-kind.ensures c.if-may_declare.ensures

-- ---- another detail
pub set_block_label-requires-clause-row_bound : goal.set_block_label-requires-clause-row_bound
set_block_label-requires-clause-row_bound c =
    let (h, other, room) = c.requires.row_bound in
    (h, is-block c.requires.listing.body h (eq-true _ Block c.kind_at-kind.ensures c.if-eq.ensures), room)

pub returns-then-eq-clause-linked : goal.returns-then-eq-clause-linked
returns-then-eq-clause-linked c = linked-block c.requires (eq-true _ Block c.kind_at-kind.ensures c.if-eq.ensures) c.set_block_label.ensures

pub returns-then-eq-clause-contexts : goal.returns-then-eq-clause-contexts
returns-then-eq-clause-contexts c = unmarked c.requires c.if-is_marked.ensures

pub returns-else-eq-clause-linked : goal.returns-else-eq-clause-linked
returns-else-eq-clause-linked c = unlinked-block c.requires (eq-false _ Block c.kind_at-kind.ensures c.if-eq.ensures)

pub returns-else-eq-clause-contexts : goal.returns-else-eq-clause-contexts
returns-else-eq-clause-contexts c = unmarked c.requires c.if-is_marked.ensures
