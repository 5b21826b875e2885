-- The climb starts at the row whose list the branch stands in, and goes on from one such row to the next; at a Block whose label has the branch's
-- number it has found the target, and past the last there is none.
-- Assumes nothing.
use native.Mathlib.Omega.{arith}
use Rattle.rows.specs.declared.kinds.Kind.TheVariants.{Block}
use Rattle.rows.proofs.Numbers.{eq-true, eq-false}
use Rattle.walk_state.proofs.TableRows.{canon-place}
use Rattle.jumps.proofs.ListClimb.{climb-start, no_name, climb-none, climb-in, climb-less, climb-plain, climb-unlabelled, label-in}
use Rattle.jumps.proofs.ListClimb.{climb-other, climb-found}
use Rattle.jumps.proofs.enclosing_target.Goals as goal
use Rattle.jumps.proofs.enclosing_target.Goals.{then-eq+in-Some-found+else-canon_of-c, then-eq+in_default-found, else-eq}

pub canon_of-c-requires : goal.canon_of-c-requires
canon_of-c-requires c = (c.requires.row_bound.0, canon-place c.requires.tables _ c.requires.row_bound.0)

pub returns-then-c-eq0 : goal.returns-then-c-eq0
returns-then-c-eq0 c = no_name c.requires.tables _ c.requires.row_bound.0 c.canon_of-c.ensures c.if-c-eq0.true

pub loop-open-init : goal.loop-open-init
loop-open-init c = climb-start c.requires.tables _ c.requires.row_bound.0 c.canon_of-c.ensures _ c.row_of-open.ensures

pub kind_at-requires : goal.kind_at-requires
kind_at-requires c =
    let h = climb-in c.requires.tables _ c.requires.row_bound.0 c.canon_of-c.ensures _ (rw c.in-Some.is at c.loop-open.invariant) in
    record { row_bound = h; allowed = c.requires.tables.body.details _ h }

pub canon_of-requires : goal.canon_of-requires
canon_of-requires c =
    let h = label-in c.requires.tables _ c.requires.row_bound.0 c.canon_of-c.ensures _ (rw c.in-Some.is at c.loop-open.invariant)
    (eq-true _ Block c.kind_at.ensures c.if-eq.ensures) _ c.requires.block_labels _ c.in-Some-found.ensures in
    (h, canon-place c.requires.tables _ h)

pub returns-then-canon_of-c : goal.returns-then-canon_of-c
returns-then-canon_of-c c =
    climb-found c.requires.tables _ c.requires.row_bound.0 c.canon_of-c.ensures _ (rw c.in-Some.is at c.loop-open.invariant)
    (eq-true _ Block c.kind_at.ensures c.if-eq.ensures) _ c.requires.block_labels _ c.in-Some-found.ensures _ c.canon_of.ensures
    c.if-c-eq0.false c.if-canon_of-c.true

pub offset_bounds-tables-list : goal.offset_bounds-tables-list
offset_bounds-tables-list c =
    omega (
      arith,
      climb-in c.requires.tables _ c.requires.row_bound.0 c.canon_of-c.ensures _ (rw c.in-Some.is at c.loop-open.invariant),
      c.requires.tables.body.most_rows,
    )

pub bounds-tables-list : goal.bounds-tables-list
bounds-tables-list c =
    omega (
      arith,
      climb-in c.requires.tables _ c.requires.row_bound.0 c.canon_of-c.ensures _ (rw c.in-Some.is at c.loop-open.invariant),
      c.requires.tables.lists_room,
    )

pub loop-open-smaller : goal.loop-open-smaller
loop-open-smaller c =
    rw c.in-Some.is
    (climb-less c.requires.tables _ c.requires.row_bound.0 c.canon_of-c.ensures _ (rw c.in-Some.is at c.loop-open.invariant)
    _ c.row_of-open-in-Some.ensures)

pub loop-open-preserved : goal.loop-open-preserved
loop-open-preserved c =
    let next = c.row_of-open-in-Some.ensures in
    elim c.if-eq.branch [
      | then-eq+in-Some-found+else-canon_of-c w ↦
          climb-other c.requires.tables _ c.requires.row_bound.0 c.canon_of-c.ensures _ (rw c.in-Some.is at c.loop-open.invariant)
          (eq-true _ Block c.kind_at.ensures w.if-eq.ensures) _ c.requires.block_labels _ w.in-Some-found.ensures _ w.canon_of.ensures _ next
          w.if-canon_of-c.false
      | then-eq+in_default-found w ↦
          climb-unlabelled c.requires.tables _ c.requires.row_bound.0 c.canon_of-c.ensures _ (rw c.in-Some.is at c.loop-open.invariant)
          (eq-true _ Block c.kind_at.ensures w.if-eq.ensures) _ c.requires.block_labels w.in_default-found.ensures _ next
      | else-eq w ↦
          climb-plain c.requires.tables _ c.requires.row_bound.0 c.canon_of-c.ensures _ (rw c.in-Some.is at c.loop-open.invariant) _ next
          (eq-false _ Block c.kind_at.ensures w.if-eq.ensures)
    ]

pub returns : goal.returns
returns c = climb-none c.requires.tables _ c.requires.row_bound.0 c.canon_of-c.ensures (rw c.in_default.is at c.loop-open.invariant)
