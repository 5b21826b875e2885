-- Each call asks and leaves what the laws of LabelStep.antt say: the label's own work, the chain of its number's pending gotos, and the state after them.
-- Assumes nothing.
use native.Mathlib.Omega.{arith}
use Rattle.walk_state.proofs.TableRows.{canon-place, declared-place}
use Rattle.pending.proofs.LabelStep.{declared-row, repeats-fit, declare-leaves, left-within, head-place, the-chain, counting-asks, end_fits}
use Rattle.pending.proofs.LabelStep.{resolve-asks, label-walked}
use Rattle.pending.proofs.label_branches.Goals as goal

pub canon_of-c-requires : goal.canon_of-c-requires
canon_of-c-requires c =
    let h = c.requires.row_bound.0 in (h, canon-place c.requires.tables _ h)

pub offset_bounds-tables-c : goal.offset_bounds-tables-c
offset_bounds-tables-c c =
    omega (arith, declared-place c.requires.tables _ _ c.requires.row_bound.0 c.canon_of-c.ensures)

pub bounds-tables-c : goal.bounds-tables-c
bounds-tables-c c = declared-place c.requires.tables _ _ c.requires.row_bound.0 c.canon_of-c.ensures

pub declare-more-requires-clause-declared_nonzero : goal.declare-more-requires-clause-declared_nonzero
declare-more-requires-clause-declared_nonzero c = declared-row c.requires c.canon_of-c.ensures c.from.ensures

pub declare-more-requires-clause-faults_in_bounds : goal.declare-more-requires-clause-faults_in_bounds
declare-more-requires-clause-faults_in_bounds c = repeats-fit c.requires c.canon_of-c.ensures c.from.ensures

pub offset_bounds-heads-c : goal.offset_bounds-heads-c
offset_bounds-heads-c c = omega (arith, head-place c.requires c.canon_of-c.ensures)

pub bounds-heads-c : goal.bounds-heads-c
bounds-heads-c c = head-place c.requires c.canon_of-c.ensures

pub count_jumps_over-requires : goal.count_jumps_over-requires
count_jumps_over-requires c = counting-asks c.requires c.canon_of-c.ensures c.from-list.ensures c.from-head.ensures

pub overflow_add-end : goal.overflow_add-end
overflow_add-end c =
    let own = declare-leaves c.requires c.canon_of-c.ensures c.from.ensures c.declare-more.ensures in
    let chain = the-chain c.requires c.canon_of-c.ensures c.from-list.ensures c.from-head.ensures in
    let fits = end_fits c.requires c.canon_of-c.ensures c.from-list.ensures c.from-head.ensures own (c.count_jumps_over.ensures _ _ chain) in
    omega (arith, fits, c.declare-more.auto)

pub resolve-left-requires : goal.resolve-left-requires
resolve-left-requires c =
    let own = declare-leaves c.requires c.canon_of-c.ensures c.from.ensures c.declare-more.ensures in
    let chain = the-chain c.requires c.canon_of-c.ensures c.from-list.ensures c.from-head.ensures in
    resolve-asks c.requires c.canon_of-c.ensures c.from-list.ensures c.from-head.ensures own (c.count_jumps_over.ensures _ _ chain)

pub overflow_cast-heads : goal.overflow_cast-heads
overflow_cast-heads c =
    let chain = the-chain c.requires c.canon_of-c.ensures c.from-list.ensures c.from-head.ensures in
    omega (
      arith,
      (c.resolve-left.ensures _ _ chain).left,
      left-within c.requires,
      c.requires.tables.body.most_rows,
      c.requires.row_bound.0,
    )

pub offset_bounds-heads-c-2 : goal.offset_bounds-heads-c-2
offset_bounds-heads-c-2 c = omega (arith, head-place c.requires c.canon_of-c.ensures)

pub bounds-heads-c-2 : goal.bounds-heads-c-2
bounds-heads-c-2 c = head-place c.requires c.canon_of-c.ensures

pub returns : goal.returns
returns c =
    let own = declare-leaves c.requires c.canon_of-c.ensures c.from.ensures c.declare-more.ensures in
    let chain = the-chain c.requires c.canon_of-c.ensures c.from-list.ensures c.from-head.ensures in
    label-walked c.requires c.canon_of-c.ensures c.from-list.ensures c.from-head.ensures own (c.count_jumps_over.ensures _ _ chain)
    (c.resolve-left.ensures _ _ chain)
