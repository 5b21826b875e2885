use Rattle.std.proofs.Common.{arith}
use Rattle.sorting.proofs.Merging.{merge-start, merge-left, merge-right, merge-end}
use Rattle.sorting.proofs.merge.Goals as goal
use Rattle.sorting.proofs.merge.Goals.{then-takes_left, else-takes_left}

pub loop-next-init : goal.loop-next-init
loop-next-init c = merge-start _ _ _ _ c.requires.mid_in_bounds.0 _ c.requires.mid_in_bounds.1

pub loop-next-preserved : goal.loop-next-preserved
loop-next-preserved c =
    elim c.if-takes_left.branch [
      | then-takes_left w ↦
          rw (w.out-is, w.i-is, w.j-is)
          (merge-left _ _ _ _ c.requires.mid_in_bounds.0 c.requires.sorted.0 c.requires.sorted.1 _ _ _ _ c.loop-next.invariant
          (rw w.if-takes_left.true at c.takes_left.ensures))
      | else-takes_left w ↦
          rw (w.out-is, w.i-is, w.j-is)
          (merge-right _ _ _ _ c.requires.mid_in_bounds.0 c.requires.sorted.0 c.requires.sorted.1 _ _ _ _ c.loop-next.invariant
          (rw w.if-takes_left.false at c.takes_left.ensures))
    ]

pub returns : goal.returns
returns c = merge-end _ _ _ _ c.requires.mid_in_bounds.0 _ _ _ _ c.loop-next.invariant (omega arith)
