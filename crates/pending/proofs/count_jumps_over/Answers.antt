-- A row of the chain is counted if it stands before the latest declaration. No chain has more rows than the word that it begins with.
-- Assumes nothing.
use native.Mathlib.Omega.{arith}
use Rattle.pending.proofs.Chained.{at-counting, count-few, count_yes, count_no, count-ends}
use Rattle.pending.proofs.count_jumps_over.Goals as goal
use Rattle.pending.proofs.count_jumps_over.Goals.{then-g-latest, else-g-latest}

pub overflow_add-over : goal.overflow_add-over
overflow_add-over c =
    let q = c.requires in
    omega (arith, count-few q.chain (at-counting q c.loop-g.invariant), q.room)

pub loop-g-preserved : goal.loop-g-preserved
loop-g-preserved c = λ all last h.
    let k = c.loop-g.invariant all last h in
    let t = c.loop-g-test.true in
    elim c.if-g-latest.branch [
      | then-g-latest w ↦ rw w.over-is (count_yes k t w.if-g-latest.true c.from-g.ensures)
      | else-g-latest w ↦ rw w.over-is (count_no k t w.if-g-latest.false c.from-g.ensures)
    ]

pub returns : goal.returns
returns c = λ all last h. count-ends (c.loop-g.invariant all last h) c.loop-g-test.false
