-- A row of the chain is bound, and reported if it stands before the latest declaration: the report goes right before those of the rows after it.
-- Assumes nothing.
use native.Mathlib.Omega.{arith}
use native.Mathlib.Numerals.{add-one}
use Rattle.pending.proofs.Chained.{at-counting, resolve-some, resolve-lower, resolve-put, resolve-no, resolve-ends}
use Rattle.pending.proofs.resolve.Goals as goal
use Rattle.pending.proofs.resolve.Goals.{then-g-latest, else-g-latest}

pub overflow_sub-at : goal.overflow_sub-at
overflow_sub-at c =
    let q = c.requires in
    resolve-some (at-counting q.counting c.loop-g.invariant) q.from c.loop-g-test.true c.if-g-latest.true

pub report-requires : goal.report-requires
report-requires c =
    let q = c.requires in
    let k = at-counting q.counting c.loop-g.invariant in
    let z = resolve-some k q.from c.loop-g-test.true c.if-g-latest.true in
    (omega (arith, k.low, q.head_in, c.loop-g-test.true), omega (arith, k.under, k.same-sheet, q.room))

pub loop-g-smaller : goal.loop-g-smaller
loop-g-smaller c =
    let k = at-counting c.requires.counting c.loop-g.invariant in
    omega (arith, resolve-lower k c.loop-g-test.true, c.from-g.ensures)

pub loop-g-preserved : goal.loop-g-preserved
loop-g-preserved c = λ all last h.
    let q = c.requires in
    let i = c.loop-g.invariant in
    let t = c.loop-g-test.true in
    elim c.if-g-latest.branch [
      | then-g-latest w ↦
          let z = resolve-some (at-counting q.counting i) q.from t w.if-g-latest.true in
          rw (w.sheet-is, w.at-is) (resolve-put (i all last h) t w.if-g-latest.true z c.from-g.ensures w.position-other.ensures w.report.ensures)
      | else-g-latest w ↦ rw (w.sheet-is, w.at-is) (resolve-no (i all last h) t w.if-g-latest.false c.from-g.ensures)
    ]

pub returns : goal.returns
returns c = λ all last h.
    let e = resolve-ends (c.loop-g.invariant all last h) c.loop-g-test.false in
    record { left = e.0; bound = rw (← add-one) e.1; reported = e.2 }
