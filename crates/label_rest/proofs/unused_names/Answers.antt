use native.Mathlib.Omega.{arith}
use Rattle.body.proofs.Facts.{facts_of}
use Rattle.label_rest.proofs.LeftRows.{pair-most}
use Rattle.label_rest.proofs.UnusedNames.{collected-start, collected-end, turn-none, turn-used, turn-unused}
use Rattle.label_rest.proofs.unused_names.Goals as goal
use Rattle.label_rest.proofs.unused_names.Goals.{then-label_rows-c-ne0+then-used-c-eq0, else-label_rows-c-ne0}
use Rattle.label_rest.proofs.unused_names.Goals.{else-label_rows-c-ne0-via-then-label_rows-c-ne0+else-used-c-eq0, else-label_rows-c-ne0-via-else-label_rows-c-ne0}

pub loop-c-init : goal.loop-c-init
loop-c-init c = collected-start _ _ _ _

pub overflow_cast-names : goal.overflow_cast-names
overflow_cast-names c = omega (arith, rw c.names.ensures.0 at c.count-c-end.ensures, pair-most (facts_of c.args.body))

pub loop-c-preserved : goal.loop-c-preserved
loop-c-preserved c =
    let (by_canon, uses) = c.requires.body in
    let h = rw c.names.ensures.0 at c.count-c-end.ensures in
    let x = c.loop-c.invariant in
    elim c.if-label_rows-c-ne0.branch [
      | then-label_rows-c-ne0+then-used-c-eq0 w ↦
          rw (w.n-is, w.names-is) (turn-unused (omega arith) x by_canon uses w.if-label_rows-c-ne0.true w.if-used-c-eq0.true (omega arith))
      | else-label_rows-c-ne0 w ↦
          rw (w.n-is, w.names-is)
          elim w.else-label_rows-c-ne0.branch [
            | else-label_rows-c-ne0-via-then-label_rows-c-ne0+else-used-c-eq0 v ↦
                turn-used (omega arith) x by_canon uses v.if-label_rows-c-ne0.true v.if-used-c-eq0.false
            | else-label_rows-c-ne0-via-else-label_rows-c-ne0 v ↦ turn-none (omega arith) x by_canon uses v.if-label_rows-c-ne0.false
          ]
    ]

pub returns : goal.returns
returns c =
    let h = rw c.names.ensures.0 at c.count-c-end.ensures in
    collected-end (facts_of c.args.body) (omega arith) (omega arith) c.loop-c.invariant
