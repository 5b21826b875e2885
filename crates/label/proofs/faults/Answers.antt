-- Where no row has a name, as where there are no pairs, nothing is reported and the cleared bindings are right. Else the walk does both, over tables
-- of 0 that have room for the body.
-- Assumes nothing.
use native.Mathlib.Omega.{arith}
use Rattle.body.proofs.Facts.{facts_of}
use Rattle.label_rest.proofs.LeftRows.{pair-most}
use Rattle.label.proofs.NamelessRows.{no_pairs}
use Rattle.label.proofs.CallRows.{nameless-answered}
use Rattle.label.proofs.faults.Goals as goal
use Rattle.label.proofs.faults.Goals.{then-names-eq0-via-then-names-eq0, then-names-eq0-via-else-names-eq0+then-no_names}

pub returns-then-names-eq0 : goal.returns-then-names-eq0
returns-then-names-eq0 c =
    let f = facts_of c.args.body in
    let count = rw c.names.ensures.0 at c.count-names.ensures in
    nameless-answered f _ _ _
    (elim c.then-names-eq0.branch [
      | then-names-eq0-via-then-names-eq0 w ↦ no_pairs f (omega arith)
      | then-names-eq0-via-else-names-eq0+then-no_names w ↦ w.no_names.ensures w.if-no_names.true
    ])
    c.requires.rows_in_bounds.1 c.clear.ensures

pub walk-requires-else-names-lt32-clause-room : goal.walk-requires-else-names-lt32-clause-room
walk-requires-else-names-lt32-clause-room c =
    let f = facts_of c.args.body in
    (omega (arith, pair-most f), f.most_rows)
