-- The two lengths are tested, and `faults` writes both.
-- Assumes nothing.
use Rattle.label.proofs.CallRows.{call-short-sheet, call-short-bindings, call-answered}
use Rattle.label.proofs.labels_of.Goals as goal

pub returns-then-sheet-count : goal.returns-then-sheet-count
returns-then-sheet-count c =
    let q = call-short-sheet _ _ _ _ _ c.args.body.well_formed c.if-sheet-count.true in
    record { answer = q.0; sheet = q.1.0; bindings = q.1.1 }

pub returns-then-bindings-count : goal.returns-then-bindings-count
returns-then-bindings-count c =
    let q = call-short-bindings _ _ _ _ _ c.args.body.well_formed c.if-sheet-count.false c.if-bindings-count.true in
    record { answer = q.0; sheet = q.1.0; bindings = q.1.1 }

pub returns : goal.returns
returns c =
    let q = call-answered _ _ _ _ _ c.args.body.well_formed _ _ _ c.if-sheet-count.false c.if-bindings-count.false c.faults.ensures in
    record { answer = q.0; sheet = q.1.0; bindings = q.1.1 }
