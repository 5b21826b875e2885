-- The loop's invariant: the faults of the names so far are on the sheet.
-- Assumes nothing.
use Rattle.label_rest.specs.Rest.{Reported}
use Rattle.label_rest.proofs.UnusedRows.{nines_to, up_to}
use Rattle.label_rest.proofs.put_unused.Given as goal

abbrev pub invariant-loop-name : goal.invariant-loop-name
invariant-loop-name l =
    Reported l.at (nines_to l.body.rows.now l.body.pairs.now l.body.bytes.now (up_to l.body.pairs.now l.body.bytes.now l.names l.name-index)) l.initial.sheet l.sheet
