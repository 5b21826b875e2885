-- The loop's invariant: the unused labels' numbers below c are collected at the start of the list. Each turn is one law, by whether there is a label, and
-- whether it is used.
-- Assumes nothing.
use Rattle.label_rest.proofs.UnusedNames.{Collected}
use Rattle.label_rest.proofs.unused_names.Given as goal

abbrev pub invariant-loop-c : goal.invariant-loop-c
invariant-loop-c l = Collected l.body.rows.now l.body.pairs.now l.body.bytes.now l.c l.n l.names
