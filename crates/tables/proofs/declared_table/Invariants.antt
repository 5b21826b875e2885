-- `tables::declared_table` meets its contract. The loop's invariant is `Declaring`: the word at each canonical number is that of its first label among the rows
-- passed.
-- Assumes nothing.
use Rattle.tables.proofs.Declaring.{Declaring}
use Rattle.tables.proofs.declared_table.Given as goal

abbrev pub invariant-loop-r : goal.invariant-loop-r
invariant-loop-r l = Declaring l.body.rows.now l.body.pairs.now l.body.bytes.now l.label_rows l.r
