-- `tables::canon_table` meets its contract. The loop's invariant is `Filling`: the words below `n` are canonical numbers with `_` taken out, those from `n` on
-- still the first name numbers.
-- Assumes nothing.
use Rattle.tables.proofs.Filling.{Filling}
use Rattle.tables.proofs.canon_table.Given as goal

abbrev pub invariant-loop-n : goal.invariant-loop-n
invariant-loop-n l = Filling l.names.pairs.now l.names.bytes.now l.canonical l.n
