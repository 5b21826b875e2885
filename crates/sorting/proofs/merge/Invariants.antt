-- `merge` meets its contract. The loop's invariant is `Merging`: what is written is sorted, comes after nothing that is left,
-- and with what is left has the elements of `numbers`.
-- Assumes nothing.
use Rattle.sorting.proofs.Merging.{Merging}
use Rattle.sorting.proofs.merge.Given as goal

abbrev pub invariant-loop-next : goal.invariant-loop-next
invariant-loop-next l = Merging l.names.pairs.now l.names.bytes.now l.numbers l.out l.mid l.i l.j l.next-index
