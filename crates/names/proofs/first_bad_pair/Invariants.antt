-- `first_bad_pair` meets its contract. The loop's invariant: no pair below i is bad, and the pair before i ends at `previous_end`.
-- A sum of two words does not wrap, since each is below 2 ^ 32.
-- Assumes nothing.
use Rattle.names.proofs.Passed.{Passed}
use Rattle.names.proofs.first_bad_pair.Given as goal

abbrev pub invariant-loop-i : goal.invariant-loop-i
invariant-loop-i l = Passed l.pairs l.bytes l.i l.previous_end
