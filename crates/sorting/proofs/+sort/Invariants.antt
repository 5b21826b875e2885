-- The measure is the length of `numbers`: each half of two or more is shorter than the whole.
-- The two halves come back sorted and with their elements, so the whole has its two parts sorted and its elements, and merging them does the rest.
-- Assumes nothing.
use lib.ListN.{length}
use Rattle.sorting.proofs.+sort.Given as goal

abbrev pub decreases-sort : goal.decreases-sort
decreases-sort l = length l.numbers.now
