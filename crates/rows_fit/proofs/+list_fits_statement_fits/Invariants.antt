-- The two functions call each other, each on fewer rows: twice the rows of a list, and one more than that of a statement. `Listing` has the turns of the walk
-- through a list, whose invariant is `Listed`, and `Clauses` the defaults among its clauses (`Counted`); `Going` has those of the walk down a statement, whose
-- invariant is `Going`. Each loop's measure is what is left of the rows.
-- Assumes nothing.
use Prim.Native.Nat.{◌+◌, ◌-◌, ◌*◌}
use Rattle.rules.specs.Rows.{size}
use Rattle.rows_fit.proofs.AnyPairs.{some_pairs}
use Rattle.rows_fit.proofs.Listing.{ListedFrom}
use Rattle.rows_fit.proofs.Clauses.{CountedFrom}
use Rattle.rows_fit.proofs.Going.{Going}
use Rattle.rows_fit.proofs.+list_fits_statement_fits.Given as goal

abbrev pub decreases-list_fits : goal.decreases-list_fits
decreases-list_fits l = 2 * size l.rows.now l.row.0

abbrev pub decreases-statement_fits : goal.decreases-statement_fits
decreases-statement_fits l = 2 * size l.rows.now l.row.0 + 1

abbrev pub invariant-list_fits-loop-c : goal.invariant-list_fits-loop-c
invariant-list_fits-loop-c l =
    ListedFrom l.rows (some_pairs l.pair_count) l.initial.c l.end l.c × CountedFrom l.rows l.initial.c l.c l.defaults

abbrev pub decreases-list_fits-loop-c : goal.decreases-list_fits-loop-c
decreases-list_fits-loop-c l = l.end - l.c

abbrev pub invariant-statement_fits-loop-c : goal.invariant-statement_fits-loop-c
invariant-statement_fits-loop-c l = Going l.rows (some_pairs l.pair_count) l.initial.c l.end l.c l.d

abbrev pub decreases-statement_fits-loop-c : goal.decreases-statement_fits-loop-c
decreases-statement_fits-loop-c l = l.end - l.c
