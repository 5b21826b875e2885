-- The loop keeps the words below r; the word of row 0 is written before it.
-- Assumes nothing.
use mathlib.Core.Path.{◌≡◌}
use Prim.Native.Nat.{◌≤◌, ◌<◌}
use lib.ListN.{length}
use Rattle.rules.specs.Rows.{row_count}
use Rattle.afters.specs.Afters.{AftersBelow}
use Rattle.afters.proofs.afters_of.Given as goal

abbrev pub invariant-loop-r : goal.invariant-loop-r
invariant-loop-r l =
    (0 < l.r) × (row_count l.rows ≤ length l.afters) × (length l.afters ≡ length l.initial.afters) × AftersBelow l.rows l.afters l.r
