-- `copy` meets its contract. The loop's invariant: the words up to `i` are those of `from`.
-- Assumes nothing.
use mathlib.Core.Path.{◌≡◌}
use Prim.Native.Nat.{ℕ, ◌<◌}
use lib.ListN.{length, get_or}
use Rattle.sorting.proofs.copy.Given as goal

abbrev pub invariant-loop-i : goal.invariant-loop-i
invariant-loop-i l = (length l.to ≡ length l.from) × ((x : ℕ) → x < l.i → get_or l.to x 0 ≡ get_or l.from x 0)
