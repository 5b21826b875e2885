-- The loop's invariant: an input that hasn't ended is still counted, and what is counted and what is left are together as long as what was left at first. The measure is what is left to count, and nothing for an input that has ended.
-- Assumes nothing.
use mathlib.Core.Path.{◌≡◌}
use mathlib.Core.Bool.{false, true}
use Prim.Native.Nat.{◌<◌}
use lib.ListN.{length as length_of}
use Rattle.std.specs.Io.KnownBytes.{IsAtEnd}
use Rattle.input.specs.Reads.{uncounted}
use Rattle.input.proofs.Lengths.{left_to_count}
use Rattle.filter.proofs.Whole.{Counting}
use Rattle.filter.proofs.whole_length.Given as goal

abbrev pub invariant-loop-input : goal.invariant-loop-input
invariant-loop-input g l =
    (65536 ≡ length_of l.piece) × (l.input.ended ≡ false → l.input.length < uncounted)
    × ((l.initial.input.ended ≡ true → IsAtEnd (g.R.Read.remaining l.fn.from)) → Counting l.initial.input.length (g.R.Read.remaining l.fn.from) (g.R.Read.remaining l.from) l.input.length l.input.ended)

abbrev pub decreases-loop-input : goal.decreases-loop-input
decreases-loop-input g l = left_to_count l.input.length l.input.ended
