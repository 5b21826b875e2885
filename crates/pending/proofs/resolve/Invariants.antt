-- The invariant: the links lead on from `g`, and to finish with what is left of the chain gives the sheet and the bindings that the whole chain gives.
-- The measure is `g`: each link leads lower.
-- Assumes nothing.
use mathlib.Core.List.{List}
use Prim.Native.Nat.{ℕ, ◌+◌}
use Rattle.pending.specs.Chain.{Chain}
use Rattle.pending.proofs.Chained.{Resolves}
use Rattle.pending.proofs.resolve.Given as goal

abbrev pub invariant-loop-g : goal.invariant-loop-g
invariant-loop-g l =
    (all : List ℕ) (last : ℕ) → Chain l.goto_or_label l.list l.head all last
    → Resolves l.rows l.initial.sheet l.initial.bindings l.goto_or_label l.sheet l.bindings l.head l.list l.latest l.end (l.row.0 + 1) l.at l.g all last

abbrev pub decreases-loop-g : goal.decreases-loop-g
decreases-loop-g l = l.g
