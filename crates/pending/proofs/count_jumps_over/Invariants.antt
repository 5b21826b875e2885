-- The invariant: the links lead on from `g`, and what was counted with what is left of the chain makes the whole. The measure is `g`: each link leads lower.
-- Assumes nothing.
use mathlib.Core.List.{List}
use Prim.Native.Nat.{ℕ}
use Rattle.pending.specs.Chain.{Chain}
use Rattle.pending.proofs.Chained.{Counted}
use Rattle.pending.proofs.count_jumps_over.Given as goal

abbrev pub invariant-loop-g : goal.invariant-loop-g
invariant-loop-g l =
    (all : List ℕ) (last : ℕ) → Chain l.goto_or_label l.list l.head all last → Counted l.goto_or_label l.head l.list l.latest l.over l.g all last

abbrev pub decreases-loop-g : goal.decreases-loop-g
decreases-loop-g l = l.g
