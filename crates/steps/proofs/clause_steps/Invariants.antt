-- The loop keeps `ClausesTo`: the clauses before c are written, those from c on are left. What is left of the row falls.
-- Assumes nothing.
use mathlib.Core.Path.{◌≡◌}
use Prim.Native.Nat.{◌-◌}
use lib.ListN.{length}
use Rattle.steps.proofs.Turns.{ClausesTo}
use Rattle.steps.proofs.clause_steps.Given as goal

abbrev pub invariant-loop-c : goal.invariant-loop-c
invariant-loop-c l = (length l.steps ≡ length l.initial.steps) × ClausesTo l.rows l.initial.steps l.steps l.r l.first l.c l.end l.default

abbrev pub decreases-loop-c : goal.decreases-loop-c
decreases-loop-c l = l.stop - l.c
