-- The invariant: each row from `from` on, before r, is Empty.
-- Assumes nothing.
use Prim.Native.Nat.{◌≤◌}
use Rattle.rules.proofs.Around.{AllEmpty}
use Rattle.placing.proofs.only_empty.Given as goal

abbrev pub invariant-loop-r : goal.invariant-loop-r
invariant-loop-r l = (l.from ≤ l.r) × AllEmpty l.rows l.from l.r
