-- The body ends before the row does, and the other part has the rows that are left.
-- Assumes nothing.
use native.Mathlib.Omega.{arith}
use Rattle.row_checks.proofs.PartsFit.{two_parts}
use Rattle.row_checks.proofs.parts.branches_fit.Goals as goal

pub returns : goal.returns
returns c y =
    two_parts _ _ c.size-size.ensures c.size-first.ensures (omega arith) (omega arith) c.size.ensures (omega arith)
    (c.may_be_child.ensures c.if-not-may_be_child.false) (c.may_be_child-2.ensures y)
