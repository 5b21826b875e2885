-- The child's size is one less than the row's, so it ends where the row ends.
-- Assumes nothing.
use native.Mathlib.Omega.{arith}
use Rattle.row_checks.proofs.PartsFit.{one-child}
use Rattle.row_checks.proofs.parts.child_fits.Goals as goal

pub returns : goal.returns
returns c y = one-child _ _ c.size-size.ensures _ c.size.ensures (omega arith) (omega arith) (c.may_be_child.ensures y)
