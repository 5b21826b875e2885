-- A detail that is allowed is below 4: if it is none of 0, 1 and 2, it is 3.
-- Assumes nothing.
use native.Mathlib.Omega.{arith}
use Rattle.rules.proofs.Details.{allowed-small}
use Rattle.rows.proofs.branch_at.Goals as goal

pub returns-in_default : goal.returns-in_default
returns-in_default c = omega (arith, c.in_default, c.detail.ensures, (allowed-small _ _ c.requires.allowed).1)
