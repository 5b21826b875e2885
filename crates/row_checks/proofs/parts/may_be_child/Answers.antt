-- What `may_hold` says of the row's kind holds of its class.
-- Assumes nothing.
use Rattle.row_checks.proofs.PartsFit.{told-may}
use Rattle.row_checks.proofs.parts.may_be_child.Goals as goal

pub returns : goal.returns
returns c y = told-may _ _ _ _ c.kind.ensures c.may_hold.ensures y
