-- `name_bytes` meets its contract: the bytes of the name where causes 2 and 3 are ruled out, and no bytes where they are not.
-- Assumes nothing.
use Rattle.names.proofs.Parts.{part_refused}
use Rattle.names.proofs.name_bytes.Goals as goal

pub returns-in-None : goal.returns-in-None
returns-in-None c = part_refused _ _ _ c.in-None.ensures.some.1
