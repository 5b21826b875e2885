-- `same` meets its contract: the two parts are the bytes of the two names, and they are compared.
-- Assumes nothing.
use Rattle.std.proofs.Common.{◌∙◌}
use Rattle.names.proofs.Parts.{same_parts}
use Rattle.names.proofs.Names.same.Goals as goal

pub returns : goal.returns
returns c = c.same_bytes.ensures ∙ same_parts _ _ _ _ _ _ c.bytes_of.ensures c.bytes_of-2.ensures
