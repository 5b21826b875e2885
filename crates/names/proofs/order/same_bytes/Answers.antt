-- `order::same_bytes` meets its contract: slice equality compares byte by byte, as the rules do.
-- Assumes nothing.
use Rattle.std.proofs.Common.{◌∙◌}
use Rattle.names.proofs.Bytes.{pointwise-same}
use Rattle.names.proofs.order.same_bytes.Goals as goal

pub returns : goal.returns
returns c = c.eq.ensures ∙ pointwise-same c.args.a.now c.args.b.now
