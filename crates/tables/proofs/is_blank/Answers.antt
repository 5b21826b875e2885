-- `tables::is_blank` meets its contract. The part is the name's bytes, and `same_bytes` compares it with `_`, which is byte 95.
-- Assumes nothing.
use Rattle.rules.specs.Names.{is_blank}
use Rattle.tables.proofs.is_blank.Goals as goal

pub returns : goal.returns
unfolding is_blank
returns c = cc (c.same_bytes.ensures, c.bytes_of.ensures)
