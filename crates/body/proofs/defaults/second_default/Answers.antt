-- The first default among the children, then the next one from its end on: `Seconds` says that this is the second, and that there is none where either is
-- missing.
-- Assumes nothing.
use Rattle.body.proofs.Seconds.{first_row, second_is}
use Rattle.body.proofs.defaults.second_default.Goals as goal

pub size-requires-2 : goal.size-requires-2
size-requires-2 c = first_row _ _ c.size.ensures c.in_ok-first.ensures c.requires.2 c.requires.0

pub returns : goal.returns
returns c = second_is _ _ c.size.ensures c.in_ok-first.ensures c.requires.2 c.requires.0 c.size-2.ensures _ c.next_default-2.ensures
