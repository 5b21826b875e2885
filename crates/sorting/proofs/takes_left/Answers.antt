-- `takes_left` meets its contract. Where one part is used up the other has the next number, and else the comparison decides.
-- Assumes nothing.
use Rattle.std.proofs.Common.{rules}
use Rattle.sorting.proofs.Merging.{next-compared}
use Rattle.sorting.proofs.takes_left.Goals as goal

pub returns : goal.returns
returns c = next-compared _ _ _ _ _ _ c.name_before.result (search rules) (search rules) c.name_before.ensures
