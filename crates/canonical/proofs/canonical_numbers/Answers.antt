-- `canonical_numbers` meets its contract: names that are not refused are 500 at most, and so have room in either tables.
-- Assumes nothing.
use Rattle.std.proofs.Common.{arith}
use Rattle.canonical.proofs.Numbering.{number_small}
use Rattle.canonical.proofs.canonical_numbers.Goals as goal

pub numbers_with-requires-else-count-lt32-clause-room : goal.numbers_with-requires-else-count-lt32-clause-room
numbers_with-requires-else-count-lt32-clause-room c = (omega (arith, number_small _ _ c.args.names.ok), c.requires)
