-- `numbers_with` meets its contract. The loop's invariant is `Numbering`: the tables stand as they do once the first `n` names are numbered.
-- Assumes nothing.
use Rattle.canonical.proofs.Numbering.{Numbering}
use Rattle.canonical.proofs.numbers_with.Given as goal

abbrev pub invariant-loop-n : goal.invariant-loop-n
invariant-loop-n g l =
    Numbering l.names.pairs.now l.names.bytes.now l.initial.numbers g.row.SLOTS g.row.NAMES l.n l.slots.heads l.slots.next_in_slot l.slots.keys l.numbers
