-- `first_same` meets its contract. The loop's invariant is `Chain`: `m` is the latest name of the slot among the first names, and none of the others
-- has the bytes of the next name. The measure is `m`: a name is linked to an earlier one.
-- Assumes nothing.
use Rattle.canonical.specs.Hash.{slot_of}
use Rattle.canonical.proofs.Chain.{Chain}
use Rattle.canonical.proofs.Slots.first_same.Given as goal

abbrev pub invariant-loop-m : goal.invariant-loop-m
invariant-loop-m g l = Chain l.names.pairs.now l.names.bytes.now g.row.SLOTS (slot_of g.row.SLOTS l.key) l.n l.m

abbrev pub decreases-loop-m : goal.decreases-loop-m
decreases-loop-m g l = l.m
