-- `order::bytes_before` meets its contract. The loop's invariant: both lists are equal up to i, so the lists from i on
-- are in the order of the whole lists.
-- Assumes nothing.
use mathlib.Core.Path.{◌≡◌}
use lib.ListN.{drop}
use Rattle.rules.specs.Names.{bytes_before}
use Rattle.names.proofs.order.bytes_before.Given as goal

abbrev pub invariant-loop-i : goal.invariant-loop-i
invariant-loop-i l = bytes_before l.a l.b ≡ bytes_before (drop l.i l.a) (drop l.i l.b)
