-- The invariant: the words below r are written. In a turn a Branch is given the place that `destination` finds.
-- Assumes nothing.
use Rattle.destinations.specs.Destinations.{DestinationsBelow}
use Rattle.destinations.proofs.write_destinations.Given as goal

abbrev pub invariant-loop-r : goal.invariant-loop-r
invariant-loop-r l =
    DestinationsBelow l.faultless.body.rows.now l.faultless.body.pairs.now l.faultless.body.bytes.now l.destinations l.r
