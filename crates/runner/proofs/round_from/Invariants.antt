-- The loop keeps a place where the walk stands and the steps to it without a fork.
-- Assumes nothing.
use Rattle.rules.specs.Walking.{place_of, Inside}
use Rattle.runner.specs.Rounds.{Goes}
use Rattle.runner.proofs.round_from.Given as goal

abbrev pub invariant-loop-made : goal.invariant-loop-made
invariant-loop-made l =
    let b = l.table.faultless.body in
    Inside b.rows.now (place_of l.here) × Goes b.rows.now b.pairs.now b.bytes.now l.place l.made l.here
