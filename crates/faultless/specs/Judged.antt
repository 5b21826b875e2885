-- What is found out for refusal 8: whether the sheet is empty and no row badly placed; and, on the way, the bindings.
-- Assumes nothing.
use Rattle.std.specs.Prelude.{◌≡◌, Bool, not, List, ℕ}
use Rattle.rules.specs.Walking.{is_faulty}
use Rattle.destinations.specs.Destinations.{Bound}

pub record Judged (w p b bindings : List ℕ) (faultless : Bool) : Type 0 where
  pub judged : faultless ≡ not (is_faulty w p b)
  pub bound : Bound w p b bindings
