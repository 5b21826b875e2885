-- The table of the places, row after row: a Branch has the place that was found for it, any other row has none.
-- Assumes nothing.
use mathlib.Core.Path.{◌≡◌}
use mathlib.Core.Bool.{true, false}
use mathlib.Core.List.{List}
use mathlib.Core.Option.{some}
use Prim.Native.Nat.{ℕ, ◌+◌, ◌<◌}
use native.Mathlib.Omega.{arith}
use native.Mathlib.Decide.{ℕ_discrete}
use lib.ListN.{length, set}
use lib.Seq.{get_or-set_same, get_or-set_other}
use Rattle.rules.specs.Class.{is_branch, class}
use Rattle.rules.specs.Runner.{at, step}
use Rattle.rules.specs.Walking.{place_of}
use Rattle.rules.proofs.Test.{clash}
use Rattle.destinations.specs.Destinations.{DestinationsBelow}

-- t is the table before row r, u the one after it
module _ (w p b t u : List ℕ) (r : ℕ) (below : DestinationsBelow w p b t r) where
  pub branch-more : (x : ℕ) → r < length t → u ≡ set t r x → step w p b (at r) 0 ≡ some (place_of x) → DestinationsBelow w p b u (r + 1)
  branch-more x h i e k l s = elim (ℕ_discrete k r) [
    | yes y ↦ rw (i, y, get_or-set_same t r x 0 h) e
    | no n ↦ rw (i, get_or-set_other t r k x 0 n) (below k (omega arith) s)
  ]

  pub other-more : u ≡ t → is_branch (class w r) ≡ false → DestinationsBelow w p b u (r + 1)
  other-more i f k l s = elim (ℕ_discrete k r) [
    | yes y ↦ let z : is_branch (class w r) ≡ true = rw y at s in absurd (clash (cc))
    | no n ↦ rw i (below k (omega arith) s)
  ]
