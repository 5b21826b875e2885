-- A row that is no Branch, or has a label, is not badly placed; where none of the rows is, the search has nothing to find.
-- Assumes nothing.
use mathlib.Core.Path.{◌≡◌, sym}
use mathlib.Core.Bool.{false}
use mathlib.Core.List.{List}
use mathlib.Core.Option.{none}
use Prim.Native.Nat.{ℕ, ◌+◌, ◌<◌, ◌≤◌}
use native.Mathlib.Omega.{arith}
use native.Mathlib.Decide.{ℕ_discrete}
use Rattle.rules.specs.Rows.{row_count}
use Rattle.rules.specs.Body.{Formed}
use Rattle.rules.specs.Placing.{badly_placed, placing}
use Rattle.rules.proofs.Scan.{none-lowest}

-- none of the rows before r is badly placed
abbrev pub NoneBad : List ℕ → ℕ → Type 0
NoneBad w r = (k : ℕ) → k < r → badly_placed w k ≡ false

module _ (w : List ℕ) (r : ℕ) (n : NoneBad w r) where
  pub none_more : false ≡ badly_placed w r → NoneBad w (r + 1)
  none_more e k h = elim (ℕ_discrete k r) [ yes i ↦ rw i (sym e) | no o ↦ n k (omega arith) ]

  pub none_found : Formed w → row_count w ≤ r → placing w ≡ none
  unfolding placing
  none_found f h = none-lowest (badly_placed w) _ (λ k l. n k (omega (arith, f.2.root_size)))
