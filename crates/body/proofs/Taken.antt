-- The facts of a body are there exactly for words to which no cause applies. So a parameter of the type `Body`, in place of a clause with those facts, asks
-- for no more and no less.
-- Assumes nothing.
use mathlib.Core.Path.{◌≡◌}
use mathlib.Core.List.{List}
use mathlib.Core.Option.{none}
use Prim.Native.Nat.{ℕ}
use Rattle.rules.specs.Refusals.{refusal}
use Rattle.rules.specs.Body.{Body}
use Rattle.rules.proofs.Facts.{body}
use Rattle.body.proofs.Whole.{whole}

pub exactly : (w p b : List ℕ) → (Body w p b → refusal w p b ≡ none) × (refusal w p b ≡ none → Body w p b)
exactly w p b = (whole w p b, body w p b)
