-- Scans over the numbers below a bound: the lowest that passes a test, the highest, and how many do.
-- Assumes nothing.
use Rattle.std.specs.Prelude.{Bool, true, false, ℕ, zero, suc}
use Rattle.std.proofs.Math.Option.{Option, none, some}

-- the lowest number below n that passes
unfoldable pub lowest : (ℕ → Bool) → ℕ → Option ℕ
lowest P zero = none
lowest P (suc n) = elim (lowest P n) [ some k ↦ some k | none ↦ elim (P n) [ true ↦ some n | false ↦ none ] ]

-- the highest number below n that passes
unfoldable pub highest : (ℕ → Bool) → ℕ → Option ℕ
highest P zero = none
highest P (suc n) = elim (P n) [ true ↦ some n | false ↦ highest P n ]

-- how many numbers below n pass
unfoldable pub how_many : (ℕ → Bool) → ℕ → ℕ
how_many P zero = 0
how_many P (suc n) = elim (P n) [ true ↦ suc (how_many P n) | false ↦ how_many P n ]
