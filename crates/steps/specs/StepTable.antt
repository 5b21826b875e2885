-- The steps of all rows in two tables: where each row's begin, and the places that they lead to, in the order of the choices.
-- Assumes nothing.
use Rattle.std.specs.Prelude.{◌≡◌, List, ℕ, zero, suc, ◌+◌, ◌≤◌, ◌<◌, length, get_or}
use Rattle.std.proofs.Math.Option.{some}
use Rattle.rules.specs.Rows.{row_count}
use Rattle.rules.specs.Runner.{at, choices, step}
use Rattle.rules.specs.Walking.{place_of}

module _ (w p b : List ℕ) where
  -- how many steps the rows before r have
  unfoldable pub steps_before : ℕ → ℕ
  steps_before zero = 0
  steps_before (suc r) = steps_before r + choices w p b (at r)

  -- the steps of row r stand in the list from `first` on
  abbrev pub StepsOf : List ℕ → ℕ → ℕ → Type 0
  StepsOf t r first = (c : ℕ) → c < choices w p b (at r) → step w p b (at r) c ≡ some (place_of (get_or t (first + c) 0))

  pub record StepTable (firsts steps : List ℕ) : Type 0 where
    pub room : row_count w < length firsts
    pub begins : (r : ℕ) → r ≤ row_count w → get_or firsts r 0 ≡ steps_before r
    pub all : steps_before (row_count w) ≤ length steps
    pub leads : (r : ℕ) → r < row_count w → StepsOf steps r (steps_before r)
