-- How the table of steps is read: a row's steps are as many as its choices, they stand between its first and that of the next row, and all of them in
-- the table.
-- Assumes nothing.
use mathlib.Core.Path.{◌≡◌}
use mathlib.Core.List.{List}
use mathlib.Core.Option.{some}
use Prim.Native.Nat.{ℕ, suc, ◌+◌, ◌<◌}
use native.Mathlib.Omega.{arith}
use lib.ListN.{length, get_or}
use Rattle.rules.specs.Rows.{row_count}
use Rattle.rules.specs.Runner.{at, choices, step}
use Rattle.rules.specs.Walking.{place_of}
use Rattle.steps.specs.StepTable.{StepTable}
use Rattle.steps.proofs.Total.{before_more, before-rises}

module _ {w p b f t : List ℕ} (x : StepTable w p b f t) (r : ℕ) (l : r < row_count w) where
  -- the next row's steps begin where these end
  pub next-first : get_or f (suc r) 0 ≡ get_or f r 0 + choices w p b (at r)
  next-first = omega (arith, x.begins r (omega arith), x.begins (suc r) l, before_more w p b r)

  module _ (c : ℕ) (h : c < choices w p b (at r)) where
    pub step_in : get_or f r 0 + c < length t
    step_in = omega (arith, x.begins r (omega arith), before_more w p b r, before-rises w p b (suc r) (row_count w) l, x.all)

    pub step_is : step w p b (at r) c ≡ some (place_of (get_or t (get_or f r 0 + c) 0))
    step_is = rw (x.begins r (omega arith)) (x.leads r l c h)
