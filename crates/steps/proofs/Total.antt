-- How many steps the rows before a row have: the number rises, and it is 3 a row at most, two for each row and one for each clause, which is a child of
-- one row only.
-- Assumes nothing.
use mathlib.Core.Path.{◌≡◌, refl}
use mathlib.Core.List.{List}
use Prim.Native.Nat.{ℕ, zero, suc, ◌+◌, ◌*◌, ◌≤◌}
use native.Mathlib.Omega.{arith}
use native.Mathlib.Decide.{ℕ_discrete}
use Rattle.rules.specs.Scan.{how_many}
use Rattle.rules.specs.Rows.{row_count}
use Rattle.rules.specs.Body.{Body}
use Rattle.rules.specs.Runner.{at, choices}
use Rattle.rules.proofs.Scan.{how_many-most}
use Rattle.steps.specs.StepTable.{steps_before}
use Rattle.steps.proofs.Choices.{is_child_below, children-more, most-choices}

module _ (w p b : List ℕ) where
  pub before-none : steps_before w p b 0 ≡ 0
  unfolding steps_before
  before-none = refl

  pub before_more : (r : ℕ) → steps_before w p b (suc r) ≡ steps_before w p b r + choices w p b (at r)
  unfolding steps_before
  before_more r = refl

  pub before-rises : (q r : ℕ) → q ≤ r → steps_before w p b q ≤ steps_before w p b r
  before-rises q zero h = rw (let z : q ≡ 0 = omega arith in z) (omega arith)
  before-rises q (suc r) h = elim (ℕ_discrete q (suc r)) [
    | yes z ↦ rw z (omega arith)
    | no z ↦ omega (arith, before-rises q r (omega arith), before_more r)
  ]

module _ {w p b : List ℕ} (body : Body w p b) where
  rows-most : (r : ℕ) → r ≤ row_count w → steps_before w p b r ≤ r + r + how_many (is_child_below w (suc r)) (row_count w)
  rows-most zero h = omega (arith, before-none w p b)
  rows-most (suc r) h =
      omega (arith, before_more w p b r, rows-most r (omega arith), most-choices body r h, children-more w (suc r) (row_count w))

  pub steps-most : steps_before w p b (row_count w) ≤ row_count w * 3
  steps-most = omega (arith, rows-most (row_count w) (omega arith), how_many-most (is_child_below w (suc (row_count w))) (row_count w))
