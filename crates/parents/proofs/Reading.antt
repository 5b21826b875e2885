-- How the table of the parents is read: the word of a row other than row 0 is 1 + the row that it is a child of.
-- Assumes nothing.
use mathlib.Core.Path.{◌≡◌, ◌∙◌, ap}
use mathlib.Core.List.{List}
use Prim.Native.Nat.{ℕ, suc, ◌-◌, ◌<◌}
use native.Mathlib.Omega.{arith}
use lib.ListN.{get_or}
use Rattle.rules.specs.Rows.{row_count, Child}
use Rattle.rules.specs.Labels.{word}
use Rattle.rules.specs.Body.{Body}
use Rattle.parents.specs.Parents.{Parents}

pub parent-word : {w p b : List ℕ} → Body w p b → (t : List ℕ) (r v : ℕ) → Parents w t → 0 < r → r < row_count w → v ≡ get_or t r 0
    → (0 < v) × (v - 1 < r) × Child w (v - 1) r
parent-word {w} body t r v a h l e =
    let (k, f, g, i) = body.parent_child r h l in
    let s : v ≡ suc k = e ∙ a r l ∙ ap word f in
    let q : v - 1 ≡ k = omega arith in
    (omega arith, omega arith, rw q i)
