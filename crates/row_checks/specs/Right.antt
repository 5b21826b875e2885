-- What one walk down the rows finds: that none of the causes 4, 5, 10 and 6 applies to a row, and to the rows below it.
-- Assumes nothing.
use Rattle.std.specs.Prelude.{◌≡◌, true, false, List, ℕ, suc, ◌≤◌, ◌<◌}
use Rattle.rules.specs.Rows.{row_count, kind, detail, size, end, depth}
use Rattle.rules.specs.Class.{detail_allowed, class}
use Rattle.rules.specs.Refusals.{holding, children_fit, bad_row, bad_size, bad_shape}
use Rattle.rules.specs.Body.{OneDefault}
use Rattle.row_checks.specs.Parts.{item_kind}

-- where the items of the row are clauses, at most one of them is a default
abbrev pub Single : List ℕ → ℕ → Type 0
Single w r = (item_kind (holding (class w r)) ≡ 0 → ⊥) → OneDefault w r

-- none of the causes 4, 5 and 6 applies to the row, nor 10 to its clauses
pub record Right (w p : List ℕ) (r : ℕ) : Type 0 where
  pub allowed : bad_row w p r ≡ false
  pub sized : bad_size w r ≡ false
  pub shaped : bad_shape w r ≡ false
  pub single : Single w r
  pub shallow : depth w r ≤ 100

-- nor do they to the rows below it, which end in it; its children fit
pub record RightBelow (w p : List ℕ) (r : ℕ) : Type 0 where
  pub right : (k : ℕ) → r < k → k < end w r → Right w p k
  pub inside : (k : ℕ) → r < k → k < end w r → end w k ≤ end w r
  pub children : children_fit (size w r) w (holding (class w r)) (end w r) 0 (suc r) ≡ true
  pub single : Single w r

-- what the walk knows of a row when it comes to it: the details of the rows before it are allowed, and it is at most d deep
pub record Met (w : List ℕ) (r d : ℕ) : Type 0 where
  pub row : r < row_count w
  pub most_rows : row_count w ≤ 2000
  pub some_rows : 0 < size w r
  pub within : end w r ≤ row_count w
  pub details : (k : ℕ) → k < r → detail_allowed (kind w k) (detail w k) ≡ true
  pub shallow : depth w r ≤ d
  pub deepest : d ≤ 100
