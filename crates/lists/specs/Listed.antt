-- The Block, Case or Comm that each row stands in.
-- Assumes nothing.
use Rattle.std.specs.Prelude.{◌≡◌, true, List, ℕ, ◌-◌, ◌≤◌, ◌<◌, get_or}
use Rattle.rules.specs.Rows.{row_count, end}
use Rattle.rules.specs.Class.{class}
use Rattle.rules.specs.Scope.{holds_items, innermost}
use Rattle.rules.specs.Labels.{word}

-- each of the first x words is 1 + the innermost such row around its row, or 0
abbrev pub ListedBelow : List ℕ → List ℕ → ℕ → Type 0
ListedBelow w l x = (r : ℕ) → r < x → get_or l r 0 ≡ word (innermost w holds_items r)

-- so is each row's word
abbrev pub Listed : List ℕ → List ℕ → Type 0
Listed w l = ListedBelow w l (row_count w)

-- `list` is 1 + a row before r that holds items, or 0, and of the rows after that one, before r, those that hold items have ended
pub record Open (w : List ℕ) (list r : ℕ) : Type 0 where
  pub before : list ≤ r
  pub holds : 0 < list → holds_items (class w (list - 1)) ≡ true
  pub ended : (k : ℕ) → list ≤ k → k < r → holds_items (class w k) ≡ true → end w k ≤ r

-- `e` is where the row of `list` ends, unless `list` is 0
abbrev pub EndsAt : List ℕ → ℕ → ℕ → Type 0
EndsAt w list e = 0 < list → e ≡ end w (list - 1)

-- the list in hand before row r, and where it ends
abbrev pub InHand : List ℕ → ℕ → ℕ → ℕ → Type 0
InHand w list e r = Open w list r × EndsAt w list e

-- the list around row r, and where it ends
abbrev pub ListAround : List ℕ → ℕ → ℕ → ℕ → Type 0
ListAround w list e r = (list ≡ word (innermost w holds_items r)) × EndsAt w list e
