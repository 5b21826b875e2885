-- The parent of each row.
-- Assumes nothing.
use Rattle.std.specs.Prelude.{◌≡◌, List, ℕ, suc, ◌<◌, get_or}
use Rattle.rules.specs.Rows.{row_count, parent, Child}
use Rattle.rules.specs.Labels.{word}

-- each row's word is 1 + its parent; 0 for row 0
abbrev pub Parents : List ℕ → List ℕ → Type 0
Parents w t = (r : ℕ) → r < row_count w → get_or t r 0 ≡ word (parent w r)

-- row 0 and the children of the rows before k have theirs
pub record ParentsTo (w t : List ℕ) (k : ℕ) : Type 0 where
  pub root : get_or t 0 0 ≡ 0
  pub below : (r c : ℕ) → r < k → Child w r c → get_or t c 0 ≡ suc r
