-- What the pass over the rows keeps: how far the rows before it reach, of those whose class passes a test.
-- Assumes nothing.
use Rattle.std.specs.Prelude.{◌≡◌, Bool, true, List, ◌⊎◌, ℕ, ◌≤◌, ◌<◌, length}
use Rattle.rules.specs.Rows.{row_count, kind, detail, name, end}
use Rattle.rules.specs.Class.{Class, class}
use Rattle.rules.specs.Body.{Formed}
use Rattle.lists.specs.Listed.{Listed}

-- the rows of a well-formed body, and each row's list
pub record FormedLists (w l : List ℕ) : Type 0 where
  pub formed : Formed w
  pub listed : Listed w l
  pub enough : row_count w ≤ length l

-- row r is an unlabelled fallthrough
abbrev pub Falls : List ℕ → ℕ → Type 0
Falls w r = (kind w r ≡ 11) × (detail w r ≡ 3) × (name w r ≡ 0)

-- of the rows before r that pass, the last ends at e, which is 0 where none does
pub record Reach (w : List ℕ) (P : Class → Bool) (r e : ℕ) : Type 0 where
  pub most : (k : ℕ) → k < r → P (class w k) ≡ true → end w k ≤ e
  pub some : 0 < e → (k : ℕ) × (k < r) × (P (class w k) ≡ true) × (end w k ≡ e)

-- r is the later of the end so far and, where it counts, the row's
pub record Later (so_far : ℕ) (counts : Bool) (end r : ℕ) : Type 0 where
  pub least : so_far ≤ r
  pub counted : counts ≡ true → end ≤ r
  pub either : (r ≡ so_far) ⊎ ((counts ≡ true) × (r ≡ end))
