-- What is known of a run of plain items in a list.
-- Assumes nothing.
use Rattle.std.specs.Prelude.{◌≡◌, true, false, List, ℕ, ◌≤◌, ◌<◌}
use Rattle.rules.specs.Rows.{kind, detail, position, name, size}
use Rattle.rules.specs.Class.{detail_allowed, is_statement, base}
use Rattle.rules.specs.Refusals.{holding, at_least, bad_row}

-- the row's detail is allowed, and it has a position and no name
abbrev pub Nameless : List ℕ → ℕ → Type 0
Nameless w r = (detail_allowed (kind w r) (detail w r) ≡ true) × (0 < position w r) × (name w r ≡ 0)

-- the row is allowed, may be an item of a list, and is alone and may be so
pub record PlainItem (w p : List ℕ) (r : ℕ) : Type 0 where
  pub allowed : bad_row w p r ≡ false
  pub one_row : size w r ≡ 1
  pub item : is_statement (base w r) ≡ true
  pub leaf : at_least (holding (base w r)) ≡ 0

-- the rows from b on, before c, which is at most e, are such items
pub record PlainItems (w p : List ℕ) (b c e : ℕ) : Type 0 where
  pub low : b ≤ c
  pub high : c ≤ e
  pub plain : (k : ℕ) → b ≤ k → k < c → PlainItem w p k
