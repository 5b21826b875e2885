-- A body without names, and the bindings cleared for it.
-- Assumes nothing.
use Rattle.std.specs.Prelude.{◌≡◌, List, ℕ, ◌<◌, length, get_or, drop}
use Rattle.rules.specs.Rows.{row_count, name}

-- no row has a name
abbrev pub NoName : List ℕ → Type 0
NoName w = (r : ℕ) → r < row_count w → name w r ≡ 0

-- the first n words are 0, and those past them as they were
pub record Cleared (n : ℕ) (t t' : List ℕ) : Type 0 where
  pub cleared_length : length t' ≡ length t
  pub zeros : (g : ℕ) → g < n → get_or t' g 0 ≡ 0
  pub kept : drop n t' ≡ drop n t
