-- Which rows the search for a row badly placed looks at.
-- Assumes nothing.
use Rattle.std.specs.Prelude.{◌≡◌, Bool, false, ◌||◌, List, ℕ, ◌≤◌, ◌<◌}
use Rattle.rules.specs.Class.{Class, is_branch, is_breakable, class}

-- a Branch, or what a break needs around it
abbrev pub counted : Class → Bool
counted c = is_branch c || is_breakable c

-- none of the rows from b on, before c, which is at most e, counts
pub record PassedOver (w : List ℕ) (b c e : ℕ) : Type 0 where
  pub low : b ≤ c
  pub high : c ≤ e
  pub none : (k : ℕ) → b ≤ k → k < c → counted (class w k) ≡ false
