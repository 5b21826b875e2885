-- Rounds without a fork: by whole rounds the walk comes back to where it was.
-- Assumes nothing.
use Rattle.std.specs.Prelude.{◌≡◌, List, ℕ, ◌+◌, ◌-◌, ◌≤◌}
use Rattle.rules.specs.Walking.{place_of, walk_on}

module _ (w p b : List ℕ) where
  -- whatever choices are given and used and however many steps are made, the walk goes from one place to the other by that many steps
  abbrev pub Goes : ℕ → ℕ → ℕ → Type 0
  Goes from steps to = (cs : List ℕ) (n m k : ℕ) → walk_on w p b cs (steps + n) (place_of from) m k ≡ walk_on w p b cs n (place_of to) (m + steps) k

  -- with `made` steps made the walk has as much before it as with `later` of them
  pub record Skipped (limit place made later : ℕ) : Type 0 where
    pub from : made ≤ later
    pub upto : later ≤ limit
    pub same : (cs : List ℕ) (k : ℕ) → walk_on w p b cs (limit - later) (place_of place) later k ≡ walk_on w p b cs (limit - made) (place_of place) made k
