-- Where the runner goes on after each row.
-- Assumes nothing.
use Rattle.std.specs.Prelude.{◌≡◌, List, ℕ, ◌<◌, get_or}
use Rattle.rules.specs.Rows.{row_count}
use Rattle.rules.specs.Runner.{after}
use Rattle.rules.specs.Walking.{place_of}

-- each of the first x words is the place after its row
abbrev pub AftersBelow : List ℕ → List ℕ → ℕ → Type 0
AftersBelow w t x = (r : ℕ) → r < x → place_of (get_or t r 0) ≡ after w r

-- so is each row's word
abbrev pub Afters : List ℕ → List ℕ → Type 0
Afters w t = AftersBelow w t (row_count w)
