-- Which of two sorted parts the next name is taken from.
-- Assumes nothing.
use Rattle.std.specs.Prelude.{◌≡◌, Bool, true, false, List, ℕ, ◌<◌, length, get_or}
use Rattle.rules.specs.Names.{name_bytes, bytes_before}

-- the bytes of n do not come before those of m
abbrev pub NotAfter : List ℕ → List ℕ → ℕ → ℕ → Type 0
NotAfter p b m n = bytes_before (name_bytes p b n) (name_bytes p b m) ≡ false

-- of the two parts of s the elements from i up to mid and those from j on are left: the first of the left ones, or the first of the right ones, comes next,
-- and the other's first does not precede it
abbrev pub Next : List ℕ → List ℕ → List ℕ → ℕ → ℕ → ℕ → Bool → Type 0
Next p b s mid i j true = (i < mid) × (j < length s → NotAfter p b (get_or s i 0) (get_or s j 0))
Next p b s mid i j false = (j < length s) × (i < mid → NotAfter p b (get_or s j 0) (get_or s i 0))
