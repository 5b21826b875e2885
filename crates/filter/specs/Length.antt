-- The length of an input that is read to its end, and the bytes past the first 52,012.
-- Assumes nothing.
use Rattle.std.specs.Prelude.{◌≡◌, ◌⊎◌, List, [], ℕ, ◌+◌, ◌≤◌, ◌<◌, length, Option, Some, None, ⊤}
use Rattle.input.specs.Reads.{uncounted}

-- n is the length of an input of which `before` bytes were read and these are left. An input of 2^37 bytes or more isn't counted further: of it n says no more
-- than that it has that many.
abbrev pub IsLengthOf : ℕ → List ℕ → ℕ → Type 0
IsLengthOf before left n = (n ≡ before + length left) ⊎ ((uncounted ≤ n) × (n ≤ before + length left))

-- the same, where it is known what is left
abbrev pub IsLength : ℕ → Option (List ℕ) → ℕ → Type 0
IsLength before None n = ⊤
IsLength before (Some left) n = IsLengthOf before left n

-- `rest` comes after `start` in a file: the first 52,012 bytes, or all of it
abbrev pub IsRest : List ℕ → List ℕ → Type 0
IsRest start rest = (length start ≤ 52012) × (length start < 52012 → rest ≡ [])
