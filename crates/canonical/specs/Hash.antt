-- The hash of a name, which its bytes alone decide, and the slot that a hash belongs to.
-- Assumes nothing.
use Rattle.std.specs.Prelude.{List, [], ◌∷◌, ℕ, ◌+◌, ◌*◌, ◌%◌}

-- below 2 to the 32nd
unfoldable pub hash : List ℕ → ℕ
hash [] = 0
hash (x ∷ xs) = (hash xs * 37 + x) % 4294967296

-- one of so many slots
abbrev pub slot_of : ℕ → ℕ → ℕ
slot_of slots h = h % slots
