-- The length of an input that is read in pieces. A read gives as many bytes as there is room for, or fewer where the input ends.
-- Assumes nothing.
use Rattle.std.specs.Prelude.{Bool, true, false, ◌||◌, List, [], ◌∷◌, ℕ, ◌+◌, ltb, leb}

-- 2^37, past any length that the header of a body's file says: an input as long isn't counted further
abbrev pub uncounted : ℕ
uncounted = 137438953472

-- one read: the bytes that it gave, and the room that it had
pub record Read : Type 0 where
  pub got : ℕ
  pub room : ℕ

-- whether a read that makes `length` bytes in all is the last: it was short, or the input isn't counted further
unfoldable pub is_last : ℕ → Read → Bool
is_last length r = ltb r.got r.room || leb uncounted length

-- the length of the input after `before` bytes and these reads: up to the first that is the last
unfoldable pub length_of : ℕ → List Read → ℕ
length_of before [] = before
length_of before (r ∷ rs) = elim (is_last (before + r.got) r) [ true ↦ before + r.got | false ↦ length_of (before + r.got) rs ]
