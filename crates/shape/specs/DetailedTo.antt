-- What the shape of a row needs of the rows' details: those of the row and of the rows before it, which a walk down the rows has seen by then.
-- Assumes nothing.
use Rattle.std.specs.Prelude.{◌≡◌, true, List, ℕ, ◌≤◌}
use Rattle.rules.specs.Rows.{kind, detail}
use Rattle.rules.specs.Class.{detail_allowed}

-- each kind and detail up to the row r is allowed
abbrev pub DetailedTo : List ℕ → ℕ → Type 0
DetailedTo w r = (k : ℕ) → k ≤ r → detail_allowed (kind w k) (detail w k) ≡ true
