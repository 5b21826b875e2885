-- What is found of the default clauses among the children of a row.
-- Assumes nothing.
use Rattle.std.specs.Prelude.{◌≡◌, true, false, List, ℕ, ◌≤◌, ◌<◌}
use Rattle.std.proofs.Math.Option.{Option, none, some}
use Rattle.rules.specs.Rows.{row_count, end, Item, Child}
use Rattle.rules.specs.Class.{is_default, base}
use Rattle.rules.specs.Body.{SecondChild, OneDefault}

-- each child ends in its parent
abbrev pub Inside : List ℕ → Type 0
Inside w = (p c : ℕ) → p < row_count w → Child w p c → end w c ≤ end w p

-- of the rows from c on, stepped through by size, before e, the first default clause, or none
abbrev pub NextDefault : List ℕ → ℕ → ℕ → Option ℕ → Type 0
NextDefault w e c none = (s : ℕ) → Item w e c s → is_default (base w s) ≡ false
NextDefault w e c (some k) = Item w e c k × (is_default (base w k) ≡ true) × ((s : ℕ) → Item w e c s → s < k → is_default (base w s) ≡ false)

-- the second default among the children of p, or none
abbrev pub SecondOf : List ℕ → ℕ → Option ℕ → Type 0
SecondOf w p none = OneDefault w p
SecondOf w p (some r) = SecondChild w p r × ((k : ℕ) → k < r → SecondChild w p k → ⊥)
