-- What the break search of the code answers: whether some break leaves a range of rows, and what such a range is.
-- Assumes nothing.
use Rattle.std.specs.Prelude.{◌≡◌, Bool, true, false, ◌&&◌, not, List, ℕ, zero, suc, ◌≤◌, ◌<◌, ltb, leb, eqb}
use Rattle.rules.specs.Scan.{lowest, highest}
use Rattle.rules.specs.Rows.{row_count, name, end, Item}
use Rattle.rules.specs.Class.{labeled, break, is_statement, is_breakable, class}
use Rattle.rules.specs.Names.{same_name}
use Rattle.rules.specs.Labels.{is_some, is_class}

-- the name number of the label directly on row r, or 0
unfoldable pub label_number : List ℕ → ℕ → ℕ
label_number w r = elim r [ zero ↦ 0 | suc t ↦ elim (is_class w labeled t) [ true ↦ name w t | false ↦ 0 ] ]

-- what begins among the rows from c on, before e, ends there
pub record Closed (w : List ℕ) (c e : ℕ) : Type 0 where
  pub order : c ≤ e
  pub within : e ≤ row_count w
  pub ends : (k : ℕ) → c ≤ k → k < e → end w k ≤ e

-- the items from c on, before e, are statements
abbrev pub Statements : List ℕ → ℕ → ℕ → Type 0
Statements w c e = (s : ℕ) → Item w e c s → is_statement (class w s) ≡ true

module _ (w p b : List ℕ) where
  -- no statement of kinds 15, 16, 18, 19, 20 from row c on is around row g
  unfoldable pub exposed : ℕ → ℕ → Bool
  exposed c g = not (is_some (highest (λ k. leb c k && (is_breakable (class w k) && ltb g (end w k))) g))

  -- the break g leaves the rows from c on: unlabelled where `implicit` and nothing from c on holds it, or naming the label
  unfoldable pub leaves : ℕ → ℕ → Bool → ℕ → Bool
  leaves c label implicit g =
      is_class w break g && elim (eqb (name w g) 0) [ true ↦ implicit && exposed c g | false ↦ not (eqb label 0) && same_name p b (name w g) label ]

  -- some break among the rows from c on, before e, leaves them
  unfoldable pub any_leaves : ℕ → ℕ → ℕ → Bool → Bool
  any_leaves c e label implicit = is_some (lowest (λ g. leb c g && leaves c label implicit g) e)
