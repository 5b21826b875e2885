-- What the statement rule and the list rule of the code answer: the rules with steps enough.
-- Assumes nothing.
use Rattle.std.specs.Prelude.{◌≡◌, Bool, true, List, ℕ, suc, ◌+◌, ◌-◌, ◌<◌, Option, Some, None}
use Rattle.std.proofs.Math.Option.{some}
use Rattle.rules.specs.Rows.{row_count, kind, size, end, Item}
use Rattle.rules.specs.Class.{empty, class}
use Rattle.rules.specs.Scope.{only_empty}
use Rattle.rules.specs.Verdict.{terminating, terminating_list}
use Rattle.rows.specs.declared.RowNumber.{RowNumber}
use Rattle.rows.specs.Found.{row_found}

-- an Empty is one row
abbrev pub OneRowEmpties : List ℕ → Type 0
OneRowEmpties w = (r : ℕ) → r < row_count w → class w r ≡ empty → size w r ≡ 1

-- r is row c, or what was found before it if c is an Empty
abbrev pub UnlessEmpty : List ℕ → ℕ → Option RowNumber → Option RowNumber → Type 0
UnlessEmpty w c found r = (kind w c ≡ 2 → r ≡ found) × ((kind w c ≡ 2 → ⊥) → row_found r ≡ some c)

-- of the items from c on, before e, s is the last that is no Empty
pub record Last (w : List ℕ) (c e s : ℕ) : Type 0 where
  pub item : Item w e c s
  pub no_empty : class w s ≡ empty → ⊥
  pub rest : only_empty w (end w s) e ≡ true

-- the last item that is no Empty is found, or there is none
abbrev pub Lasts : List ℕ → ℕ → ℕ → Option RowNumber → Type 0
Lasts w c e (Some s) = Last w c e s.0
Lasts w c e None = only_empty w c e ≡ true

module _ (w p b : List ℕ) where
  -- the statement r is terminating
  unfoldable pub is_terminating_body : ℕ → Bool
  is_terminating_body r = terminating w p b (suc (size w r + size w r)) r

  -- of the items from c on, before e, the last non-Empty one is terminating
  unfoldable pub is_terminating_list : ℕ → ℕ → Bool
  is_terminating_list e c = terminating_list w p b (suc ((e - c) + (e - c))) e c
