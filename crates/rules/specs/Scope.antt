-- Where a row stands: the rows around it, the list that it is in, what is left behind it there. All notions that look upward are scans over row numbers.
-- Assumes nothing.
use Rattle.std.specs.Prelude.{Bool, true, false, ◌&&◌, ◌||◌, not, List, [], ◌∷◌, ℕ, ltb, leb}
use Rattle.std.proofs.Math.Option.{Option, none, some}
use Rattle.rules.specs.Scan.{lowest, highest}
use Rattle.rules.specs.Rows.{end}
use Rattle.rules.specs.Class.{Class, empty, block, case_block, comm_block, case, default_case, comm, default_comm, one_of, is_case, class}

-- a list is that of a Block, Case or Comm; the items of a switch's or Select's Block are clauses
abbrev pub is_list : Class → Bool
is_list = one_of (block ∷ case ∷ default_case ∷ comm ∷ default_comm ∷ [])

-- kind 12
abbrev pub is_block : Class → Bool
is_block = one_of (block ∷ case_block ∷ comm_block ∷ [])

-- kinds 12, 14 and 17: the rows that hold items, statements or clauses
abbrev pub holds_items : Class → Bool
holds_items c = is_block c || is_list c

module _ (w : List ℕ) where
  -- of the rows before r, k is one around r: it has not ended at r
  abbrev pub around : ℕ → ℕ → Bool
  around r k = ltb r (end w k)

  -- the innermost row around r of a class that passes
  unfoldable pub innermost : (Class → Bool) → ℕ → Option ℕ
  innermost P r = highest (λ k. around r k && P (class w k)) r

  -- the list whose item r heads or, below its labels, is
  unfoldable pub list_of : ℕ → Option ℕ
  list_of r = innermost is_list r

  -- row g stands in the list of r
  unfoldable pub in_list_of : ℕ → ℕ → Bool
  in_list_of r g = elim (list_of r) [ none ↦ false | some l ↦ ltb l g && ltb g (end w l) ]

  -- nothing but Empty from row r on, before e
  unfoldable pub only_empty : ℕ → ℕ → Bool
  only_empty r e = elim (lowest (λ k. leb r k && not (one_of (empty ∷ []) (class w k))) e) [ none ↦ true | some k ↦ false ]

  -- the next Case after the Case in whose list r is an item, with its labels
  unfoldable pub next_case : ℕ → Option ℕ
  next_case r = elim (list_of r) [
    | none ↦ none
    | some c ↦ elim (is_case (class w c)) [
      | false ↦ none
      | true ↦ elim (innermost (one_of (case_block ∷ [])) c) [
        | none ↦ none
        | some s ↦ elim (ltb (end w c) (end w s)) [ true ↦ some (end w c) | false ↦ none ]
      ]
    ]
  ]
