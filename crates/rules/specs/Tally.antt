-- Document 02, U1: the labelled branches of a body add up. Both sides are counted from the records, neither as a remainder: rows, binding words and
-- sheet rows are gone through one by one. proofs/Tally.antt proves both statements.
-- Assumes nothing.
use Rattle.std.specs.Prelude.{◌≡◌, Bool, true, false, ◌&&◌, List, [], ◌∷◌, ℕ, suc, ◌+◌, ◌*◌, ltb, leb, eqb, get_or}
use Rattle.rules.specs.Scan.{how_many}
use Rattle.rules.specs.Rows.{row_count, kind, name}
use Rattle.rules.specs.Refusals.{WellFormed}
use Rattle.rules.specs.Labels.{Fault, sheet, bindings}
use Rattle.rules.specs.Calls.{answered, label_call}

-- kind 11
abbrev pub is_branch_row : List ℕ → ℕ → Bool
is_branch_row w r = eqb (kind w r) 11

-- the labelled Branch rows: those with a name
unfoldable pub labelled_branches : List ℕ → ℕ
labelled_branches w = how_many (λ r. is_branch_row w r && ltb 0 (name w r)) (row_count w)

-- the Branch rows with a nonzero binding, the word at the row's own number
unfoldable pub bound_branches : List ℕ → List ℕ → ℕ
bound_branches w words = how_many (λ r. is_branch_row w r && ltb 0 (get_or words r 0)) (row_count w)

-- the codes 4, 5, 6, 7 and 8: a branch that isn't bound
abbrev pub is_unbound : ℕ → Bool
is_unbound code = leb 4 code && leb code 8

-- the sheet rows with these codes
unfoldable pub unbound_rows : List Fault → ℕ
unbound_rows [] = 0
unbound_rows (f ∷ fs) = elim (is_unbound f.code) [ true ↦ suc (unbound_rows fs) | false ↦ unbound_rows fs ]

-- the same of the first n rows of a sheet that is words, four a row, the code first
unfoldable pub unbound_words : ℕ → List ℕ → ℕ
unbound_words n words = how_many (λ i. is_unbound (get_or words (i * 4) 0)) n

-- the number of labelled Branch rows equals the Branch rows with a nonzero binding plus the sheet rows with codes 4, 5, 6, 7 and 8
abbrev pub TallyLaw : List ℕ → List ℕ → List ℕ → Type 0
TallyLaw w p b = WellFormed w p b → labelled_branches w ≡ bound_branches w (bindings w p b) + unbound_rows (sheet w p b)

-- and so they do in what the label call leaves in any sheet s and bindings t that it accepts: its answer n is the sheet's row count
abbrev pub CallTally : List ℕ → List ℕ → List ℕ → List ℕ → List ℕ → Type 0
CallTally w p b s t =
    (n : ℕ) → (label_call w p b s t).answer ≡ answered n
    → labelled_branches w ≡ bound_branches w (label_call w p b s t).binding_words + unbound_words n (label_call w p b s t).sheet_words
