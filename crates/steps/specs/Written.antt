-- What the passes that write the steps are lent and leave.
-- Assumes nothing.
use Rattle.std.specs.Prelude.{◌≡◌, Bool, not, List, [], ◌∷◌, ℕ, suc, ◌+◌, ◌≤◌, ◌<◌, length, get_or}
use Rattle.std.proofs.Math.Option.{some}
use Rattle.rules.specs.Rows.{row_count}
use Rattle.rules.specs.Class.{Class, case_block, comm_block, if, if_else, switch, type_switch, select, for_cond, one_of}
use Rattle.rules.specs.Body.{Body}
use Rattle.rules.specs.Verdict.{has_default}
use Rattle.rules.specs.Runner.{at, item_at, clause_count, choices, step}
use Rattle.rules.specs.Walking.{place_of}
use Rattle.afters.specs.Afters.{Afters}
use Rattle.destinations.specs.Destinations.{Destinations}
use Rattle.steps.specs.StepTable.{StepsOf}

-- a body, the places after its rows and those that its branches go to
pub record Tables (w p b afters destinations : List ℕ) : Type 0 where
  pub body : Body w p b
  pub afters_room : row_count w ≤ length afters
  pub after_rows : Afters w afters
  pub destinations_room : row_count w ≤ length destinations
  pub branch_rows : Destinations w p b destinations

-- the clauses of r in order, from `first` up to `end`, each as 2 + its row, and whether one is a default; what stands before them stays
pub record ClausesWritten (w old new : List ℕ) (r first end : ℕ) (default : Bool) : Type 0 where
  pub ends : end ≡ first + clause_count w r
  pub clauses : (i : ℕ) → i < clause_count w r → get_or new (first + i) 0 ≡ suc (suc (item_at w (suc (suc r)) i))
  pub kept : (j : ℕ) → j < first → get_or new j 0 ≡ get_or old j 0
  pub defaults : default ≡ has_default w r

-- two steps: choice 0 leads to `other`, choice 1 to the row below r
pub record TwoWritten (old new : List ℕ) (r other first end : ℕ) : Type 0 where
  pub ends : end ≡ first + 2
  pub without_body : get_or new first 0 ≡ other
  pub with_body : get_or new (suc first) 0 ≡ suc (suc (suc r))
  pub kept : (j : ℕ) → j < first → get_or new j 0 ≡ get_or old j 0

-- the steps of row r, from `first` up to `end`; what stands before them stays
pub record RowWritten (w p b old new : List ℕ) (r first end : ℕ) : Type 0 where
  pub ends : end ≡ first + choices w p b (at r)
  pub steps : StepsOf w p b new r first
  pub kept : (j : ℕ) → j < first → get_or new j 0 ≡ get_or old j 0

-- the n words have room for the steps of row r from `first` on; no name has to do with their number
abbrev pub Room : List ℕ → ℕ → ℕ → ℕ → Type 0
Room w r first n = (p : List ℕ) × (b : List ℕ) × (first + choices w p b (at r) ≤ n)

-- neither a fork nor the Block of one
abbrev pub has_one_way : Class → Bool
has_one_way c = not (one_of (if ∷ if_else ∷ for_cond ∷ switch ∷ type_switch ∷ select ∷ case_block ∷ comm_block ∷ []) c)

-- row r has one step, which leads to the place x
abbrev pub OnlyStep : List ℕ → List ℕ → List ℕ → ℕ → ℕ → Type 0
OnlyStep w p b r x = (choices w p b (at r) ≡ 1) × (step w p b (at r) 0 ≡ some (place_of x))
