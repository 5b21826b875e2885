-- The state of the last pass over the rows when it stands at row r: the gotos before r that are pending at the end, and the labels that the branches
-- before r use.
-- Assumes nothing.
use Rattle.std.specs.Prelude.{◌≡◌, Bool, ◌&&◌, ◌||◌, not, List, ◌++◌, ℕ, suc, ◌*◌, ◌≤◌, ◌<◌, eqb, length, get_or, take, drop}
use Rattle.std.proofs.Math.Option.{some}
use Rattle.rules.specs.Scan.{lowest}
use Rattle.rules.specs.Rows.{row_count}
use Rattle.rules.specs.Class.{is_branch, class}
use Rattle.rules.specs.Names.{count_of_pairs}
use Rattle.rules.specs.Labels.{Fault, each, is, is_some, pending, binding, declared, unresolved}
use Rattle.rules.specs.Calls.{fault_words}
use Rattle.tables.specs.Canon.{declared_for}
use Rattle.walk_state.specs.Walk.{faults_at}

module _ (w p b : List ℕ) where
  -- the sheet of the walk, and the gotos before row r that are pending at the end
  unfoldable pub left_at : ℕ → List Fault
  left_at r = faults_at w p b (row_count w) ++ each (unresolved w p b) r

  -- whether a branch before row r uses the label d
  unfoldable pub used_before : ℕ → ℕ → Bool
  used_before r d = is_some (lowest
      (λ g. is_branch (class w g) && (eqb (binding w p b g) (suc d) || (pending w p b (row_count w) g && is (declared w p b g) d))) r)

  -- which declared labels they use, by canonical number
  abbrev pub UsedBefore : ℕ → List ℕ → Type 0
  UsedBefore r used-table = (c d : ℕ) → 0 < c → c ≤ count_of_pairs p → declared_for w p b c ≡ some d → eqb (get_or used-table c 0) 0 ≡ not (used_before r d)

  pub record Left (r faults : ℕ) (sheet used-table : List ℕ) : Type 0 where
    pub count : faults ≡ length (left_at r)
    pub sheet_room : row_count w * 8 ≤ length sheet
    pub reported : take (faults * 4) sheet ≡ fault_words (left_at r)
    pub used_room : count_of_pairs p < length used-table
    pub used_at : UsedBefore r used-table

  -- one more row: from the sheet at entry, the state at r with the words at exit; what is past the sheet's rows stays
  pub record LeftOver (r faults : ℕ) (sheet sheet' used-table' : List ℕ) : Type 0 where
    pub state : Left r faults sheet' used-table'
    pub sheet_length : length sheet' ≡ length sheet
    pub sheet_kept : drop (faults * 4) sheet' ≡ drop (faults * 4) sheet
