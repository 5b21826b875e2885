-- What the walk hands on to the end of the sheet.
-- Assumes nothing.
use Rattle.std.specs.Prelude.{◌≡◌, Bool, false, ◌&&◌, not, List, ◌++◌, ℕ, suc, ◌*◌, ◌≤◌, ◌<◌, eqb, length, get_or, take, drop}
use Rattle.std.proofs.Math.Option.{none, some}
use Rattle.rules.specs.Scan.{how_many}
use Rattle.rules.specs.Rows.{row_count}
use Rattle.rules.specs.Names.{count_of_pairs}
use Rattle.rules.specs.Labels.{Fault, each, unresolved, used}
use Rattle.rules.specs.Calls.{fault_words}
use Rattle.sorting.specs.Sorted.{passing}
use Rattle.tables.specs.Canon.{declared_for}
use Rattle.walk_state.specs.Walk.{faults_at, bindings_at}

-- the first rows of a sheet are these faults, n of them, and the words past them are as they were
pub record Reported (n : ℕ) (faults : List Fault) (sheet sheet' : List ℕ) : Type 0 where
  pub count : n ≡ length faults
  pub reported : take (n * 4) sheet' ≡ fault_words faults
  pub sheet_length : length sheet' ≡ length sheet
  pub sheet_kept : drop (n * 4) sheet' ≡ drop (n * 4) sheet

module _ (w p b : List ℕ) where
  -- the sheet up to the gotos that are pending at the end
  unfoldable pub faults_left : List Fault
  faults_left = faults_at w p b (row_count w) ++ each (unresolved w p b) (row_count w)

  -- the end of the walk
  pub record AtEnd (faults : ℕ) (sheet bindings : List ℕ) : Type 0 where
    pub count : faults ≡ length (faults_at w p b (row_count w))
    pub sheet_room : row_count w * 8 ≤ length sheet
    pub reported : take (faults * 4) sheet ≡ fault_words (faults_at w p b (row_count w))
    pub bindings_room : row_count w ≤ length bindings
    pub bound : take (row_count w) bindings ≡ bindings_at w p b (row_count w)

  -- which declared labels are used, by canonical number
  pub record UsedTable (used-table : List ℕ) : Type 0 where
    pub room : count_of_pairs p < length used-table
    pub at_canon : (c d : ℕ) → 0 < c → c ≤ count_of_pairs p → declared_for w p b c ≡ some d → eqb (get_or used-table c 0) 0 ≡ not (used w p b d)

  -- the label declared for the canonical number c is not used
  unfoldable pub is_unused : ℕ → Bool
  is_unused c = elim (declared_for w p b c) [ none ↦ false | some d ↦ not (used w p b d) ]

  -- s holds the canonical numbers up to k of labels that are not used, each once
  abbrev pub UnusedTo : ℕ → List ℕ → Type 0
  UnusedTo k s = (P : ℕ → Bool) → passing P s ≡ how_many (λ i. is_unused (suc i) && P (suc i)) k
