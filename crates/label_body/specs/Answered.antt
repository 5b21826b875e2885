-- What the label call lends to the walk, and what the walk leaves: the sheet and the bindings from the start on, and the words past them as they were.
-- Assumes nothing.
use Rattle.std.specs.Prelude.{◌≡◌, List, ℕ, ◌*◌, ◌≤◌, ◌<◌, length, get_or, take, drop}
use Rattle.rules.specs.Rows.{row_count}
use Rattle.rules.specs.Names.{count_of_pairs}
use Rattle.rules.specs.Labels.{sheet as sheet_of, bindings as bindings_of}
use Rattle.context.specs.declared.Context.{Context}
use Rattle.label_walk.specs.Contexts.{none_yet}
use Rattle.label_rest.specs.Rest.{Reported}

-- room for the sheet and the bindings, and each row's binding is 0
pub record Blank (w sheet bindings : List ℕ) : Type 0 where
  pub sheet_room : row_count w * 8 ≤ length sheet
  pub bindings_room : row_count w ≤ length bindings
  pub bindings_zero : (g : ℕ) → g < row_count w → get_or bindings g 0 ≡ 0

-- room for each table, and 0 where the walk starts from 0
pub record Lent (w p canonical label-rows lists sheet bindings heads goto-or-label : List ℕ) (contexts : List (Context ℕ)) (used : List ℕ) : Type 0 where
  pub canonical_room : count_of_pairs p < length canonical
  pub label_rows_room : count_of_pairs p < length label-rows
  pub lists_room : row_count w ≤ length lists
  pub sheet_room : row_count w * 8 ≤ length sheet
  pub bindings_room : row_count w ≤ length bindings
  pub heads_room : count_of_pairs p < length heads
  pub goto_or_label_room : row_count w ≤ length goto-or-label
  pub contexts_room : row_count w ≤ length contexts
  pub used_room : count_of_pairs p < length used
  pub label_rows_zero : (c : ℕ) → get_or label-rows c 0 ≡ 0
  pub bindings_zero : (g : ℕ) → g < row_count w → get_or bindings g 0 ≡ 0
  pub heads_zero : (c : ℕ) → get_or heads c 0 ≡ 0
  pub contexts_zero : (l : ℕ) → get_or contexts l none_yet ≡ none_yet
  pub used_zero : (c : ℕ) → get_or used c 0 ≡ 0

-- the sheet's row count, and both written
pub record Answered (w p b : List ℕ) (n : ℕ) (s t s' t' : List ℕ) : Type 0 where
  pub on_sheet : Reported n (sheet_of w p b) s s'
  pub bindings_length : length t' ≡ length t
  pub bound : take (row_count w) t' ≡ bindings_of w p b
  pub bindings_kept : drop (row_count w) t' ≡ drop (row_count w) t
