-- The state of the walk when it stands at row x, as a function of x: what is on the sheet, what is bound, which gotos are pending, which label is current.
-- Assumes nothing.
use Rattle.std.specs.Prelude.{◌≡◌, true, false, ◌&&◌, List, [], ◌∷◌, ℕ, ◌*◌, ◌≤◌, ◌<◌, ltb, eqb, length, get_or, take, drop}
use Rattle.std.proofs.Math.Option.{Option, none, some}
use Rattle.rules.specs.Scan.{highest}
use Rattle.rules.specs.Rows.{row_count, end}
use Rattle.rules.specs.Class.{declaration, goto, class}
use Rattle.rules.specs.Names.{count_of_pairs}
use Rattle.rules.specs.Scope.{is_block, list_of}
use Rattle.rules.specs.Labels.{Fault, each, is_class, is_label, earlier, later, pending, is, word, binding, report}
use Rattle.rules.specs.Calls.{fault_words}
use Rattle.tables.specs.Canon.{row_canon}

module _ (w p b : List ℕ) where
  -- ---- the sheet and the bindings

  -- what the rows before x have reported
  unfoldable pub faults_at : ℕ → List Fault
  faults_at x = each (report w p b) x

  -- the binding of row g, with the labels before row x
  unfoldable pub binding_at : ℕ → ℕ → ℕ
  binding_at x g = elim (is_class w goto g) [
    | true ↦ word (elim (earlier w p b g) [ some d ↦ some d | none ↦ later w p b x g ])
    | false ↦ binding w p b g
  ]

  -- one word for each row, 0 from row x on
  unfoldable pub bindings_at : ℕ → List ℕ
  bindings_at x = each (λ g. elim (ltb g x) [ true ↦ binding_at x g | false ↦ 0 ] ∷ []) (row_count w)

  -- ---- the pending gotos, linked by name: each leads to the one before it

  -- of the gotos before row g that are pending at x, the latest with the canonical number c
  unfoldable pub previous_pending : ℕ → ℕ → ℕ → Option ℕ
  previous_pending x c g = highest (λ h. pending w p b x h && eqb (row_canon w p b h) c) g

  -- ---- the current label: the innermost label, not `_`, of the item in which row r stands
  unfoldable pub current_label : ℕ → Option ℕ
  current_label r = elim (list_of w r) [ none ↦ none | some l ↦ highest (λ t. ltb l t && (is_label w p b t && ltb r (end w t))) r ]

  -- the latest declaration item of the list l before row x
  unfoldable pub latest_in : ℕ → ℕ → Option ℕ
  latest_in l x = highest (λ d. is_class w declaration d && is (list_of w d) l) x

  -- the label that each Block before row x belongs to
  abbrev pub BlockLabels : ℕ → List ℕ → Type 0
  BlockLabels x goto-or-label =
      (row_count w ≤ length goto-or-label) × ((k : ℕ) → k < x → is_block (class w k) ≡ true → get_or goto-or-label k 0 ≡ word (current_label k))

  -- ---- all of it
  pub record Walking (x faults : ℕ) (sheet bindings heads goto-or-label : List ℕ) : Type 0 where
    pub rows : x ≤ row_count w
    pub count : faults ≡ length (faults_at x)
    pub sheet_room : row_count w * 8 ≤ length sheet
    pub reported : take (faults * 4) sheet ≡ fault_words (faults_at x)
    pub bindings_room : row_count w ≤ length bindings
    pub bound : take (row_count w) bindings ≡ bindings_at x
    pub heads_room : count_of_pairs p < length heads
    pub heads_are : (c : ℕ) → 0 < c → c ≤ count_of_pairs p → get_or heads c 0 ≡ word (previous_pending x c x)
    pub block_labels : BlockLabels x goto-or-label
    pub goto_before : (g : ℕ) → g < x → pending w p b x g ≡ true → 0 < row_canon w p b g → get_or goto-or-label g 0 ≡ word (previous_pending x (row_canon w p b g) g)

  -- one more piece of the walk: from the words at entry, the state at x with the words at exit; what is past the sheet and the bindings stays
  pub record Walked (x faults : ℕ) (sheet bindings sheet' bindings' heads' goto-or-label' : List ℕ) : Type 0 where
    pub state : Walking x faults sheet' bindings' heads' goto-or-label'
    pub sheet_length : length sheet' ≡ length sheet
    pub sheet_kept : drop (faults * 4) sheet' ≡ drop (faults * 4) sheet
    pub bindings_length : length bindings' ≡ length bindings
    pub bindings_kept : drop (row_count w) bindings' ≡ drop (row_count w) bindings
