-- What the walk keeps of each list when it stands at row x, as a function of x: the list's latest declaration and its latest label.
-- Assumes nothing.
use Rattle.std.specs.Prelude.{◌≡◌, true, false, ◌&&◌, List, ℕ, ◌≤◌, ◌<◌, length, get_or, set}
use Rattle.std.proofs.Math.Option.{Option}
use Rattle.rules.specs.Scan.{highest}
use Rattle.rules.specs.Rows.{row_count}
use Rattle.rules.specs.Class.{class}
use Rattle.rules.specs.Scope.{is_block, list_of}
use Rattle.rules.specs.Body.{Body}
use Rattle.rules.specs.Labels.{is, is_label, word}
use Rattle.lists.specs.Listed.{ListedBelow}
use Rattle.walk_state.specs.Walk.{latest_in, current_label}
use Rattle.context.specs.declared.Context.{Context}
use Rattle.context.specs.Fields.{latest_word, label_word}

-- no declaration and no label yet
abbrev pub none_yet : Context ℕ
none_yet = record { latest = 0; label = 0 }

-- at the row of each list l one word of its context is `latest l x`, 1 + its row, or 0
pub record ListTable (w : List ℕ) (latest : ℕ → ℕ → Option ℕ) (x : ℕ) (of : Context ℕ → ℕ) (contexts : List (Context ℕ)) : Type 0 where
  pub room : row_count w ≤ length contexts
  pub at_list : (l : ℕ) → l < row_count w → of (get_or contexts l none_yet) ≡ word (latest l x)

module _ (w p b : List ℕ) where
  -- the latest label, not `_`, of the list l before row x
  unfoldable pub latest_label : ℕ → ℕ → Option ℕ
  latest_label l x = highest (λ t. is_label w p b t && is (list_of w t) l) x

  -- the contexts of the lists at row x
  pub record Contexts (x : ℕ) (contexts : List (Context ℕ)) : Type 0 where
    pub latest_decls_are : ListTable w (latest_in w p b) x latest_word contexts
    pub latest_labels_are : ListTable w latest_label x label_word contexts

  -- a well-formed body, and the lists of the rows before x
  pub record Listing (lists : List ℕ) (x : ℕ) : Type 0 where
    pub body : Body w p b
    pub room : row_count w ≤ length lists
    pub listed : ListedBelow w lists x

  -- the table at row x and after it: a Block's own word is set, every other row leaves it
  pub record BlockLabelled (x : ℕ) (goto-or-label later : List ℕ) : Type 0 where
    pub at_block : is_block (class w x) ≡ true → later ≡ set goto-or-label x (word (current_label w p b x))
    pub elsewhere : is_block (class w x) ≡ false → later ≡ goto-or-label
