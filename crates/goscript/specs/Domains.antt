-- Document 01: where stock goscript is equalled. Each domain is a test of a body's rows.
-- Assumes nothing.
use Rattle.std.specs.Prelude.{Bool, false, ◌&&◌, ◌||◌, not, List, ℕ, zero, suc, ltb, leb}
use Rattle.rules.specs.Scan.{lowest}
use Rattle.rules.specs.Rows.{row_count, end}
use Rattle.rules.specs.Class.{labeled, is_breakable, class}
use Rattle.rules.specs.Labels.{is_some, is_class, labels, labelled_break}

module _ (w p b : List ℕ) where
  -- the labelled break or continue g names the label of a statement already ended
  unfoldable pub names_ended : ℕ → Bool
  names_ended g = labelled_break w p b g && is_some (lowest (λ t. labels w p b g t && leb (end w t) g) g)

  -- no labelled break or continue names the label of a statement already ended
  unfoldable pub none_names_ended : Bool
  none_names_ended = not (is_some (lowest names_ended (row_count w)))

module _ (w : List ℕ) where
  -- a label stands directly on the row s
  unfoldable pub carries_label : ℕ → Bool
  carries_label s = elim s [ zero ↦ false | suc t ↦ is_class w labeled t ]

  -- a label stands below the row s
  unfoldable pub holds_label : ℕ → Bool
  holds_label s = is_some (lowest (λ t. ltb s t && is_class w labeled t) (end w s))

  -- no statement of kinds 15, 16, 18 to 20 carries or holds a label
  unfoldable pub none_labelled : Bool
  none_labelled = not (is_some (lowest (λ s. is_breakable (class w s) && (carries_label s || holds_label s)) (row_count w)))
