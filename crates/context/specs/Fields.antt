-- The fields of a context, and the context with one field changed.
-- Assumes nothing.
use Rattle.context.specs.declared.Context.{Context}

module _ {T : Type 0} where
  abbrev pub latest_word : Context T → T
  latest_word c = c.latest

  abbrev pub label_word : Context T → T
  label_word c = c.label

  -- the latest declaration is this one
  abbrev pub with_latest : Context T → T → Context T
  with_latest c word = record { latest = word; label = c.label }

  -- the current label is this one
  abbrev pub with_label : Context T → T → Context T
  with_label c word = record { latest = c.latest; label = word }
