-- A list stands before its rows, so its word is at most the row's number.
-- Assumes nothing.
use native.Mathlib.Omega.{arith}
use Rattle.lists.proofs.Opened.{open-found}
use Rattle.lists.proofs.lists_of.Goals as goal

pub word_of-requires : goal.word_of-requires
word_of-requires c = omega (arith, (open-found _ _ _ c.list_at-around.ensures.0).before)
