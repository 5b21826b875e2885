-- The row badly placed is one of at most 2,000. The rest is what the marks call answers, told as four numbers.
-- Assumes nothing.
use mathlib.Core.Path.{sym, ◌∙◌, ap}
use Rattle.marking.specs.Marks.{given}
use Rattle.exports.proofs.Telling.{marks-small}
use Rattle.exports.proofs.zesthull_marks.Goals as goal

pub placed_word-requires : goal.placed_word-requires
placed_word-requires c = marks-small _ _ _ _ _ _ (sym (ap given c.in-Ok.is) ∙ c.mark.ensures.answer)
