-- The row badly placed is one of at most 2,000. The rest is what the placing call answers, told as two numbers.
-- Assumes nothing.
use mathlib.Core.Path.{sym, ◌∙◌, ap}
use Rattle.placing.specs.Given.{given}
use Rattle.exports.proofs.Telling.{small_word}
use Rattle.exports.proofs.zesthull_placing.Goals as goal

pub placed_word-requires : goal.placed_word-requires
placed_word-requires c = small_word _ _ _ _ (sym (ap given c.in-Ok.is) ∙ c.ask_placing.ensures)
