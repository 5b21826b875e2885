-- The row reached is one of at most 2,000. The rest is what the walk call answers, told as four numbers.
-- Assumes nothing.
use mathlib.Core.Path.{sym, ◌∙◌, ap}
use Rattle.runner.specs.Given.{given}
use Rattle.exports.proofs.Telling.{walk-small}
use Rattle.exports.proofs.zesthull_walk.Goals as goal

pub place_word-requires : goal.place_word-requires
place_word-requires c = walk-small _ _ _ _ _ _ (sym (ap given c.in-Ok.is) ∙ c.walk.ensures)
