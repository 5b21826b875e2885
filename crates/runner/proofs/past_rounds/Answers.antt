-- Whole rounds are skipped, or none.
-- Assumes nothing.
use Rattle.runner.proofs.Rounding.{skipped}
use Rattle.runner.proofs.past_rounds.Goals as goal

pub returns-in-Some : goal.returns-in-Some
returns-in-Some c = skipped _ _ _ _ _ c.in-Some.ensures.1 _ _ c.requires.1
