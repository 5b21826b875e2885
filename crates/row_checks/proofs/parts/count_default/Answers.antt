-- A clause adds 1 exactly where its detail is 1, which is what the code tests.
-- Assumes nothing.
use Rattle.row_checks.specs.Parts.{default_count}
use Rattle.row_checks.proofs.parts.count_default.Goals as goal

pub returns : goal.returns
unfolding default_count
returns c = rw (c.from.ensures, c.is_marked.ensures)
