-- No detail is allowed of a number that is no kind's.
-- Assumes nothing.
use mathlib.Core.Path.{refl, ◌∙◌}
use Rattle.rules.proofs.Details.{past-kinds}
use Rattle.row_checks.proofs.RowWords.{bad-detail}
use Rattle.row_checks.proofs.row_allowed.Goals as goal

pub words_allowed-requires : goal.words_allowed-requires
words_allowed-requires c = (c.requires, c.in-Ok.ensures ∙ c.kind.ensures)

pub returns-in-Err : goal.returns-in-Err
returns-in-Err c p many = bad-detail _ p _ _ _ c.kind.ensures refl (past-kinds _ _ c.in-Err.ensures)
