-- A number that is a kind's means that kind; of any other no detail is allowed.
-- Assumes nothing.
use mathlib.Core.Path.{◌≡◌, sym, ◌∙◌}
use mathlib.Core.Bool.{true, false}
use Rattle.rules.proofs.Test.{clash}
use Rattle.rules.proofs.Details.{past-kinds}
use Rattle.rows.proofs.kinds.is_breakable.Goals as goal

pub returns-in-Ok : goal.returns-in-Ok
returns-in-Ok c d a = rw (← c.in-Ok.ensures) (c.is_breakable.ensures d (rw c.in-Ok.ensures a))

pub returns-in-Err : goal.returns-in-Err
returns-in-Err c d a = let z : false ≡ true = sym (past-kinds _ d c.in-Err.ensures) ∙ a in absurd (clash (cc))
