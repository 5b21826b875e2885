-- The detail says which branch it is: a break or continue is inside what it needs where a row of that kind before it reaches past it.
-- Assumes nothing.
use mathlib.Core.Path.{◌∙◌}
use Rattle.rules.specs.Class.{is_breakable, is_loop}
use Rattle.rows.proofs.Branches.{is-branch}
use Rattle.placing.proofs.Reaching.{reach-found}
use Rattle.placing.proofs.Branches.{place-break, place-continue, place-fallthrough, statement-fallthrough, place-goto}
use Rattle.placing.proofs.well_placed.Goals as goal

-- the fallthrough is a statement
pub ends_case-requires-clause-row_bound : goal.ends_case-requires-clause-row_bound
ends_case-requires-clause-row_bound c =
    (c.requires.row_bound.0, statement-fallthrough _ _ c.requires.formed.0 c.requires.row_bound (is-branch c.branch_at.ensures c.in-Fallthrough.is))

pub returns-in-Break : goal.returns-in-Break
returns-in-Break c =
    reach-found _ is_breakable _ _ c.requires.reach.0
    ∙ place-break _ _ c.requires.formed.0 c.requires.row_bound (is-branch c.branch_at.ensures c.in-Break.is)

pub returns-in-Continue : goal.returns-in-Continue
returns-in-Continue c =
    reach-found _ is_loop _ _ c.requires.reach.1
    ∙ place-continue _ _ c.requires.formed.0 c.requires.row_bound (is-branch c.branch_at.ensures c.in-Continue.is)

pub returns-in-Goto : goal.returns-in-Goto
returns-in-Goto c = place-goto _ _ c.requires.formed.0 c.requires.row_bound (is-branch c.branch_at.ensures c.in-Goto.is)

pub returns-in-Fallthrough : goal.returns-in-Fallthrough
returns-in-Fallthrough c =
    c.ends_case.ensures ∙ place-fallthrough _ _ c.requires.formed.0 c.requires.row_bound (is-branch c.branch_at.ensures c.in-Fallthrough.is)
