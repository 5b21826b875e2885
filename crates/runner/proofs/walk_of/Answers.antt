-- With a fault the answer is 8. Without one the tables are made, with room for 2,000 rows, and the walk over them is the whole walk.
-- Assumes nothing.
use mathlib.Core.Path.{sym, ◌∙◌}
use borrow.Author.Tests.{not-true, not-false}
use Rattle.rules.specs.Walking.{Faultless}
use Rattle.rules.proofs.WalkSteps.{faultless, call-faulty, call-walks}
use Rattle.body.proofs.Facts.{facts_of}
use Rattle.runner.proofs.walk_of.Goals as goal
use Rattle.runner.proofs.walk_of.Goals.{Else-not-is_faultless}

pub is_faultless-requires : goal.is_faultless-requires
is_faultless-requires c = (facts_of c.args.body).most_rows

pub returns-then-not-is_faultless : goal.returns-then-not-is_faultless
returns-then-not-is_faultless c =
    sym (call-faulty _ _ _ _ _ c.args.body.well_formed (not-false _ (sym c.is_faultless.ensures.judged ∙ c.if-not-is_faultless.true)))

-- no fault is found
no_fault : (c : Else-not-is_faultless) → Faultless c.args.body.rows.now c.args.body.pairs.now c.args.body.bytes.now
no_fault c = faultless _ _ _ c.args.body.well_formed (not-true _ (sym c.is_faultless.ensures.judged ∙ c.if-not-is_faultless.false))

pub invariant_of-faultless : goal.invariant_of-faultless
invariant_of-faultless c =
    record { faultless = no_fault (goal.at.invariant_of-faultless c).Else-not-is_faultless; bound = c.is_faultless.ensures.bound }

pub returns : goal.returns
returns c = c.walk_on.ensures ∙ sym (call-walks _ _ _ _ _ (no_fault (goal.at.returns c).Else-not-is_faultless))
