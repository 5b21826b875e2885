-- The clauses, or one step to a stop: the law of Select, with what `clause_steps` wrote.
-- Assumes nothing.
use native.Mathlib.Omega.{arith}
use Rattle.steps.proofs.Choices.{select-room}
use Rattle.steps.proofs.Leads.{select-whole, select-stops, stop-room}
use Rattle.steps.proofs.select_steps.Goals as goal

pub clause_steps-end-requires : goal.clause_steps-end-requires
clause_steps-end-requires c =
    let p = c.requires in
    (p.formed.0, p.formed.1, omega (arith, p.formed.2.2, select-room _ p.formed.2.0 p.formed.2.1 _ p.r_value))

pub returns-then-first-end : goal.returns-then-first-end
returns-then-first-end c = λ p b.
    select-whole _ p b _ c.clause_steps-end.ensures c.requires.r_value c.if-first-end.true

-- room for the stop
pub bounds-steps-first : goal.bounds-steps-first
bounds-steps-first c =
    let p = c.requires in
    stop-room _ p.formed.2.0 p.formed.2.1 _ c.clause_steps-end.ensures p.r_value (omega (arith, c.if-first-end.false))
    (omega (arith, c.clause_steps-end.auto.steps, p.formed.2.2))

pub returns : goal.returns
returns c = λ p b.
    select-stops _ p b _ c.clause_steps-end.ensures c.requires.r_value (omega (arith, c.if-first-end.false)) (bounds-steps-first c)
