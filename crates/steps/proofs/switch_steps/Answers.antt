-- The clauses, and without a default one step more: the law of switches, with what `clause_steps` wrote.
-- Assumes nothing.
use native.Mathlib.Omega.{arith}
use borrow.Author.Rules.{rules}
use Rattle.steps.proofs.Choices.{switch-room}
use Rattle.steps.proofs.Leads.{switch-whole, switch-on, on_room}
use Rattle.steps.proofs.switch_steps.Goals as goal

pub clause_steps-clauses-requires : goal.clause_steps-clauses-requires
clause_steps-clauses-requires c =
    let p = c.requires in
    (p.formed.0, p.formed.1, omega (arith, p.formed.2.2, switch-room _ p.formed.2.0 p.formed.2.1 _ p.r_value.0))

pub returns-then-clauses : goal.returns-then-clauses
returns-then-clauses c = λ p b.
    switch-whole _ p b _ c.clause_steps-clauses.ensures c.requires.r_value.0 c.if-clauses.true

-- room for one step more
pub bounds-steps-end : goal.bounds-steps-end
bounds-steps-end c =
    let p = c.requires in
    on_room _ p.formed.2.0 p.formed.2.1 _ c.clause_steps-clauses.ensures p.r_value.0 c.if-clauses.false
    (omega (arith, c.clause_steps-clauses.auto.steps, p.formed.2.2))

pub offset_bounds-steps-end : goal.offset_bounds-steps-end
offset_bounds-steps-end c = let g = bounds-steps-end c in let k = c.clause_steps-clauses.auto.steps in search rules

pub overflow_add-result : goal.overflow_add-result
overflow_add-result c = let g = bounds-steps-end c in let k = c.clause_steps-clauses.auto.steps in search rules

pub returns : goal.returns
returns c = λ p b.
    let h = c.requires.r_value in
    switch-on _ p b _ c.clause_steps-clauses.ensures h.0 _ c.if-clauses.false h.1 (bounds-steps-end c)
