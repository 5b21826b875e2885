-- Each arm is the law of its class, with what the function that it calls wrote.
-- Assumes nothing.
use borrow.Author.Rules.{rules}
use Rattle.steps.proofs.Leads.{row-two, row-none}
use Rattle.steps.proofs.Arms.{two-room, on-two, else-two, block_none}
use Rattle.steps.proofs.row_steps.Goals as goal

-- ---- two ways
pub two_steps-requires : goal.two_steps-requires
two_steps-requires c =
    let p = c.requires in
    two-room p.tables.0 p.tables.1 _ (on-two p.tables.0 p.tables.1 c.class_of-class.ensures (search rules)) p.r_in_bounds

pub returns-in-If : goal.returns-in-If
returns-in-If c =
    let p = c.requires in
    row-two _ _ _ _ (on-two p.tables.0 p.tables.1 c.class_of-class.ensures (search rules)) (p.tables.0.after_rows _ p.tables.1)
    c.two_steps.ensures

pub two_steps-requires-in-IfElse : goal.two_steps-requires-in-IfElse
two_steps-requires-in-IfElse c =
    let p = c.requires in
    two-room p.tables.0 p.tables.1 _ (else-two p.tables.0 p.tables.1 c.class_of-class.ensures c.in-IfElse.is) p.r_in_bounds

pub returns-in-IfElse : goal.returns-in-IfElse
returns-in-IfElse c =
    let p = c.requires in
    row-two _ _ _ _ (else-two p.tables.0 p.tables.1 c.class_of-class.ensures c.in-IfElse.is) c.else_place.ensures
    c.two_steps-in-IfElse.ensures

-- ---- the Block of a fork
pub returns-in-CaseBlock : goal.returns-in-CaseBlock
returns-in-CaseBlock c =
    let p = c.requires in
    row-none _ _ _ _ _ _ (block_none p.tables.0 p.tables.1 c.class_of-class.ensures (search rules))
