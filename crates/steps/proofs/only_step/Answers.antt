-- Each arm is the law of its class.
-- Assumes nothing.
use native.Mathlib.Omega.{arith}
use borrow.Author.Rules.{rules}
use Rattle.steps.proofs.Arms.{below, stop-here, there, on, list-below, list_on}
use Rattle.steps.proofs.only_step.Goals as goal

pub returns-in-Labeled : goal.returns-in-Labeled
returns-in-Labeled c = let p = c.requires in below p.tables.0 p.tables.1 p.class_value.0 (search rules)

pub returns-in-Stop : goal.returns-in-Stop
returns-in-Stop c = let p = c.requires in stop-here p.tables.0 p.tables.1 p.class_value.0 c.in-Stop.is

pub returns-in-Break : goal.returns-in-Break
returns-in-Break c = let p = c.requires in there p.tables.0 p.tables.1 p.class_value.0 (search rules)

pub returns-in-Plain : goal.returns-in-Plain
returns-in-Plain c = let p = c.requires in on p.tables.0 p.tables.1 p.class_value.0 (search rules)

pub returns-then-size-gt1 : goal.returns-then-size-gt1
returns-then-size-gt1 c =
    let p = c.requires in
    list-below p.tables.0 p.tables.1 p.class_value.0 (search rules) p.class_value.1 (omega (arith, c.if-size-gt1.true, c.size.ensures))

pub returns-else-size-gt1 : goal.returns-else-size-gt1
returns-else-size-gt1 c =
    let p = c.requires in
    list_on p.tables.0 p.tables.1 p.class_value.0 (search rules) p.class_value.1 (omega (arith, c.if-size-gt1.false, c.size.ensures))
