-- Only a Block that isn't row 0 is told apart by the row before it: each arm of the match is one law of Told.antt.
-- Assumes nothing.
use borrow.Author.Rules.{rules}
use Rattle.classes.proofs.Told.{is_no_block, is_block, other_class, first-class, after-switch, after-select, after-other}
use Rattle.classes.proofs.class_of.Goals as goal
use Rattle.classes.proofs.class_of.Goals.{then-ne-via-then-ne, then-ne-via-else-ne+then-row-eq0}

pub returns-then-ne : goal.returns-then-ne
returns-then-ne c = elim c.then-ne.branch [
  | then-ne-via-then-ne w ↦ other_class c.args.rows.now c.args.row.0 _ c.own_class-own.ensures (is_no_block c.ne.ensures w.if-ne.true)
  | then-ne-via-else-ne+then-row-eq0 w ↦ first-class c.args.rows.now c.args.row.0 _ c.own_class-own.ensures w.if-row-eq0.true
]

pub returns-in-Switch : goal.returns-in-Switch
returns-in-Switch c =
    after-switch c.args.rows.now c.args.row.0 _ c.own_class-own.ensures (is_block c.ne.ensures c.if-ne.false) c.if-row-eq0.false _ c.own_class.ensures (search rules)

pub returns-in-Select : goal.returns-in-Select
returns-in-Select c =
    after-select c.args.rows.now c.args.row.0 _ c.own_class-own.ensures (is_block c.ne.ensures c.if-ne.false) c.if-row-eq0.false _ c.own_class.ensures c.in-Select.is

pub returns-in_default : goal.returns-in_default
returns-in_default c =
    after-other c.args.rows.now c.args.row.0 _ c.own_class-own.ensures (is_block c.ne.ensures c.if-ne.false) c.if-row-eq0.false _ c.own_class.ensures (search rules)
