use mathlib.Core.Path.{◌∙◌}
use native.Mathlib.Omega.{arith}
use Rattle.shape.specs.Held.{held}
use Rattle.shape.proofs.Stepping.{may, ended, past, barred, next}
use Rattle.shape.proofs.children_fit.Goals as goal

pub returns-then-not-may_hold : goal.returns-then-not-may_hold
returns-then-not-may_hold c =
    barred c.args.rows.now (held c.args.holding) c.args.row.0 c.size.ensures c.loop-c.invariant c.loop-c-test.true
    (may c.args.rows.now (held c.args.holding) c.loop-c.i c.loop-c.c (c.requires.2 c.loop-c.c (omega arith)) c.kind_at.ensures
    c.may_hold.ensures ∙ c.if-not-may_hold.true)

pub returns-then-end-c : goal.returns-then-end-c
returns-then-end-c c =
    past c.args.rows.now (held c.args.holding) c.args.row.0 c.size.ensures c.loop-c.invariant c.loop-c-test.true
    c.size-c.ensures c.if-end-c.true

pub loop-c-preserved : goal.loop-c-preserved
loop-c-preserved c =
    next c.args.rows.now (held c.args.holding) c.args.row.0 c.size.ensures c.loop-c.invariant c.loop-c-test.true
    (may c.args.rows.now (held c.args.holding) c.loop-c.i c.loop-c.c (c.requires.2 c.loop-c.c (omega arith)) c.kind_at.ensures
    c.may_hold.ensures ∙ c.if-not-may_hold.false)
    (c.requires.1.some_rows c.loop-c.c (omega arith)) c.size-c.ensures (omega arith)

pub returns : goal.returns
returns c =
    ended c.args.rows.now (held c.args.holding) c.args.row.0 c.size.ensures c.loop-c.invariant c.loop-c-test.false c.at_least.ensures
