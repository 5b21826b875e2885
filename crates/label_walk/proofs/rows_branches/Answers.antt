-- The list of each row is written before the walk takes the row. So the state, the list in hand and the lists so far pass on to the next row.
-- Assumes nothing.
use mathlib.Core.Path.{◌∙◌}
use native.Mathlib.Omega.{arith}
use Rattle.lists.proofs.Opened.{open-found}
use Rattle.label_walk.proofs.ListRows.{lists-next}
use Rattle.label_walk.proofs.WalkSteps.{turn-next}
use Rattle.label_walk.proofs.rows_branches.Goals as goal

pub word_of-requires : goal.word_of-requires
word_of-requires c =
    omega (
      arith,
      (open-found _ _ _ c.list_at-here.ensures.0).before,
      c.loop-r-test.true,
      c.requires.tables.body.most_rows,
    )

pub loop-r-preserved : goal.loop-r-preserved
loop-r-preserved c =
    let i = c.loop-r.invariant in
    let y = c.stmt_branches-step.ensures in
    let a = c.stmt_branches-step.auto in
    let n = lists-next c.args.body.rows.now c.loop-r.lists c.args.lists.now c.loop-r.r _ i.1 c.requires.tables.lists_room
    c.loop-r-test.true (c.word_of.ensures ∙ c.list_at-here.ensures.0) i.3 in
    (turn-next i.0 y.walked y.contexts a.heads a.goto_or_label a.contexts, n.0, y.around, n.1)
