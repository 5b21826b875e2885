use native.Mathlib.Omega.{arith}
use Rattle.steps.proofs.AllRows.{steps-start, row_room, end-small, steps-more, steps-end}
use Rattle.steps.proofs.all_steps.Goals as goal

pub loop-r-init : goal.loop-r-init
loop-r-init c =
    steps-start c.args.body.rows.now c.args.body.pairs.now c.args.body.bytes.now c.args.firsts.now _ c.requires.rows_in_bounds.0

pub row_steps-first-requires-clause-r_in_bounds : goal.row_steps-first-requires-clause-r_in_bounds
row_steps-first-requires-clause-r_in_bounds c =
    row_room c.requires.tables.body c.loop-r-test.true c.loop-r.invariant _ (omega (arith, c.requires.rows_in_bounds.1))

pub overflow_cast-firsts : goal.overflow_cast-firsts
overflow_cast-firsts c =
    omega (arith, end-small c.requires.tables.body c.loop-r-test.true c.loop-r.invariant c.row_steps-first.ensures)

pub loop-r-preserved : goal.loop-r-preserved
loop-r-preserved c =
    steps-more c.requires.tables.body c.loop-r-test.true c.loop-r.invariant c.row_steps-first.ensures

pub returns : goal.returns
returns c =
    steps-end c.requires.tables.body c.loop-r.invariant (omega (arith, c.loop-r-test.false)) (omega (arith, c.requires.rows_in_bounds.1))
