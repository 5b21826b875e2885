-- The parent of row r, as the code reads it, is a row before r, whose entry is written; Filled.antt says that row r is given the right one by it.
-- Assumes nothing.
use mathlib.Core.Path.{refl}
use Prim.Native.Nat.{◌-◌, ◌≤◌, ◌<◌}
use native.Mathlib.Omega.{arith}
use lib.ListN.{length, length-set}
use Rattle.rules.specs.Rows.{row_count}
use Rattle.rules.specs.Class.{is_breakable, is_loop, is_case}
use Rattle.parents.proofs.Reading.{parent-word}
use Rattle.enclosing.specs.Enclosing.{breakable_word, loop_word, case_word}
use Rattle.enclosing.proofs.Filled.{ParentOf, filled-start, filled_more}
use Rattle.enclosing.proofs.enclosing_of.Goals as goal
use Rattle.enclosing.proofs.enclosing_of.Goals.{After-from-p}

parent : (c : After-from-p) → (0 < c.from-p.result) × ParentOf c.args.rows.now c.loop-r.r (c.from-p.result - 1)
parent c =
    let (some, before, child) =
    parent-word c.requires.formed.0.2 c.args.parents.now c.loop-r.r _ c.requires.formed.1 c.loop-r.invariant.some c.loop-r-test.true c.from-p.ensures in
    (some, record { before = before; child = child })

pub loop-r-init : goal.loop-r-init
loop-r-init c =
    let w = c.args.rows.now in
    let t = c.args.enclosing.now in
    let some = c.requires.formed.0.2.some_rows in record {
      some = omega arith;
      breakables = filled-start w is_breakable breakable_word t _ (omega arith) refl;
      loops = filled-start w is_loop loop_word t _ (omega arith) refl;
      cases = filled-start w is_case case_word t _ (omega arith) refl;
    }

pub overflow_sub-p : goal.overflow_sub-p
overflow_sub-p c = (parent (goal.at.overflow_sub-p c).After-from-p).0

pub slice_copy_out-around_child : goal.slice_copy_out-around_child
slice_copy_out-around_child c =
    omega (arith, (parent (goal.at.slice_copy_out-around_child c).After-from-p).1.before, simp length-set at c.loop-r.auto.enclosing)

pub around_child-requires : goal.around_child-requires
around_child-requires c =
    let body = c.requires.formed.0.2 in
    (omega (arith, (parent (goal.at.around_child-requires c).After-from-p).1.before), body.most_rows, body.details)

pub loop-r-preserved : goal.loop-r-preserved
loop-r-preserved c =
    let w = c.args.rows.now in
    let body = c.requires.formed.0.2 in
    let t = c.loop-r.enclosing in
    let row = c.loop-r-test.true in
    let room : row_count w ≤ length t = omega (arith, simp length-set at c.loop-r.auto.enclosing) in
    let (_, q) = parent (goal.at.loop-r-preserved c).After-from-p in
    let done = c.loop-r.invariant in
    let given = c.around_child.ensures in record {
      some = omega arith;
      breakables = filled_more w is_breakable breakable_word body t _ _ _ row room q given.breakable done.breakables;
      loops = filled_more w is_loop loop_word body t _ _ _ row room q given.repeated done.loops;
      cases = filled_more w is_case case_word body t _ _ _ row room q given.case done.cases;
    }
