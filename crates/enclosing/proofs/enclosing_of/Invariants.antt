-- The invariant: the entries below r are written, in all three words. In a turn row r is given what its parent gives it, as Filled.antt says.
-- Assumes nothing.
use Prim.Native.Nat.{◌<◌}
use Rattle.rules.specs.Class.{is_breakable, is_loop, is_case}
use Rattle.enclosing.specs.Enclosing.{breakable_word, loop_word, case_word, EnclosingBelow}
use Rattle.enclosing.proofs.enclosing_of.Given as goal

abbrev pub invariant-loop-r : goal.invariant-loop-r
invariant-loop-r l = record {
  some : 0 < l.r;
  breakables : EnclosingBelow l.rows is_breakable breakable_word l.enclosing l.r;
  loops : EnclosingBelow l.rows is_loop loop_word l.enclosing l.r;
  cases : EnclosingBelow l.rows is_case case_word l.enclosing l.r;
}
