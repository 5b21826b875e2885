-- The row is the latest declaration of its list, which is a row before it: `declared` puts it into the list's context and leaves the label there.
-- Assumes nothing.
use native.Mathlib.Omega.{arith}
use Rattle.label_walk.proofs.TableSteps.{declared-list, declared}
use Rattle.label_walk.proofs.decl_branches.Goals as goal

pub overflow_sub-list : goal.overflow_sub-list
overflow_sub-list c = (declared-list c.requires c.from-list.ensures).0

pub slice_copy_out-ctx : goal.slice_copy_out-ctx
slice_copy_out-ctx c = omega (arith, declared-list c.requires c.from-list.ensures)

pub bounds-contexts-list : goal.bounds-contexts-list
bounds-contexts-list c = omega (arith, declared-list c.requires c.from-list.ensures)

pub returns : goal.returns
returns c = declared c.requires c.from-list.ensures c.declared.ensures
