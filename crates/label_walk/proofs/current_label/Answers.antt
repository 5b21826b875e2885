-- Each way out is one law of CurrentLabel.antt: no list, no label in it, a label whose statement has ended, and one whose statement goes on.
-- Assumes nothing.
use native.Mathlib.Omega.{arith}
use Rattle.label_walk.proofs.TableSteps.{outside, block-place, unlabelled-block, label-row, ended, current}
use Rattle.label_walk.proofs.current_label.Goals as goal

pub returns-in_err-list : goal.returns-in_err-list
returns-in_err-list c = rw c.from_residual.ensures (outside c.requires c.in_err-list.ensures)

pub bounds-contexts-list : goal.bounds-contexts-list
bounds-contexts-list c = block-place c.requires c.in_ok-list.ensures

pub returns-in_err-label : goal.returns-in_err-label
returns-in_err-label c =
    rw c.from_residual-in_err-label.ensures (unlabelled-block c.requires c.in_ok-list.ensures c.in_err-label.ensures)

pub size-requires : goal.size-requires
size-requires c = label-row c.requires c.in_ok-list.ensures c.in_ok-label.ensures

pub returns-then-label-size : goal.returns-then-label-size
returns-then-label-size c =
    ended c.requires c.in_ok-list.ensures c.in_ok-label.ensures c.size.ensures (omega (arith, c.if-label-size.true))

pub returns : goal.returns
returns c = current c.requires c.in_ok-list.ensures c.in_ok-label.ensures c.size.ensures c.if-label-size.false
