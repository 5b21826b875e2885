use mathlib.Core.Path.{sym, ◌∙◌}
use native.Mathlib.Omega.{arith}
use borrow.Author.Tests.{not-true}
use Rattle.input.proofs.Lengths.{not_last, less-left}
use Rattle.filter.proofs.Whole.{one_more}
use Rattle.filter.proofs.whole_length.Goals as goal

pub loop-input-smaller : goal.loop-input-smaller
loop-input-smaller g c =
    let going = not-true _ c.loop-input-test.true in
    less-left _ _ _ 65536 _ _ going (c.loop-input.invariant.1 going) (omega arith) c.read_on-input.ensures.length c.read_on-input.ensures.ended

pub loop-input-preserved : goal.loop-input-preserved
loop-input-preserved g c = (
  omega arith,
  λ e. rw c.read_on-input.ensures.length (not_last _ _ (sym c.read_on-input.ensures.ended ∙ e)),
  λ p. one_more _ _ _ _ _ _ c.in_ok-got.got 65536 _ _ _ (c.loop-input.invariant.2 p) c.in_ok-got.ensures.bytes c.in_ok-got.ensures.bound.1 (λ h. c.in_ok-got.ensures.end (omega arith)) c.read_on-input.ensures.length c.read_on-input.ensures.ended,
)
