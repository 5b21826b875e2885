use mathlib.Core.Path.{refl, sym, ◌∙◌}
use native.Mathlib.Omega.{arith}
use borrow.Author.Count.{below_more}
use borrow.Author.Tests.{not-true, not-false}
use Rattle.rules.proofs.Scan.{found-lowest, none-lowest}
use Rattle.body.proofs.first_bad_row.Goals as goal

pub returns-then-not-row_allowed : goal.returns-then-not-row_allowed
returns-then-not-row_allowed c =
    sym (found-lowest _ _ _ c.loop-r-test.true
    (not-false _ (sym (c.row_allowed.ensures _ refl) ∙ c.if-not-row_allowed.true)) c.loop-r.invariant)

pub loop-r-preserved : goal.loop-r-preserved
loop-r-preserved c =
    below_more _ _ c.loop-r.invariant
    (not-true _ (sym (c.row_allowed.ensures _ refl) ∙ c.if-not-row_allowed.false))

pub returns : goal.returns
returns c = sym (none-lowest _ _ (λ k l. c.loop-r.invariant k (omega arith)))
