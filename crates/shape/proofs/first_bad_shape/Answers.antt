use mathlib.Core.Path.{sym, ◌∙◌}
use native.Mathlib.Omega.{arith}
use borrow.Author.Tests.{not-false}
use Rattle.rules.specs.Refusals.{bad_shape}
use Rattle.rules.proofs.Scan.{found-lowest, none-lowest}
use Rattle.shape.proofs.first_bad_shape.Goals as goal

pub returns-then-not-shape_holds : goal.returns-then-not-shape_holds
returns-then-not-shape_holds c =
    let bad = not-false _ (sym c.shape_holds.ensures ∙ c.if-not-shape_holds.true) in
    sym (found-lowest (bad_shape c.args.rows.now) _ _ c.loop-r-test.true bad c.loop-r.invariant)

pub returns : goal.returns
returns c = sym (none-lowest (bad_shape c.args.rows.now) _ (λ k h. c.loop-r.invariant k (omega arith)))
