use mathlib.Core.Path.{sym}
use native.Mathlib.Omega.{arith}
use Rattle.rules.proofs.Around.{all-empty}
use Rattle.rows.specs.declared.kinds.Kind.TheVariants.{Empty}
use Rattle.rows.proofs.Numbers.{ne-true, ne-false}
use Rattle.placing.proofs.Ending.{empty-row, not-only-empty, all_more}
use Rattle.placing.proofs.only_empty.Goals as goal

pub returns-then-ne : goal.returns-then-ne
returns-then-ne c =
    not-only-empty _ _ (c.requires.0 c.loop-r.r (omega arith)) _ _ (ne-true _ Empty c.kind_at.ensures c.if-ne.ensures) c.loop-r.invariant.0
    c.loop-r-test.true

pub loop-r-preserved : goal.loop-r-preserved
loop-r-preserved c =
    let e = empty-row _ _ (c.requires.0 c.loop-r.r (omega arith)) (ne-false _ Empty c.kind_at.ensures c.if-ne.ensures) in
    (omega arith, all_more _ _ _ c.loop-r.invariant.1 e)

pub returns : goal.returns
returns c = sym (all-empty _ _ _ (λ k h l. c.loop-r.invariant.1 k h (omega arith)))
