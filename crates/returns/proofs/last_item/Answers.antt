use Prim.Native.Nat.{◌+◌, ◌<◌}
use native.Mathlib.Omega.{arith}
use Rattle.rules.specs.Rows.{row_count}
use Rattle.returns.proofs.LastItem.{begin, step, ended}
use Rattle.returns.proofs.last_item.Goals as goal

pub loop-c-init : goal.loop-c-init
loop-c-init c = begin c.requires.3

pub loop-size-init : goal.loop-size-init
loop-size-init c =
    let h : c.loop-c.c < row_count c.args.rows.now = omega (arith, c.loop-c.invariant.within) in (
      omega arith,
      omega arith,
      omega (arith, c.requires.0.some_rows c.loop-c.c h),
      omega (arith, c.requires.0.within c.loop-c.c h),
      step c.requires.1 c.loop-c.invariant c.loop-c-test.true c.requires.2 c.size-size.ensures c.unless_empty-last.ensures,
    )

pub returns-then-end-c : goal.returns-then-end-c
returns-then-end-c c = ended _ c.loop-size.invariant.4 (omega arith)

pub loop-size-preserved : goal.loop-size-preserved
loop-size-preserved c =
    let n = c.loop-size.c in
    let h : n + 1 < row_count c.args.rows.now = omega (arith, c.loop-size.invariant.4.within) in (
      omega arith,
      omega arith,
      omega (arith, c.requires.0.some_rows (n + 1) h),
      omega (arith, c.requires.0.within (n + 1) h),
      step c.requires.1 (rw c.loop-size-test.true at c.loop-size.invariant.4) (omega arith) c.requires.2
          c.size-size-in-loop-size.ensures c.unless_empty-last-in-loop-size.ensures,
    )

pub returns : goal.returns
returns c = ended _ c.loop-c.invariant c.loop-c-test.false
