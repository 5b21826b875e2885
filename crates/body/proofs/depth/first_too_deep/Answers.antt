use mathlib.Core.Path.{◌≡◌, refl, sym, ap}
use mathlib.Core.Bool.{true, false}
use mathlib.Core.List.{List}
use Prim.Native.Nat.{ℕ, ◌+◌, ◌-◌, ◌<◌, ◌≤◌}
use native.Mathlib.Omega.{arith}
use borrow.Author.Count.{below_none, below_more}
use borrow.Author.Tests.{lt-ltb, le-ltb}
use lib.Dec.{ltb}
use lib.ListN.{length, get_or, length-set}
use Rattle.rules.specs.Rows.{row_count, size, end, depth}
use Rattle.rules.specs.Body.{Sized}
use Rattle.rules.specs.Refusals.{cause6}
use Rattle.rules.proofs.Scan.{found-lowest, none-lowest}
use Rattle.rules.proofs.Count.{Counted, counted_none, counts-most, counted-after, counted-more}
use Rattle.body.proofs.depth.first_too_deep.Goals as goal

module _ (w ends : List ℕ) (ended r v : ℕ) (s : Counted (end w) ends ended r) (h : r < length ends) (e : v ≡ get_or ends r 0) where
  depth_is : depth w r + (ended + v) ≡ r + 1
  unfolding depth
  depth_is = omega (arith, counted-after (end w) ends ended r s h v e)

  too-deep : 100 < r + 1 - (ended + v) → ltb 100 (depth w r) ≡ true
  too-deep l = lt-ltb 100 (depth w r) (omega (arith, depth_is))

  not-deep : r + 1 - (ended + v) ≤ 100 → ltb 100 (depth w r) ≡ false
  not-deep l = le-ltb 100 (depth w r) (omega (arith, depth_is))

  -- no more rows have ended than begun
  no_more : ended + v ≤ r + 1
  no_more = omega (arith, depth_is)

-- the row ends after itself, at most at the last row's end
module _ (w : List ℕ) (r n : ℕ) (s : Sized w) (l : r < row_count w) (z : n ≡ size w r) where
  some_rows : r < r + n
  some_rows = omega (arith, s.some_rows r l)

  within : r + n ≤ row_count w
  within = omega (arith, s.within r l)

pub loop-r-init : goal.loop-r-init
loop-r-init c = (refl, counted_none _ 2001, below_none _)

pub overflow_add-ended : goal.overflow_add-ended
overflow_add-ended c = omega (arith, no_more _ _ _ _ _ c.loop-r.invariant.1 (omega arith) c.from-ended.ensures)

pub overflow_sub-r : goal.overflow_sub-r
overflow_sub-r c = no_more _ _ _ _ _ c.loop-r.invariant.1 (omega arith) c.from-ended.ensures

pub returns-then-r-ended-gt100 : goal.returns-then-r-ended-gt100
unfolding cause6
returns-then-r-ended-gt100 c =
    sym (found-lowest _ _ _ c.loop-r-test.true
    (too-deep _ _ _ _ _ c.loop-r.invariant.1 (omega arith) c.from-ended.ensures c.if-r-ended-gt100.true) c.loop-r.invariant.2)

pub overflow_add-ends : goal.overflow_add-ends
overflow_add-ends c =
    let i : c.loop-r.r + c.size.result < length c.loop-r.ends = omega (arith, within _ _ _ c.requires.0 c.loop-r-test.true c.size.ensures) in
    omega (arith, counts-most _ c.loop-r.ends c.loop-r.ended c.loop-r.r c.loop-r.invariant.1 (c.loop-r.r + c.size.result) i)

pub loop-r-preserved : goal.loop-r-preserved
loop-r-preserved c =
    let h : c.loop-r.r < length c.loop-r.ends = omega arith in (
      simp length-set c.loop-r.invariant.0,
      counted-more _ _ _ _ c.loop-r.invariant.1 h _ c.from-ended.ensures _ (ap (λ n. c.loop-r.r + n) c.size.ensures)
          (some_rows _ _ _ c.requires.0 c.loop-r-test.true c.size.ensures)
          (omega (arith, within _ _ _ c.requires.0 c.loop-r-test.true c.size.ensures)),
      below_more _ _ c.loop-r.invariant.2 (not-deep _ _ _ _ _ c.loop-r.invariant.1 h c.from-ended.ensures c.if-r-ended-gt100.false),
    )

pub returns : goal.returns
unfolding cause6
returns c = sym (none-lowest _ _ (λ k l. c.loop-r.invariant.2 k (omega arith)))
