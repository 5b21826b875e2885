use mathlib.Core.Path.{◌≡◌, sym}
use mathlib.Core.Bool.{true, false}
use mathlib.Core.List.{List}
use Prim.Native.Nat.{ℕ, ◌+◌, ◌<◌, ◌≤◌}
use native.Mathlib.Omega.{arith}
use borrow.Author.Count.{below_more}
use borrow.Author.Tests.{eq-eqb, ne_eqb, lt-ltb}
use Rattle.rules.specs.Rows.{row_count, size, end}
use Rattle.rules.specs.Refusals.{bad_size}
use Rattle.rules.proofs.Scan.{found-lowest, none-lowest}
use Rattle.row_checks.proofs.RightRows.{right-size}
use Rattle.body.proofs.first_bad_size.Goals as goal

module _ (w : List ℕ) (r s : ℕ) (e : s ≡ size w r) where
  no_rows : s ≡ 0 → bad_size w r ≡ true
  unfolding bad_size
  no_rows z = rw (eq-eqb (size w r) 0 (omega arith), bad_size)

  module _ (z : s ≡ 0 → ⊥) where
    past-rows : row_count w < r + s → bad_size w r ≡ true
    unfolding bad_size
    past-rows h = rw (ne_eqb (size w r) 0 (λ f. omega arith), lt-ltb (row_count w) (end w r) (omega arith), bad_size)

    good-size : r + s ≤ row_count w → bad_size w r ≡ false
    good-size h = right-size w r (omega arith) (omega arith)

pub returns-then-size-eq0 : goal.returns-then-size-eq0
returns-then-size-eq0 c =
    sym (found-lowest _ _ _ c.loop-r-test.true (no_rows _ _ _ c.size-size.ensures c.if-size-eq0.true) c.loop-r.invariant)

pub returns-then-count-r : goal.returns-then-count-r
returns-then-count-r c =
    sym (found-lowest _ _ _ c.loop-r-test.true
    (past-rows _ _ _ c.size-size.ensures c.if-size-eq0.false c.if-count-r.true) c.loop-r.invariant)

pub loop-r-preserved : goal.loop-r-preserved
loop-r-preserved c =
    below_more _ _ c.loop-r.invariant (good-size _ _ _ c.size-size.ensures c.if-size-eq0.false c.if-count-r.false)

pub returns : goal.returns
returns c = sym (none-lowest _ _ (λ k l. c.loop-r.invariant k (omega arith)))
