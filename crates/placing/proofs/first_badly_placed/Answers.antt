use mathlib.Core.Path.{sym, ◌∙◌, ap}
use Prim.Native.Nat.{ℕ, ◌+◌}
use native.Mathlib.Omega.{arith}
use borrow.Author.Count.{below_none, below_more}
use Rattle.rules.specs.Rows.{row_count}
use Rattle.rules.specs.Class.{is_breakable, is_loop}
use Rattle.rules.specs.Placing.{badly_placed, placing}
use Rattle.rules.proofs.Scan.{found-lowest, none-lowest}
use Rattle.rules.proofs.Lists.{own-breakable, own-loop, by-words}
use Rattle.placing.proofs.Counting.{known_over}
use Rattle.placing.proofs.Reaching.{reach-none, reach-more}
use Rattle.placing.proofs.first_badly_placed.Goals as goal

pub loop-r-init : goal.loop-r-init
loop-r-init c = known_over c.next_that_counts-r.ensures (below_none _, reach-none _ is_breakable, reach-none _ is_loop)

pub returns-then-badly_placed : goal.returns-then-badly_placed
unfolding placing
returns-then-badly_placed c =
    let w = c.args.rows.now in
    sym (found-lowest (badly_placed w) (row_count w) c.loop-r.r (omega (arith, c.loop-r-test.true, c.requires.0.2.root_size))
    (sym c.badly_placed.ensures ∙ c.if-badly_placed.true) c.loop-r.invariant.0)

pub loop-r-preserved : goal.loop-r-preserved
loop-r-preserved d =
    let v = d.loop-r.invariant in
    let a = d.requires.0.2.details d.loop-r.r d.loop-r-test.true in
    let k = d.kind_at-kind.ensures in
    let e = ap (λ (n : ℕ). d.loop-r.r + n) d.size.ensures in
    known_over d.next_that_counts-r-in-loop-r.ensures (
      below_more _ _ v.0 (sym d.badly_placed.ensures ∙ d.if-badly_placed.false),
      reach-more _ is_breakable _ _ _ _ _ (by-words is_breakable _ _ _ _ (own-breakable _ d.loop-r.r) k a d.is_breakable.ensures) e v.1
          d.later_end-break_end.ensures,
      reach-more _ is_loop _ _ _ _ _ (by-words is_loop _ _ _ _ (own-loop _ d.loop-r.r) k a d.is_loop.ensures) e v.2
          d.later_end-loop_end.ensures,
    )

pub returns : goal.returns
unfolding placing
returns c =
    sym (none-lowest _ _ (λ k h. c.loop-r.invariant.0 k (omega (arith, c.loop-r-test.false, c.requires.0.2.root_size))))
