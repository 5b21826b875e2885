-- Each turn goes on from a row without a fork by its one step. A place that comes back to where it began closes a round.
-- Assumes nothing.
use mathlib.Core.Path.{◌≡◌, sym, ◌∙◌, ap, subst}
use Prim.Native.Nat.{ℕ, ◌+◌, ◌-◌}
use native.Mathlib.Omega.{arith}
use lib.ListN.{get_or}
use Rattle.rules.specs.Runner.{at}
use Rattle.rules.specs.Walking.{place_of, Inside}
use Rattle.runner.specs.Rounds.{Goes}
use Rattle.runner.proofs.Turns.{row_word, row_inside, first-in, first-inside}
use Rattle.runner.proofs.Rounding.{goes-start, goes-more}
use Rattle.runner.proofs.round_from.Goals as goal
use Rattle.runner.proofs.round_from.Goals.{After-is_fork, After-from-here}

-- ---- the row in hand
stands : (c : After-is_fork) → Inside c.args.table.faultless.body.rows.now (at (c.loop-made.here - 2))
stands c = row_inside _ _ c.if-here-lt2.false c.loop-made.invariant.0

pub loop-made-init : goal.loop-made-init
loop-made-init c = (c.requires, goes-start _ _ _ c.args.place)

pub bounds-table-from : goal.bounds-table-from
bounds-table-from c =
    let t = (goal.at.bounds-table-from c).After-is_fork in
    omega (arith, c.from.ensures, first-in c.args.table.faultless.faultless c.args.table.is_table (c.loop-made.here - 2) (stands t))

-- the place after it
next_place : (c : After-from-here) →
    c.from-here.result ≡ get_or c.args.table.steps.now (get_or c.args.table.firsts.now (c.loop-made.here - 2) 0) 0
next_place c = c.from-here.ensures ∙ ap (λ (n : ℕ). get_or c.args.table.steps.now n 0) c.from.ensures

next-stands : (c : After-from-here) → Inside c.args.table.faultless.body.rows.now (place_of c.from-here.result)
next-stands c =
    subst (λ (q : ℕ). Inside c.args.table.faultless.body.rows.now (place_of q)) (sym (next_place c))
    (first-inside c.args.table.faultless.faultless c.args.table.is_table (c.loop-made.here - 2) (row_inside _ _ c.if-here-lt2.false c.loop-made.invariant.0))

next-round : (c : After-from-here) →
    let b = c.args.table.faultless.body in
    Goes b.rows.now b.pairs.now b.bytes.now c.args.place (c.loop-made.made + 1) c.from-here.result
next-round c =
    let b = c.args.table.faultless.body in
    subst (Goes b.rows.now b.pairs.now b.bytes.now c.args.place (c.loop-made.made + 1)) (sym (next_place c))
    (goes-more _ _ _ c.args.table.faultless.faultless c.args.table.is_table c.args.place c.loop-made.made c.loop-made.here (c.loop-made.here - 2)
    (row_word _ c.if-here-lt2.false) (row_inside _ _ c.if-here-lt2.false c.loop-made.invariant.0) c.loop-made.invariant.1 c.if-is_fork.ensures)

pub returns-then-here-place : goal.returns-then-here-place
returns-then-here-place c =
    let b = c.args.table.faultless.body in (
      omega arith,
      subst (Goes b.rows.now b.pairs.now b.bytes.now c.args.place (c.loop-made.made + 1)) c.if-here-place.true
          (next-round (goal.at.returns-then-here-place c).After-from-here),
    )

pub loop-made-preserved : goal.loop-made-preserved
loop-made-preserved c = let t = (goal.at.loop-made-preserved c).After-from-here in (next-stands t, next-round t)
