-- A turn of the loop ends the walk or goes on by a step of the table: the row's one step, or at a fork the chosen one. Turns.antt has the law of each.
-- Assumes nothing.
use mathlib.Core.Path.{◌≡◌, ◌∙◌, ap}
use Prim.Native.Nat.{ℕ, suc, ◌+◌, ◌-◌, ◌<◌}
use native.Mathlib.Omega.{arith}
use native.Mathlib.Numerals.{add-one}
use mathlib.Core.List.{List}
use lib.ListN.{length, get_or}
use borrow.Author.Rules.{rules}
use Rattle.rules.specs.Runner.{at}
use Rattle.rules.specs.Walking.{Inside}
use Rattle.steps.proofs.Reading.{next-first}
use Rattle.runner.proofs.Turns.{Turn, row_word, row_inside, first-in, turn-start, turn-limit, turn-ended, turn-goes, turn-no-choice, turn-refused}
use Rattle.runner.proofs.Turns.{chosen-in, turn-chooses, turn-skips, same_turn}
use Rattle.runner.proofs.walk_on.Goals as goal
use Rattle.runner.proofs.walk_on.Goals.{After-from-step, Joined-is_fork}
use Rattle.runner.proofs.walk_on.Goals.{then-is_fork+else-choices-used+else-from-step, else-is_fork}

-- ---- the row in hand
here : (c : After-from-step) → Inside c.args.table.faultless.body.rows.now (at (c.loop-made.place - 2))
here c = row_inside _ _ c.if-place-lt2.false c.loop-made.invariant.inside

pub loop-made-init : goal.loop-made-init
loop-made-init c = turn-start c.args.table.faultless.faultless c.args.choices.now c.args.limit

pub returns-then-place-lt2 : goal.returns-then-place-lt2
returns-then-place-lt2 c =
    c.reached.ensures
    ∙ turn-ended c.args.table.faultless.faultless _ _ _ _ _ c.loop-made.invariant c.loop-made-test.true c.if-place-lt2.true

pub returns-then-choices-used : goal.returns-then-choices-used
returns-then-choices-used c =
    c.reached-then-choices-used.ensures
    ∙ turn-no-choice c.args.table.faultless.faultless _ _ _ _ _ c.loop-made.invariant c.loop-made-test.true (c.loop-made.place - 2)
    (row_word _ c.if-place-lt2.false) c.args.table.is_table c.if-is_fork.ensures c.if-choices-used.true

-- where the steps of the next row begin
next-is : (f : List ℕ) (r : ℕ) → get_or f (r + 1) 0 ≡ get_or f (suc r) 0
next-is f r = ap (λ (n : ℕ). get_or f n 0) (add-one r)

pub overflow_sub-from : goal.overflow_sub-from
overflow_sub-from c =
    let t = (goal.at.overflow_sub-from c).After-from-step in
    let r = c.loop-made.place - 2 in
    omega (arith, c.from-step.ensures, c.from.ensures, next-is c.args.table.firsts.now r, next-first c.args.table.is_table r (here t).0)

pub returns-then-from-step : goal.returns-then-from-step
returns-then-from-step c =
    let r = c.loop-made.place - 2 in
    turn-refused c.args.table.faultless.faultless _ _ _ _ _ c.loop-made.invariant c.loop-made-test.true r (row_word _ c.if-place-lt2.false)
    c.args.table.is_table c.if-is_fork.ensures c.if-choices-used.false
    (omega (arith, c.from-step.ensures, c.from.ensures, next-is c.args.table.firsts.now r, c.if-from-step.true))

-- ---- past the fork, if it is one: a step below the limit, by a choice in range, is in the table and leads on
abbrev InRange : Joined-is_fork → Type 0
InRange c =
    c.loop-made.used < c.if-is_fork.used → c.if-is_fork.step < get_or c.args.table.firsts.now (c.loop-made.place - 2 + 1) 0

abbrev Leads : Joined-is_fork → Type 0
Leads c =
    let b = c.args.table.faultless.body in
    let step = c.if-is_fork.step in
    (step < length c.args.table.steps.now)
    × Turn b.rows.now b.pairs.now b.bytes.now c.args.choices.now c.args.limit
    (get_or c.args.table.steps.now step 0) (suc c.loop-made.made) c.if-is_fork.used

leads : (c : Joined-is_fork) → c.loop-made.made < c.args.limit → InRange c → Leads c
leads c h o =
    let r = c.loop-made.place - 2 in
    let w = row_word _ c.if-place-lt2.false in
    let firsts = c.args.table.firsts.now in
    let first = c.from-step.ensures in
    let g = c.args.table.faultless.faultless in
    elim c.if-is_fork.branch [
      | then-is_fork+else-choices-used+else-from-step x ↦
          let next = next-is firsts r in
          let fork = x.if-is_fork.ensures in
          let some = x.if-choices-used.false in
          let step : c.if-is_fork.step ≡ get_or firsts r 0 + get_or c.args.choices.now c.loop-made.used 0 = omega (arith, x.step-is) in
          let used : c.if-is_fork.used ≡ suc c.loop-made.used = omega (arith, x.used-is) in
          let below : get_or c.args.choices.now c.loop-made.used 0 < get_or firsts (suc r) 0 - get_or firsts r 0 = omega (arith, o (omega arith)) in
          rw (step, used) (
            chosen-in g _ _ _ _ _ c.loop-made.invariant h r w c.args.table.is_table fork some below,
            turn-chooses g _ _ _ _ _ c.loop-made.invariant h r w c.args.table.is_table fork some below,
          )
      | else-is_fork x ↦
          let step : c.if-is_fork.step ≡ get_or firsts r 0 = x.step-is ∙ first in
          rw (step, x.used-is) (
            first-in g c.args.table.is_table r (row_inside _ _ c.if-place-lt2.false c.loop-made.invariant.inside),
            turn-goes g _ _ _ _ _ c.loop-made.invariant h r w c.args.table.is_table x.if-is_fork.ensures,
          )
    ]

pub bounds-table-step : goal.bounds-table-step
bounds-table-step c =
    (leads (goal.at.bounds-table-step c).Joined-is_fork c.loop-made-test.true (search rules)).0

pub past_rounds-made-requires : goal.past_rounds-made-requires
past_rounds-made-requires c =
    let t = same_turn c.from-place.result _ (c.loop-made.made + 1) _ _ c.from-place.ensures (add-one _)
    (leads (goal.at.past_rounds-made-requires c).Joined-is_fork c.loop-made-test.true (search rules)).1 in
    (t.inside, t.within)

pub loop-made-preserved : goal.loop-made-preserved
loop-made-preserved c =
    turn-skips c.args.table.faultless.faultless _ _ _ _ _
    (same_turn c.from-place.result _ (c.loop-made.made + 1) _ _ c.from-place.ensures (add-one _)
    (leads (goal.at.loop-made-preserved c).Joined-is_fork c.loop-made-test.true (search rules)).1)
    _ c.past_rounds-made.ensures

pub returns : goal.returns
returns c =
    c.reached-2.ensures
    ∙ turn-limit c.args.table.faultless.faultless _ _ _ _ _ c.loop-made.invariant c.loop-made-test.false
