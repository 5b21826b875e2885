-- A row in hand that reaches past r is the innermost; where it has ended, the one around it is next; with none in hand there is none.
-- Assumes nothing.
use mathlib.Core.Path.{◌∙◌}
use Prim.Native.Nat.{suc, ◌<◌}
use native.Mathlib.Omega.{arith}
use Rattle.rules.specs.Labels.{word}
use Rattle.rows.specs.Found.{row_found}
use Rattle.lists.specs.Listed.{Open}
use Rattle.lists.proofs.Opened.{open-reaches, open-empty, open-outer}
use Rattle.lists.proofs.still_open.Goals as goal

-- where the row in hand has ended, the row around it is next
next : (c : goal.After-row_of-open)
    → Open c.args.rows.now (word (row_found c.row_of-open.result)) c.args.r × (word (row_found c.row_of-open.result) < suc c.in-Some.row.0)
next c =
    let s = rw c.in-Some.is at c.loop-open.invariant in
    open-outer _ _ _ s _ (omega (arith, c.size.ensures)) (c.row_of-open.ensures ∙ c.requires.sized.2 c.in-Some.row.0 (omega (arith, s.before)))

pub returns-then-r-row : goal.returns-then-r-row
returns-then-r-row c = open-reaches _ _ _ (rw c.in-Some.is at c.loop-open.invariant) (omega (arith, c.size.ensures))

pub loop-open-smaller : goal.loop-open-smaller
loop-open-smaller c = rw c.in-Some.is (next c).1

pub loop-open-preserved : goal.loop-open-preserved
loop-open-preserved c = (next c).0

pub returns : goal.returns
returns c = open-empty _ _ (rw c.in_default.is at c.loop-open.invariant)
