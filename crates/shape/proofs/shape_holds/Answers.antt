-- At row 0 a shape is right if the row is a Block of all rows and its children fit, at any other row if its children fit.
-- Assumes nothing.
use mathlib.Core.Path.{◌≡◌, sym, ◌∙◌, ap}
use mathlib.Core.Bool.{Bool, true, not}
use mathlib.Core.List.{List}
use Prim.Native.Nat.{ℕ, suc, ◌<◌}
use native.Mathlib.Omega.{arith}
use Rattle.rules.specs.Rows.{row_count, size, end}
use Rattle.rules.specs.Class.{class}
use Rattle.rules.specs.Refusals.{Holding as Holds, holding, children_fit, is_body, bad_shape}
use Rattle.rules.specs.Body.{Detailed}
use Rattle.rules.proofs.Children.{shape-fits, shape-no-body}
use Rattle.shape.specs.DetailedTo.{DetailedTo}
use Rattle.shape.proofs.shape_holds.Goals as goal
use Rattle.shape.proofs.shape_holds.Goals.{else-row-eq0-via-then-row-eq0+else-not-is_body, else-row-eq0-via-else-row-eq0}

-- t is what `children_fit` says with h, what the row holds
fitted : (w : List ℕ) (r : ℕ) (t : Bool) (h : Holds)
    → (r ≡ 0 → is_body w ≡ true)
    → h ≡ holding (class w r)
    → t ≡ children_fit (size w r) w h (end w r) 0 (suc r)
    → t ≡ not (bad_shape w r)
fitted w r t h b e f = f ∙ ap (λ (g : Holds). children_fit (size w r) w g (end w r) 0 (suc r)) e ∙ sym (shape-fits w r b)

-- the details of all rows are those up to any row
detailed-to : (w : List ℕ) (r : ℕ) → Detailed w → r < row_count w → DetailedTo w r
detailed-to w r d l k h = d k (omega arith)

pub is_body-requires : goal.is_body-requires
is_body-requires c =
    let l : 0 < row_count c.args.rows.now = omega (arith, c.requires.0) in (l, detailed-to c.args.rows.now 0 c.requires.2 l)

pub returns-then-not-is_body : goal.returns-then-not-is_body
returns-then-not-is_body c =
    let other = sym c.is_body.ensures ∙ c.if-not-is_body.true in
    sym (shape-no-body c.args.rows.now c.args.row.0 c.if-row-eq0.true other)

pub holding_at-requires : goal.holding_at-requires
holding_at-requires c = (c.requires.0, detailed-to c.args.rows.now c.args.row.0 c.requires.2 c.requires.0)

pub returns : goal.returns
returns c =
    let root : c.args.row.0 ≡ 0 → is_body c.args.rows.now ≡ true =
    elim c.else-row-eq0.branch [
      | else-row-eq0-via-then-row-eq0+else-not-is_body w ↦ λ z. sym w.is_body.ensures ∙ w.if-not-is_body.false
      | else-row-eq0-via-else-row-eq0 w ↦ λ z. absurd (w.if-row-eq0.false z)
    ] in
    fitted c.args.rows.now c.args.row.0 _ _ root c.holding_at.ensures c.children_fit.ensures
