-- Row 0 is allowed, a Block of all rows and 1 deep, so it is a list and every other row is below it; and the walk says that the rows below it are right.
-- Assumes nothing.
use mathlib.Core.Path.{◌≡◌, refl, sym, ◌∙◌, ap, subst}
use mathlib.Core.Bool.{Bool, true, false, not}
use mathlib.Core.List.{List, [], ◌∷◌}
use Prim.Native.Nat.{ℕ, ◌≤◌, ◌<◌}
use native.Mathlib.Omega.{arith}
use native.Mathlib.Decide.{ℕ_discrete}
use lib.Dec.{eqb}
use borrow.Author.Tests.{not-true, eqb-true}
use Rattle.rules.specs.Rows.{row_count, size}
use Rattle.rules.specs.Class.{block, one_of, base, class}
use Rattle.rules.specs.Refusals.{holding, is_body, bad_row}
use Rattle.rules.proofs.Test.{and-true}
use Rattle.rules.proofs.Every.{is_one}
use Rattle.rules.proofs.Classes.{root-block}
use Rattle.rules.proofs.Facts.{good-row}
use Rattle.shape.specs.DetailedTo.{DetailedTo}
use Rattle.row_checks.specs.Parts.{is_list, item_kind}
use Rattle.row_checks.specs.Right.{Right, RightBelow, Met}
use Rattle.rows_fit.proofs.Deeper.{root-depth}
use Rattle.row_checks.proofs.RightRows.{right-size, right-shape}
use Rattle.rows_fit.proofs.well_formed_rows.Goals as goal

root-details : (w p : List ℕ) → bad_row w p 0 ≡ false → DetailedTo w 0
root-details w p g k l = let z : 0 ≡ k = omega arith in (good-row w p k (subst (λ (r : ℕ). bad_row w p r ≡ false) z g)).detailed

-- row 0, once it is allowed and a Block of all rows
module _ (w p : List ℕ) (some : 0 < row_count w) (g : bad_row w p 0 ≡ false) (b : is_body w ≡ true) where
  body-parts : (one_of (block ∷ []) (base w 0) ≡ true) × (eqb (size w 0) (row_count w) ≡ true)
  unfolding is_body
  body-parts = and-true (one_of (block ∷ []) (base w 0)) (eqb (size w 0) (row_count w)) b

  root_size : size w 0 ≡ row_count w
  root_size = eqb-true (size w 0) (row_count w) body-parts.1

  root-list : row_count w ≤ 2000 → Met w 0 1 × DetailedTo w 0 × (is_list (holding (class w 0)) ≡ true) × (item_kind (holding (class w 0)) ≡ 0)
  root-list most =
      let s = root_size in
      let m : Met w 0 1 = record {
        row = some;
        most_rows = most;
        some_rows = omega arith;
        within = omega arith;
        details = λ k l. absurd (omega arith);
        shallow = omega (arith, root-depth w);
        deepest = omega arith;
      } in
      let h = root-block w 0 (is_one (base w 0) block body-parts.0) refl in
      (m, root-details w p g, ap is_list h, ap item_kind h)

  all_right : RightBelow w p 0 → (k : ℕ) → k < row_count w → Right w p k
  all_right o k l =
      let s = root_size in
      elim (ℕ_discrete k 0) [
        | yes z ↦
            rw z record {
              allowed = g;
              sized = right-size w 0 (omega arith) (omega arith);
              shaped = right-shape w 0 (λ e. b) o.children;
              single = o.single;
              shallow = omega (arith, root-depth w);
            }
        | no n ↦ o.right k (omega arith) (omega arith)
      ]

-- ---- what the first test says
allowed : (w p : List ℕ) {t : Bool} → t ≡ not (bad_row w p 0) → t ≡ true → bad_row w p 0 ≡ false
allowed w p e y = not-true _ (sym e ∙ y)

pub is_body-requires : goal.is_body-requires
is_body-requires c =
    (c.requires.0, root-details c.args.rows.now c.args.pairs.now (allowed _ _ (c.row_allowed.ensures _ refl) c.if-not-row_allowed.false))

pub list_fits-requires : goal.list_fits-requires
list_fits-requires c =
    root-list c.args.rows.now c.args.pairs.now c.requires.0 (allowed _ _ (c.row_allowed.ensures _ refl) c.if-not-row_allowed.false)
    (sym c.is_body.ensures ∙ c.if-not-is_body.false) c.requires.1

pub returns : goal.returns
returns c y =
    all_right c.args.rows.now c.args.pairs.now c.requires.0 (allowed _ _ (c.row_allowed.ensures _ refl) c.if-not-row_allowed.false)
    (sym c.is_body.ensures ∙ c.if-not-is_body.false) (c.list_fits.ensures y _ refl)
