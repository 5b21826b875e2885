-- The turns of stepping through the children of a row, and the two parts of a row's shape: one law for each, so that nobody else opens the definitions.
-- Assumes nothing.
use mathlib.Core.Path.{◌≡◌, refl}
use mathlib.Core.Bool.{true, false, not, not-not, and-true, and-false}
use mathlib.Core.List.{List}
use Prim.Native.Nat.{ℕ, zero, suc, ◌≤◌, ◌<◌}
use lib.Dec.{leb, eqb}
use borrow.Author.Tests.{lt-ltb, le-ltb, le-leb, lt-leb, ne_eqb}
use Rattle.rules.specs.Rows.{row_count, kind, detail, size, end}
use Rattle.rules.specs.Class.{detail_allowed, base, class}
use Rattle.rules.specs.Refusals.{Holding, holding, may_hold, at_least, children_fit, is_body, bad_shape}
use Rattle.rules.proofs.ByKind.{kind-block}

-- with a step left, at the row c as child number i of a row that holds h and ends at e
module _ (w : List ℕ) (h : Holding) (e i c f : ℕ) where
  pub fits-ended : e ≤ c → children_fit (suc f) w h e i c ≡ leb (at_least h) i
  unfolding children_fit
  fits-ended p = rw (le-ltb c e p, children_fit)

  pub fits-barred : c < e → may_hold h i (base w c) ≡ false → children_fit (suc f) w h e i c ≡ false
  unfolding children_fit
  fits-barred p m = rw (lt-ltb c e p, m, children_fit)

  pub fits-past : c < e → e < end w c → children_fit (suc f) w h e i c ≡ false
  unfolding children_fit
  fits-past p l = rw (lt-ltb c e p, lt-leb (end w c) e l, and-false (may_hold h i (base w c)), children_fit)

  pub fits_next : c < e → may_hold h i (base w c) ≡ true → end w c ≤ e → children_fit (suc f) w h e i c ≡ children_fit f w h e (suc i) (end w c)
  unfolding children_fit
  fits_next p m l = rw (lt-ltb c e p, m, le-leb (end w c) e l, children_fit)

-- ---- the shape of a row: its children fit, and row 0 is a Block of all rows
pub shape-fits : (w : List ℕ) (r : ℕ)
    → (r ≡ 0 → is_body w ≡ true)
    → not (bad_shape w r) ≡ children_fit (size w r) w (holding (class w r)) (end w r) 0 (suc r)
unfolding bad_shape
shape-fits w zero b = rw (not-not, b refl, and-true)
shape-fits w (suc q) b = rw (not-not, and-true)

pub shape-no-body : (w : List ℕ) (r : ℕ) → r ≡ 0 → is_body w ≡ false → not (bad_shape w r) ≡ false
unfolding bad_shape
shape-no-body w r z b = rw (z, not-not, b, and-false)

-- ---- row 0
module _ (w : List ℕ) (a : detail_allowed (kind w 0) (detail w 0) ≡ true) where
  pub other-root : (kind w 0 ≡ 12 → ⊥) → is_body w ≡ false
  unfolding is_body base
  other-root n = rw (← kind-block (kind w 0) (detail w 0) a, ne_eqb (kind w 0) 12 n)

  pub block-root : kind w 0 ≡ 12 → is_body w ≡ eqb (size w 0) (row_count w)
  unfolding is_body base
  block-root k = rw (← kind-block (kind w 0) (detail w 0) a, k)
