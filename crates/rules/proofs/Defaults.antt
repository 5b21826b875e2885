-- A second default, told by parents, is one told by children: a row is a child of its parent and of no other. So no row is a second default exactly where of
-- the children of each row at most one is a default clause; and only the Block of a switch or Select has such children.
-- Assumes nothing.
use mathlib.Core.Path.{◌≡◌, refl}
use mathlib.Core.Bool.{Bool, true, false, ◌&&◌}
use mathlib.Core.List.{List}
use mathlib.Core.Option.{some}
use Prim.Native.Nat.{ℕ, ◌≤◌, ◌<◌}
use native.Mathlib.Omega.{arith}
use lib.Dec.{ltb, eqb}
use borrow.Author.Tests.{lt-ltb, ltb-true, eqb-true, eq-eqb}
use Rattle.rules.specs.Scan.{how_many}
use Rattle.rules.specs.Rows.{row_count, end, parent, same_parent, Child}
use Rattle.rules.specs.Class.{is_default, base}
use Rattle.rules.specs.Refusals.{second_default}
use Rattle.rules.specs.Body.{Sized, SecondChild}
use Rattle.rules.proofs.Test.{case-found, clash, and-true, true-and}
use Rattle.rules.proofs.Scan.{some-counted, counted-some}
use Rattle.rules.proofs.Nesting.{child_parent, parent_child}

-- ---- the same parent
module _ (w : List ℕ) (q r : ℕ) where
  same-parent : (p : ℕ) → parent w q ≡ some p → parent w r ≡ some p → same_parent w q r ≡ true
  same-parent p e f = rw (e, f, same_parent) (eq-eqb p p refl)

  parent-same : same_parent w q r ≡ true → (p : ℕ) × (parent w q ≡ some p) × (parent w r ≡ some p)
  parent-same t = case-found (parent w q)
      (λ p e. case-found (parent w r)
      (λ s f. let u : eqb p s ≡ true = rw (e, f, same_parent) at t in (p, e, rw (eqb-true p s u) f))
      (λ f. let z : false ≡ true = rw (e, f, same_parent) at t in absurd (clash (cc))))
      (λ e. let z : false ≡ true = rw (e, same_parent) at t in absurd (clash (cc)))

-- q is a default clause with the same parent as r
abbrev beside : List ℕ → ℕ → ℕ → Bool
beside w r q = is_default (base w q) && same_parent w q r

module _ {w : List ℕ} (sized : Sized w) (inside : (p c : ℕ) → p < row_count w → Child w p c → end w c ≤ end w p) where
  -- a second default is a second one among the children of its parent
  pub second-child : (r : ℕ) → r < row_count w → second_default w r ≡ true → (p : ℕ) × (p < row_count w) × SecondChild w p r
  unfolding second_default
  second-child r l t =
      let a = and-true (is_default (base w r)) (ltb 0 (how_many (beside w r) r)) t in
      let (q, m, b) = counted-some (beside w r) r (ltb-true 0 (how_many (beside w r) r) a.1) in
      let d = and-true (is_default (base w q)) (same_parent w q r) b in
      let (p, e, f) = parent-same w q r d.1 in
      let own = parent_child sized inside r p l f in
      let before = parent_child sized inside q p (omega arith) e in
      (p, omega (arith, own.0), record { child = own.2; default = a.0; earlier = q; before = m; earlier_child = before.2; earlier_default = d.0 })

  -- and such a child is a second default
  pub child-second : (p r : ℕ) → p < row_count w → SecondChild w p r → second_default w r ≡ true
  unfolding second_default
  child-second p r l s =
      let same = same-parent w s.earlier r p (child_parent sized inside p s.earlier l s.earlier_child) (child_parent sized inside p r l s.child) in
      let both = true-and (is_default (base w s.earlier)) (same_parent w s.earlier r) s.earlier_default same in
      let found = some-counted (beside w r) r s.earlier s.before both in
      true-and (is_default (base w r)) (ltb 0 (how_many (beside w r) r)) s.default (lt-ltb 0 (how_many (beside w r) r) found)
