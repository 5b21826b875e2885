-- The rows around a row are its parent and the rows around that: no row between the two reaches past the row. So the innermost of some classes around it is
-- its parent, if that is one, else its parent's own.
-- Assumes nothing.
use mathlib.Core.Path.{◌≡◌, sym, ◌∙◌}
use mathlib.Core.Bool.{Bool, true, false}
use mathlib.Core.List.{List}
use Prim.Native.Nat.{ℕ, ◌<◌}
use native.Mathlib.Omega.{arith}
use native.Mathlib.Decide.{ℕ_discrete, dec_lt}
use Rattle.rules.specs.Rows.{row_count, Child}
use Rattle.rules.specs.Class.{Class, class}
use Rattle.rules.specs.Scope.{innermost}
use Rattle.rules.specs.Body.{Body}
use Rattle.rules.proofs.Test.{case-found, clash}
use Rattle.rules.proofs.Nesting.{item-before, item_from, ends-before}
use Rattle.rules.proofs.Around.{Innermost, innermost-found, innermost-last, innermost-none}
use Rattle.rules.proofs.Lists.{found-innermost, none-innermost}

module _ {w p b : List ℕ} (body : Body w p b) (P : Class → Bool)
    (j c : ℕ) (row : j < row_count w) (child : Child w j c) (other : P (class w j) ≡ false) where
  -- what is around the child and passes is around its parent
  around-parent : (q : ℕ) → Innermost w P c q → Innermost w P j q
  around-parent q i = elim (dec_lt q j) [
    | yes y ↦
        let from = item_from child in
        record { before = y; reaches = omega (arith, i.reaches); passes = i.passes }
    | no n ↦ elim (ℕ_discrete q j) [
      | yes y ↦ let z : P (class w j) ≡ true = rw y at i.passes in absurd (clash (cc))
      | no m ↦
          absurd
          (omega (arith, i.reaches, ends-before body.sized body.child_within (body.sized.within j row) child q (omega arith) i.before))
    ]
  ]

  around-child : (q : ℕ) → Innermost w P j q → Innermost w P c q
  around-child q i =
      let from = item_from child in
      let l = i.before in
      let n = body.nested q j (omega arith) l i.reaches in
      record { before = omega arith; reaches = omega (arith, item-before child); passes = i.passes }

  pub inherited : innermost w P c ≡ innermost w P j
  inherited = case-found (innermost w P j)
      (λ k e.
      found-innermost w P c k (around-child k (innermost-found w P j k e))
      (λ q a i. innermost-last w P j k q e a (around-parent q i))
      ∙ sym e)
      (λ e. none-innermost w P c (λ q i. innermost-none w P j q e (around-parent q i)) ∙ sym e)
