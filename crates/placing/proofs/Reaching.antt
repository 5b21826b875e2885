-- How far the rows before r reach decides whether one of them that passes is around r: the one that ends last does, if any does.
-- Assumes nothing.
use mathlib.Core.Path.{◌≡◌, sym, ◌∙◌}
use mathlib.Core.Bool.{Bool, true}
use mathlib.Core.List.{List}
use mathlib.Core.Logic.{⊎_elim}
use Prim.Native.Nat.{ℕ, ◌+◌, ◌<◌}
use native.Mathlib.Omega.{arith}
use native.Mathlib.Decide.{ℕ_discrete}
use lib.Dec.{ltb}
use borrow.Author.Tests.{ltb-true, ltb-false}
use Rattle.rules.specs.Rows.{end}
use Rattle.rules.specs.Class.{Class, class}
use Rattle.rules.specs.Scope.{innermost}
use Rattle.rules.specs.Labels.{is_some}
use Rattle.rules.proofs.Test.{case-of, case-found}
use Rattle.rules.proofs.Around.{innermost-found, innermost-none}
use Rattle.rules.proofs.Found.{some_is, none_is}
use Rattle.placing.specs.Reach.{Reach, Later}

module _ (w : List ℕ) (P : Class → Bool) where
  pub reach-none : Reach w P 0 0
  reach-none = record { most = λ k h t. absurd (omega arith); some = λ h. absurd (omega arith) }

  -- t says whether row r passes, y is its end
  pub reach-more : (r e x y : ℕ) (t : Bool) → t ≡ P (class w r) → y ≡ end w r → Reach w P r e → Later e t y x → Reach w P (r + 1) x
  reach-more r e x y t q i s l = record {
    most = λ k h u. elim (ℕ_discrete k r) [
      | yes z ↦ let v : P (class w r) ≡ true = rw z at u in rw z (omega (arith, l.counted (q ∙ v)))
      | no n ↦ omega (arith, l.least, s.most k (omega arith) u)
    ];
    some = λ h. ⊎_elim
        (λ (a : x ≡ e). let (k, m, u, f) = s.some (omega arith) in (k, omega arith, u, f ∙ sym a))
        (λ a. (r, omega arith, sym q ∙ a.0, sym i ∙ sym a.1))
        l.either;
  }

  pub reach-found : (r e : ℕ) → Reach w P r e → ltb r e ≡ is_some (innermost w P r)
  reach-found r e s = case-of (ltb r e)
      (λ t.
      let h : r < e = ltb-true r e t in
      let (k, m, u, f) = s.some (omega arith) in
      case-found (innermost w P r) (λ j g. t ∙ sym (some_is (innermost w P r) j g))
      (λ g. absurd (innermost-none w P r k g (record { before = m; reaches = omega arith; passes = u }))))
      (λ t.
      let h = ltb-false r e t in
      case-found (innermost w P r)
      (λ j g. let i = innermost-found w P r j g in absurd (omega (arith, i.reaches, s.most j i.before i.passes)))
      (λ g. t ∙ sym (none_is (innermost w P r) g)))
