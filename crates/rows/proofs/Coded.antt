-- An enum whose values have numbers, as the documents number the kinds and the branches, in the order in which it is written: from a value of the code to its
-- number, of which the rules speak. Let `a : number k ≡ m` be what a function ensures of its result k.
--   an arm of one variant n                is-number a c.in-N.is : m ≡ number n
--   an arm that leaves n out               not-number a c.in_default.not-N : m ≡ number n → ⊥
--   `if k == n`                            eq-true _ n a c.if-eq.ensures : m ≡ number n; where it fails, eq-false _ n a c.if-eq.ensures : m ≡ number n → ⊥
--   `if k != n`                            ne-true _ n a c.if-ne.ensures : m ≡ number n → ⊥; where it fails, ne-false _ n a c.if-ne.ensures : m ≡ number n
--   the value of `k == n`                  c.eq.ensures ∙ eq-test _ n a : c.eq.result ≡ eqb m (number n)
-- Assumes nothing.
use mathlib.Core.Path.{◌≡◌, sym, ◌∙◌, ap}
use mathlib.Core.Bool.{true, false, not}
use Prim.Native.Nat.{ℕ}
use lib.Dec.{eqb}
use denote.Enum.Bare.{Bare, sameb, same_true, differs_true, differs_false}
use denote.Enum.Declared.{Declared, tag_of}
use borrow.Author.Tests.{eqb-true, eq-eqb}
use Rattle.rules.proofs.Test.{clash}

module _ (D : Declared) (bare : Bare D.parts) (number : D.D → ℕ) (tag : (k : D.D) → tag_of D k ≡ number k) where
  pub is-number : {k n : D.D} {m : ℕ} → number k ≡ m → k ≡ n → m ≡ number n
  is-number a e = sym a ∙ ap number e

  pub eq-test : (k n : D.D) {m : ℕ} → number k ≡ m → sameb D k n ≡ eqb m (number n)
  eq-test k n a = rw (tag k, tag n, a)

  from-number : (k n : D.D) {m : ℕ} → number k ≡ m → m ≡ number n → k ≡ n
  from-number k n {m} a e = same_true D bare k n (eq-test k n a ∙ eq-eqb m (number n) e)

  pub not-number : {k n : D.D} {m : ℕ} → number k ≡ m → (k ≡ n → ⊥) → m ≡ number n → ⊥
  not-number {k} {n} a f e = f (from-number k n a e)

  -- ---- a comparison
  pub eq-true : (k n : D.D) {m : ℕ} → number k ≡ m → true ≡ sameb D k n → m ≡ number n
  eq-true k n {m} a t = eqb-true m (number n) (sym (t ∙ eq-test k n a))

  pub eq-false : (k n : D.D) {m : ℕ} → number k ≡ m → false ≡ sameb D k n → m ≡ number n → ⊥
  eq-false k n {m} a f e = clash (cc (f ∙ eq-test k n a, eq-eqb m (number n) e))

  pub ne-true : (k n : D.D) {m : ℕ} → number k ≡ m → true ≡ not (sameb D k n) → m ≡ number n → ⊥
  ne-true k n a t e = differs_true D k n (sym t) (from-number k n a e)

  pub ne-false : (k n : D.D) {m : ℕ} → number k ≡ m → false ≡ not (sameb D k n) → m ≡ number n
  ne-false k n a f = is-number a (differs_false D bare k n (sym f))
