-- Lists of reports: nothing is reported over all numbers exactly when nothing is at each, of two lists when nothing is in both, and under a test when it fails.
-- Where each number gives one word, there are as many words, each at its number.
-- Assumes nothing.
use mathlib.Core.Path.{◌≡◌, refl, ◌∙◌}
use mathlib.Core.Bool.{Bool, true, false}
use mathlib.Core.List.{List, [], ◌∷◌, ◌++◌}
use Prim.Native.Nat.{ℕ, zero, suc, ◌<◌}
use native.Mathlib.Omega.{arith}
use native.Mathlib.Decide.{ℕ_discrete}
use lib.ListN.{length, get_or, length-append, get_or-append}
use lib.Seq.{get_or_at}
use Rattle.rules.specs.Labels.{each, only}
use Rattle.rules.proofs.Test.{clash}

module _ {A : Type 0} where
  pub append-none : (xs ys : List A) → xs ++ ys ≡ [] → (xs ≡ []) × (ys ≡ [])
  append-none [] ys e = (refl, e)
  append-none (x ∷ xs) ys e = absurd (clash (cc))

  pub none-append : (xs ys : List A) → xs ≡ [] → ys ≡ [] → xs ++ ys ≡ []
  none-append xs ys e f = rw (e, f)

  pub only_none : (t : Bool) (x : A) → only t x ≡ [] → t ≡ false
  only_none true x e = absurd (clash (cc))
  only_none false x e = refl

  pub none_only : (t : Bool) (x : A) → t ≡ false → only t x ≡ []
  none_only t x e = rw e

  module _ (f : ℕ → List A) where
    pub each-zero : each f 0 ≡ []
    unfolding each
    each-zero = refl

    pub each-suc : (n : ℕ) → each f (suc n) ≡ each f n ++ f n
    unfolding each
    each-suc n = refl

    pub each_none : (n k : ℕ) → each f n ≡ [] → k < n → f k ≡ []
    unfolding each
    each_none zero k e h = absurd (omega arith)
    each_none (suc n) k e h =
        let a = append-none (each f n) (f n) e in
        elim (ℕ_discrete k n) [ yes i ↦ rw i a.1 | no o ↦ each_none n k a.0 (omega arith) ]

    pub none_each : (n : ℕ) → ((k : ℕ) → k < n → f k ≡ []) → each f n ≡ []
    unfolding each
    none_each zero h = refl
    none_each (suc n) h = none-append (each f n) (f n) (none_each n (λ k l. h k (omega arith))) (h n (omega arith))

-- ---- one word for each number below n
module _ (f : ℕ → ℕ) where
  pub each-length : (n : ℕ) → length (each (λ g. f g ∷ []) n) ≡ n
  each-length zero = rw (each-zero (λ g. f g ∷ []))
  each-length (suc n) = rw (each-suc (λ g. f g ∷ []) n, length-append) (omega (arith, each-length n))

  pub each_at : (n g : ℕ) → g < n → get_or (each (λ g. f g ∷ []) n) g 0 ≡ f g
  each_at zero g h = absurd (omega arith)
  each_at (suc n) g h = elim (ℕ_discrete g n) [
    | yes e ↦ rw (each-suc (λ g. f g ∷ []) n, e) (get_or_at (each (λ g. f g ∷ []) n) (f n) [] 0 n (each-length n))
    | no o ↦
        rw (each-suc (λ g. f g ∷ []) n)
        (get_or-append (each (λ g. f g ∷ []) n) (f n ∷ []) 0 g (omega (arith, each-length n)) ∙ each_at n g (omega arith))
  ]
