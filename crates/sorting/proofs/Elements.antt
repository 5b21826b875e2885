-- How many elements of a list pass a test: over a joined list the sum, and after one more store one more element. What passes stands at some index,
-- and where at most one element passes, at no more than one.
-- Assumes nothing.
use mathlib.Core.Path.{◌≡◌, refl, ap}
use mathlib.Core.Bool.{Bool, true, false}
use mathlib.Core.List.{List, [], ◌∷◌, ◌++◌}
use Prim.Native.Nat.{ℕ, zero, suc, ◌+◌, ◌<◌, ◌≤◌}
use native.Mathlib.Omega.{arith}
use native.Mathlib.Decide.{ℕ_discrete}
use lib.ListN.{length, get_or, take, set}
use lib.Seq.{take-suc-set, get_or-set_same, get_or-set_other}
use Rattle.rules.proofs.Test.{case-of}
use Rattle.sorting.specs.Sorted.{passing}

-- what holds of each of the first k elements and of one more, each at its index
pub stored-all : (Q : ℕ → ℕ → Type 0) (out : List ℕ) (k e : ℕ) → k < length out → ((x : ℕ) → x < k → Q x (get_or out x 0)) → Q k e
    → (x : ℕ) → x < k + 1 → Q x (get_or (set out k e) x 0)
stored-all Q out k e h all one x l = elim (ℕ_discrete x k) [
  | yes i ↦ rw (i, get_or-set_same out k e 0 h) one
  | no o ↦ rw (get_or-set_other out k x e 0 o) (all x (omega arith))
]

module _ (P : ℕ → Bool) where
  pub passing-append : (s t : List ℕ) → passing P (s ++ t) ≡ passing P s + passing P t
  unfolding passing
  passing-append [] t = omega arith
  passing-append (x ∷ s) t = case-of (P x)
      (λ e. rw (e, passing) (omega (arith, passing-append s t)))
      (λ e. rw (e, passing) (passing-append s t))

  passing-yes : (x : ℕ) (s : List ℕ) → P x ≡ true → passing P (x ∷ s) ≡ suc (passing P s)
  unfolding passing
  passing-yes x s e = rw (e, passing)

  passing-no : (x : ℕ) (s : List ℕ) → P x ≡ false → passing P (x ∷ s) ≡ passing P s
  unfolding passing
  passing-no x s e = rw (e, passing)

  -- one element more, stored behind the first k
  pub passing-store : (s : List ℕ) (k x : ℕ) → k < length s → passing P (take (suc k) (set s k x)) ≡ passing P (take k s) + passing P (x ∷ [])
  passing-store s k x h = rw (take-suc-set s k x h) (passing-append (take k s) (x ∷ []))

  -- what passes is counted, and what is counted stands somewhere
  pub passing-at : (s : List ℕ) (j : ℕ) → j < length s → P (get_or s j 0) ≡ true → 0 < passing P s
  passing-at [] j h t = absurd (omega arith)
  passing-at (x ∷ s) zero h t = omega (arith, passing-yes x s t)
  passing-at (x ∷ s) (suc j) h t = case-of (P x)
      (λ e. omega (arith, passing-yes x s e))
      (λ e. omega (arith, passing-no x s e, passing-at s j (omega arith) t))

  pub passing-some : (s : List ℕ) → 0 < passing P s → (j : ℕ) × (j < length s) × (P (get_or s j 0) ≡ true)
  unfolding passing
  passing-some [] h = absurd (omega arith)
  passing-some (x ∷ s) h = case-of (P x)
      (λ e. (0, omega arith, e))
      (λ e. let r = passing-some s (omega (arith, passing-no x s e)) in (suc r.0, omega (arith, r.1), r.2))

  -- where none is counted none passes, and where no more than one is, none but one
  pub passing-one : (s : List ℕ) → passing P s ≤ 1 → (i j : ℕ) → i < length s → j < length s → P (get_or s i 0) ≡ true → P (get_or s j 0) ≡ true → i ≡ j
  passing-one [] o i j h l t u = absurd (omega arith)
  passing-one (x ∷ s) o zero zero h l t u = refl
  passing-one (x ∷ s) o zero (suc j) h l t u = absurd (omega (arith, passing-yes x s t, passing-at s j (omega arith) u))
  passing-one (x ∷ s) o (suc i) zero h l t u = absurd (omega (arith, passing-yes x s u, passing-at s i (omega arith) t))
  passing-one (x ∷ s) o (suc i) (suc j) h l t u = ap suc (passing-one s (omega (arith, passing-append (x ∷ []) s)) i j (omega arith) (omega arith) t u)

-- every element passes a test that is always true
pub passing-all : (s : List ℕ) → passing (λ x. true) s ≡ length s
unfolding passing
passing-all [] = refl
passing-all (x ∷ s) = omega (arith, passing-all s)
