-- The canonical number of a name is 0 for no name and for `_`, and else the first name number with its bytes, which is at most the number of pairs.
-- So names of the body other than these have the same canonical number exactly when their bytes are the same.
-- Assumes nothing.
use mathlib.Core.Path.{◌≡◌, refl, sym, ◌∙◌}
use mathlib.Core.Bool.{true, false}
use mathlib.Core.List.{List}
use Prim.Native.Nat.{ℕ, zero, suc, ◌<◌, ◌≤◌}
use native.Mathlib.Omega.{arith}
use Rattle.rules.specs.Names.{count_of_pairs, name_bytes, is_blank}
use Rattle.rules.proofs.Test.{case-of}
use Rattle.canonical.specs.First.{first}
use Rattle.canonical.proofs.Firsts.{first_above, first-within, same_first, first-same, first-bytes}
use Rattle.tables.specs.Canon.{canon}

module _ (p b : List ℕ) where
  -- ---- its value by the name
  pub canon-none : canon p b 0 ≡ 0
  unfolding canon
  canon-none = refl

  pub canon-blank : (n : ℕ) → is_blank p b n ≡ true → canon p b n ≡ 0
  unfolding canon
  canon-blank zero t = refl
  canon-blank (suc m) t = rw (t, canon)

  pub canon-first : (n : ℕ) → 0 < n → is_blank p b n ≡ false → canon p b n ≡ first p b n
  unfolding canon
  canon-first zero z f = absurd (omega arith)
  canon-first (suc m) z f = rw (f, canon)

  -- a name with a canonical number
  pub record Canonical (n : ℕ) : Type 0 where
    pub has-name : 0 < n
    pub not_blank : is_blank p b n ≡ false
    pub is-first : canon p b n ≡ first p b n

  pub canonical : (n : ℕ) → 0 < canon p b n → Canonical n
  canonical zero z = absurd (omega (arith, canon-none))
  canonical (suc m) z = case-of (is_blank p b (suc m)) (λ t. absurd (omega (arith, canon-blank (suc m) t)))
      (λ f. record { has-name = omega arith; not_blank = f; is-first = canon-first (suc m) (omega arith) f })

  -- a name of the body that is not `_` has one
  pub canon-above : (n : ℕ) → 0 < n → n ≤ count_of_pairs p → is_blank p b n ≡ false → 0 < canon p b n
  canon-above n z h f = omega (arith, canon-first n z f, first_above p b n z h)

  pub canon-within : (n : ℕ) → canon p b n ≤ count_of_pairs p
  canon-within zero = omega (arith, canon-none)
  canon-within (suc m) = case-of (is_blank p b (suc m)) (λ t. omega (arith, canon-blank (suc m) t))
      (λ f. omega (arith, canon-first (suc m) (omega arith) f, first-within p b (suc m)))

  -- it has the name's bytes
  pub canon-own : (n : ℕ) → n ≤ count_of_pairs p → 0 < canon p b n → name_bytes p b (canon p b n) ≡ name_bytes p b n
  canon-own n h z = let x = canonical n z in rw x.is-first (first-bytes p b n x.has-name h)

  -- ---- two names
  module _ (m n : ℕ) where
    pub same-canon : m ≤ count_of_pairs p → n ≤ count_of_pairs p → 0 < canon p b n → canon p b m ≡ canon p b n → name_bytes p b m ≡ name_bytes p b n
    same-canon g h z e =
        let x = canonical m (omega arith) in
        let y = canonical n z in
        first-same p b m n x.has-name g y.has-name h (sym x.is-first ∙ e ∙ y.is-first)

    same-blank : name_bytes p b m ≡ name_bytes p b n → is_blank p b m ≡ is_blank p b n
    unfolding is_blank
    same-blank e = rw e

    pub canon-same : 0 < m → 0 < n → name_bytes p b m ≡ name_bytes p b n → canon p b m ≡ canon p b n
    canon-same y z e = case-of (is_blank p b n) (λ t. canon-blank m (same-blank e ∙ t) ∙ sym (canon-blank n t))
        (λ f. canon-first m y (same-blank e ∙ f) ∙ same_first p b m n e ∙ sym (canon-first n z f))
