-- The laws of the canonical number, the first name number with the same bytes. A name of the body is found by the scan, since it has its own
-- bytes; what is found has them too. So two names of the body have the same canonical number exactly when their bytes are the same.
-- Assumes nothing.
use mathlib.Core.Path.{◌≡◌, refl, sym, ◌∙◌, ap}
use mathlib.Core.Bool.{Bool, true, false}
use mathlib.Core.List.{List}
use mathlib.Core.Option.{none, some}
use Prim.Native.Nat.{ℕ, suc, ◌-◌, ◌<◌, ◌≤◌}
use native.Mathlib.Omega.{arith}
use Rattle.rules.specs.Scan.{lowest}
use Rattle.rules.specs.Names.{count_of_pairs, name_bytes, same_name}
use Rattle.rules.proofs.Test.{case-found, case-of, clash}
use Rattle.rules.proofs.Scan.{lowest-none, lowest-found, found-lowest}
use Rattle.rules.proofs.RowNames.{same_bytes_lem, bytes_same}
use Rattle.canonical.specs.First.{first}

module _ (p b : List ℕ) where
  pub other_name : (m n : ℕ) → (name_bytes p b m ≡ name_bytes p b n → ⊥) → same_name p b m n ≡ false
  other_name m n f = case-of (same_name p b m n) (λ t. absurd (f (same_bytes_lem p b m n t))) (λ u. u)

  -- ---- what the scan finds
  abbrev same_as : ℕ → ℕ → Bool
  same_as n i = same_name p b (suc i) n

  first_some : (n k : ℕ) → lowest (same_as n) (count_of_pairs p) ≡ some k → first p b n ≡ suc k
  unfolding first
  first_some n k e = rw (e, first)

  first-none : (n : ℕ) → lowest (same_as n) (count_of_pairs p) ≡ none → first p b n ≡ 0
  unfolding first
  first-none n e = rw (e, first)

  -- a name of the body is found
  found : (n : ℕ) → 0 < n → n ≤ count_of_pairs p → (k : ℕ) × (lowest (same_as n) (count_of_pairs p) ≡ some k)
  found n z h = case-found (lowest (same_as n) (count_of_pairs p)) (λ k e. (k, e))
      (λ e.
      let i : suc (n - 1) ≡ n = omega arith in
      let f = lowest-none (same_as n) (count_of_pairs p) (n - 1) e (omega arith) in
      let t : same_as n (n - 1) ≡ true = bytes_same p b (suc (n - 1)) n (ap (name_bytes p b) i) in
      absurd (clash (cc)))

  -- ---- the laws
  pub first_above : (n : ℕ) → 0 < n → n ≤ count_of_pairs p → 0 < first p b n
  first_above n z h = let f = found n z h in omega (arith, first_some n f.0 f.1)

  pub first-within : (n : ℕ) → first p b n ≤ count_of_pairs p
  first-within n = case-found (lowest (same_as n) (count_of_pairs p))
      (λ k e. omega (arith, first_some n k e, (lowest-found (same_as n) (count_of_pairs p) k e).0))
      (λ e. omega (arith, first-none n e))

  pub same_first : (m n : ℕ) → name_bytes p b m ≡ name_bytes p b n → first p b m ≡ first p b n
  unfolding first same_name
  same_first m n e = rw (e, first)

  pub first-bytes : (n : ℕ) → 0 < n → n ≤ count_of_pairs p → name_bytes p b (first p b n) ≡ name_bytes p b n
  first-bytes n z h =
      let f = found n z h in
      rw (first_some n f.0 f.1) (same_bytes_lem p b (suc f.0) n (lowest-found (same_as n) (count_of_pairs p) f.0 f.1).1)

  pub first-same : (m n : ℕ) → 0 < m → m ≤ count_of_pairs p → 0 < n → n ≤ count_of_pairs p → first p b m ≡ first p b n → name_bytes p b m ≡ name_bytes p b n
  first-same m n y g z h e = sym (first-bytes m y g) ∙ ap (name_bytes p b) e ∙ first-bytes n z h

  -- a name whose bytes no earlier one has is the first itself
  pub first-new : (n : ℕ) → n < count_of_pairs p → ((i : ℕ) → i < n → same_name p b (suc i) (suc n) ≡ false) → first p b (suc n) ≡ suc n
  first-new n h f = first_some (suc n) n (found-lowest (same_as (suc n)) (count_of_pairs p) n h (bytes_same p b (suc n) (suc n) refl) f)
