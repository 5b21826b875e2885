-- The laws of the scans: what was found passes and nothing before (after) it does; what passes is found; and what holds of each number is counted.
-- Assumes nothing.
use mathlib.Core.Path.{◌≡◌, refl, sym, ◌∙◌, ap}
use mathlib.Core.Bool.{Bool, true, false}
use mathlib.Core.Option.{none, some}
use Prim.Native.Nat.{ℕ, zero, suc, ◌<◌, ◌≤◌}
use native.Mathlib.Omega.{arith}
use native.Mathlib.Decide.{ℕ_discrete, dec_lt}
use Rattle.rules.specs.Scan.{lowest, highest, how_many}
use Rattle.rules.proofs.Test.{case-of, case-found, clash}

module _ (P : ℕ → Bool) where
  -- none found: nothing passes
  pub lowest-none : (n k : ℕ) → lowest P n ≡ none → k < n → P k ≡ false
  unfolding lowest
  lowest-none zero k e h = absurd (omega arith)
  lowest-none (suc n) k e h = case-found (lowest P n)
      (λ j f. let g : some j ≡ none = rw (f, lowest) at e in absurd (clash (cc)))
      (λ f. case-of (P n)
      (λ t. let g : some n ≡ none = rw (f, t, lowest) at e in absurd (clash (cc)))
      (λ t. elim (ℕ_discrete k n) [ yes i ↦ rw i t | no o ↦ lowest-none n k f (omega arith) ]))

  pub none-lowest : (n : ℕ) → ((k : ℕ) → k < n → P k ≡ false) → lowest P n ≡ none
  unfolding lowest
  none-lowest zero h = refl
  none-lowest (suc n) h = rw (none-lowest n (λ k l. h k (omega arith)), h n (omega arith), lowest)

  -- the first that passes is found
  pub found-lowest : (n k : ℕ) → k < n → P k ≡ true → ((j : ℕ) → j < k → P j ≡ false) → lowest P n ≡ some k
  unfolding lowest
  found-lowest zero k h t below = absurd (omega arith)
  found-lowest (suc n) k h t below = elim (ℕ_discrete k n) [
    | yes i ↦ let u : P n ≡ true = rw i at t in rw (none-lowest n (λ j l. below j (omega arith)), u, lowest) (ap some (sym i))
    | no o ↦ rw (found-lowest n k (omega arith) t below, lowest)
  ]

  pub lowest-found : (n k : ℕ) → lowest P n ≡ some k → (k < n) × (P k ≡ true)
  unfolding lowest
  lowest-found zero k e = absurd (clash (cc))
  lowest-found (suc n) k e = case-found (lowest P n)
      (λ j f.
      let g : some j ≡ some k = rw (f, lowest) at e in
      let i : j ≡ k = cc in
      let r = lowest-found n k (rw i at f) in (omega (arith, r.0), r.1))
      (λ f. case-of (P n)
      (λ t. let g : some n ≡ some k = rw (f, t, lowest) at e in let i : n ≡ k = cc in (omega arith, rw i at t))
      (λ t. let g : none ≡ some k = rw (f, t, lowest) at e in absurd (clash (cc))))

  pub lowest-first : (n k j : ℕ) → lowest P n ≡ some k → j < k → P j ≡ false
  unfolding lowest
  lowest-first zero k j e h = absurd (clash (cc))
  lowest-first (suc n) k j e h = case-found (lowest P n)
      (λ i f.
      let g : some i ≡ some k = rw (f, lowest) at e in
      let m : i ≡ k = cc in lowest-first n k j (rw m at f) h)
      (λ f. case-of (P n)
      (λ t. let g : some n ≡ some k = rw (f, t, lowest) at e in let m : n ≡ k = cc in lowest-none n j f (omega arith))
      (λ t. let g : none ≡ some k = rw (f, t, lowest) at e in absurd (clash (cc))))

  -- ---- the highest
  pub highest-found : (n k : ℕ) → highest P n ≡ some k → (k < n) × (P k ≡ true)
  unfolding highest
  highest-found zero k e = absurd (clash (cc))
  highest-found (suc n) k e = case-of (P n)
      (λ t. let g : some n ≡ some k = rw (t, highest) at e in let i : n ≡ k = cc in (omega arith, rw i at t))
      (λ t. let r = highest-found n k (rw (t, highest) at e) in (omega (arith, r.0), r.1))

  pub highest-last : (n k j : ℕ) → highest P n ≡ some k → k < j → j < n → P j ≡ false
  unfolding highest
  highest-last zero k j e l h = absurd (omega arith)
  highest-last (suc n) k j e l h = case-of (P n)
      (λ t. let g : some n ≡ some k = rw (t, highest) at e in let i : n ≡ k = cc in absurd (omega arith))
      (λ t. elim (ℕ_discrete j n) [ yes i ↦ rw i t | no o ↦ highest-last n k j (rw (t, highest) at e) l (omega arith) ])

  pub highest-none : (n j : ℕ) → highest P n ≡ none → j < n → P j ≡ false
  unfolding highest
  highest-none zero j e h = absurd (omega arith)
  highest-none (suc n) j e h = case-of (P n)
      (λ t. let g : some n ≡ none = rw (t, highest) at e in absurd (clash (cc)))
      (λ t. elim (ℕ_discrete j n) [ yes i ↦ rw i t | no o ↦ highest-none n j (rw (t, highest) at e) (omega arith) ])

  pub none-highest : (n : ℕ) → ((k : ℕ) → k < n → P k ≡ false) → highest P n ≡ none
  unfolding highest
  none-highest zero h = refl
  none-highest (suc n) h = rw (h n (omega arith), none-highest n (λ k l. h k (omega arith)), highest)

  pub found-highest : (n k : ℕ) → k < n → P k ≡ true → ((j : ℕ) → k < j → j < n → P j ≡ false) → highest P n ≡ some k
  unfolding highest
  found-highest zero k h t above = absurd (omega arith)
  found-highest (suc n) k h t above = elim (ℕ_discrete k n) [
    | yes i ↦ let u : P n ≡ true = rw i at t in rw (u, highest) (ap some (sym i))
    | no o ↦ rw (above n (omega arith) (omega arith), found-highest n k (omega arith) t (λ j a b. above j a (omega arith)), highest)
  ]

  -- one number more
  pub highest-yes : (n : ℕ) → P n ≡ true → highest P (suc n) ≡ some n
  unfolding highest
  highest-yes n t = rw (t, highest)

  pub highest-no : (n : ℕ) → P n ≡ false → highest P (suc n) ≡ highest P n
  unfolding highest
  highest-no n t = rw (t, highest)

  -- ---- how many
  pub how_many-most : (n : ℕ) → how_many P n ≤ n
  unfolding how_many
  how_many-most zero = omega arith
  how_many-most (suc n) = case-of (P n) (λ t. rw (t, how_many) (omega (arith, how_many-most n))) (λ t. rw (t, how_many) (omega (arith, how_many-most n)))

  pub how_many-yes : (n : ℕ) → P n ≡ true → how_many P (suc n) ≡ suc (how_many P n)
  unfolding how_many
  how_many-yes n t = rw (t, how_many)

  pub how_many-no : (n : ℕ) → P n ≡ false → how_many P (suc n) ≡ how_many P n
  unfolding how_many
  how_many-no n t = rw (t, how_many)

-- two tests that agree below n
pub lowest-same : (P Q : ℕ → Bool) (n : ℕ) → ((k : ℕ) → k < n → P k ≡ Q k) → lowest P n ≡ lowest Q n
unfolding lowest
lowest-same P Q zero h = refl
lowest-same P Q (suc n) h =
    let r = lowest-same P Q n (λ k l. h k (omega arith)) in
    case-found (lowest Q n) (λ k e. rw (r ∙ e, e, lowest))
    (λ e. case-of (Q n) (λ t. rw (r ∙ e, e, h n (omega arith) ∙ t, t, lowest)) (λ t. rw (r ∙ e, e, h n (omega arith) ∙ t, t, lowest)))

pub highest-same : (P Q : ℕ → Bool) (n : ℕ) → ((k : ℕ) → k < n → P k ≡ Q k) → highest P n ≡ highest Q n
unfolding highest
highest-same P Q zero h = refl
highest-same P Q (suc n) h =
    let r = highest-same P Q n (λ k l. h k (omega arith)) in
    case-of (Q n) (λ t. rw (h n (omega arith), t, highest)) (λ t. rw (h n (omega arith), t, r, highest))

pub how_many-same : (P Q : ℕ → Bool) (n : ℕ) → ((k : ℕ) → k < n → P k ≡ Q k) → how_many P n ≡ how_many Q n
unfolding how_many
how_many-same P Q zero h = refl
how_many-same P Q (suc n) h =
    let r = how_many-same P Q n (λ k l. h k (omega arith)) in
    case-of (Q n) (λ t. rw (h n (omega arith), t, r, how_many)) (λ t. rw (h n (omega arith), t, r, how_many))

-- a test that is weaker counts no fewer, and more where it passes at a number that the other does not
pub how_many-le : (P Q : ℕ → Bool) (n : ℕ) → ((k : ℕ) → k < n → P k ≡ true → Q k ≡ true) → how_many P n ≤ how_many Q n
unfolding how_many
how_many-le P Q zero h = omega arith
how_many-le P Q (suc n) h =
    let r = how_many-le P Q n (λ k l. h k (omega arith)) in
    case-of (P n) (λ t. rw (t, h n (omega arith) t, how_many) (omega (arith, r)))
    (λ t. case-of (Q n) (λ u. rw (t, u, how_many) (omega (arith, r))) (λ u. rw (t, u, how_many) (omega (arith, r))))

pub how_many-lt : (P Q : ℕ → Bool) (n k : ℕ) → ((j : ℕ) → j < n → P j ≡ true → Q j ≡ true) → k < n → P k ≡ false → Q k ≡ true → how_many P n < how_many Q n
unfolding how_many
how_many-lt P Q zero k h l f t = absurd (omega arith)
how_many-lt P Q (suc n) k h l f t = elim (ℕ_discrete k n) [
  | yes i ↦
      let fn : P n ≡ false = rw i at f in
      let tn : Q n ≡ true = rw i at t in
      rw (fn, tn, how_many) (omega (arith, how_many-le P Q n (λ j m. h j (omega arith))))
  | no o ↦
      let r = how_many-lt P Q n k (λ j m. h j (omega arith)) (omega arith) f t in
      case-of (P n) (λ u. rw (u, h n (omega arith) u, how_many) (omega (arith, r)))
      (λ u. case-of (Q n) (λ v. rw (u, v, how_many) (omega (arith, r))) (λ v. rw (u, v, how_many) (omega (arith, r))))
]

-- where some number passes the count is not 0, and where it is not 0 some number passes; where no two numbers pass it is at most 1
module _ (P : ℕ → Bool) where
  pub some-counted : (n k : ℕ) → k < n → P k ≡ true → 0 < how_many P n
  some-counted n k h t = omega (arith, how_many-lt (λ i. false) P n k (λ j l f. absurd (clash (cc))) h refl t)

  pub counted-some : (n : ℕ) → 0 < how_many P n → (k : ℕ) × (k < n) × (P k ≡ true)
  counted-some zero h = absurd (omega (arith, how_many-most P 0))
  counted-some (suc n) h = case-of (P n) (λ t. (n, omega arith, t))
      (λ f. let r = counted-some n (omega (arith, how_many-no P n f)) in (r.0, omega (arith, r.1), r.2))

  pub counted-once : (n : ℕ) → ((i j : ℕ) → i < n → j < n → P i ≡ true → P j ≡ true → i ≡ j) → how_many P n ≤ 1
  counted-once zero one = omega (arith, how_many-most P 0)
  counted-once (suc n) one = case-of (P n)
      (λ t. elim (dec_lt 0 (how_many P n)) [
        | yes l ↦
            let (k, h, u) = counted-some n l in
            let e = one k n (omega arith) (omega arith) u t in
            absurd (omega arith)
        | no o ↦ omega (arith, how_many-yes P n t)
      ])
      (λ f. omega (arith, how_many-no P n f, counted-once n (λ i j h l. one i j (omega arith) (omega arith))))
