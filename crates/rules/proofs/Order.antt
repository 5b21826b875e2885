-- The order of bytes is a strict total order: by induction on the two lists, the first bytes that differ decide. So the rank of a name,
-- one more than the names before it are many, is the same for the same bytes and smaller for smaller bytes.
-- Assumes nothing.
use mathlib.Core.Path.{◌≡◌, refl, sym, ◌∙◌}
use mathlib.Core.Bool.{Bool, true, false}
use mathlib.Core.List.{List, [], ◌∷◌}
use mathlib.Core.Logic.{◌⊎◌, inl, inr}
use Prim.Native.Nat.{ℕ, suc, ◌-◌, ◌<◌, ◌≤◌}
use native.Mathlib.Omega.{arith}
use native.Mathlib.Decide.{dec_lt}
use lib.Dec.{eqb}
use borrow.Author.Tests.{eqb-true, lt-ltb, le-ltb, eq-eqb, ne_eqb}
use Rattle.rules.specs.Names.{count_of_pairs, name_bytes, same_bytes, bytes_before, rank}
use Rattle.rules.proofs.Test.{case-of, clash, and-true}
use Rattle.rules.proofs.Scan.{how_many-le, how_many-lt, how_many-most}

-- ---- same bytes
pub same-equal : (xs ys : List ℕ) → same_bytes xs ys ≡ true → xs ≡ ys
unfolding same_bytes
same-equal [] [] e = refl
same-equal [] (y ∷ ys) e = absurd (clash (cc))
same-equal (x ∷ xs) [] e = absurd (clash (cc))
same-equal (x ∷ xs) (y ∷ ys) e =
    let h = and-true (eqb x y) (same_bytes xs ys) e in
    cc (eqb-true x y h.0, same-equal xs ys h.1)

pub same_self : (xs : List ℕ) → same_bytes xs xs ≡ true
unfolding same_bytes
same_self [] = refl
same_self (x ∷ xs) = rw (eq-eqb x x refl, same_self xs)

pub equal-same : (xs ys : List ℕ) → xs ≡ ys → same_bytes xs ys ≡ true
equal-same xs ys e = rw (← e) (same_self xs)

-- ---- one byte of each
-- by the three ways in which two numbers can stand
by_order : {G : Type 0} (x y : ℕ) → (x < y → G) → (x ≡ y → G) → (y < x → G) → G
by_order x y f g h = elim (dec_lt x y) [ yes l ↦ f l | no n ↦ elim (dec_lt y x) [ yes l ↦ h l | no m ↦ g (omega arith) ] ]

module _ (x y : ℕ) (xs ys : List ℕ) where
  less-first : x < y → bytes_before (x ∷ xs) (y ∷ ys) ≡ true
  unfolding bytes_before
  less-first l = rw (lt-ltb x y l)

  same_first : x ≡ y → bytes_before (x ∷ xs) (y ∷ ys) ≡ bytes_before xs ys
  unfolding bytes_before
  same_first e = rw (le-ltb x y (omega arith), eq-eqb x y e)

  more-first : y < x → bytes_before (x ∷ xs) (y ∷ ys) ≡ false
  unfolding bytes_before
  more-first l = rw (le-ltb x y (omega arith), ne_eqb x y (λ e. omega arith))

  -- what a first byte of a list that comes before says
  first-before : bytes_before (x ∷ xs) (y ∷ ys) ≡ true → (x < y) ⊎ ((x ≡ y) × (bytes_before xs ys ≡ true))
  first-before t = by_order x y (λ l. inl l) (λ e. inr (e, sym (same_first e) ∙ t)) (λ l. absurd (clash (cc (more-first l))))

-- ---- before
pub before-not-self : (xs : List ℕ) → bytes_before xs xs ≡ false
unfolding bytes_before
before-not-self [] = refl
before-not-self (x ∷ xs) = same_first x x xs xs refl ∙ before-not-self xs

pub before-trans : (xs ys zs : List ℕ) → bytes_before xs ys ≡ true → bytes_before ys zs ≡ true → bytes_before xs zs ≡ true
unfolding bytes_before
before-trans xs [] [] t u = absurd (clash (cc))
before-trans [] [] (z ∷ zs) t u = refl
before-trans (x ∷ xs) [] (z ∷ zs) t u = absurd (clash (cc))
before-trans xs (y ∷ ys) [] t u = absurd (clash (cc))
before-trans [] (y ∷ ys) (z ∷ zs) t u = refl
before-trans (x ∷ xs) (y ∷ ys) (z ∷ zs) t u = elim (first-before x y xs ys t) [
  | inl l ↦ elim (first-before y z ys zs u) [
    | inl m ↦ less-first x z xs zs (omega arith)
    | inr e ↦ less-first x z xs zs (omega (arith, e.0))
  ]
  | inr d ↦ elim (first-before y z ys zs u) [
    | inl m ↦ less-first x z xs zs (omega (arith, d.0))
    | inr e ↦ same_first x z xs zs (d.0 ∙ e.0) ∙ before-trans xs ys zs d.1 e.1
  ]
]

pub before-connected : (xs ys : List ℕ) → bytes_before xs ys ≡ false → bytes_before ys xs ≡ false → xs ≡ ys
unfolding bytes_before
before-connected [] [] e f = refl
before-connected [] (y ∷ ys) e f = absurd (clash (cc))
before-connected (x ∷ xs) [] e f = absurd (clash (cc))
before-connected (x ∷ xs) (y ∷ ys) e f = by_order x y
    (λ l. absurd (clash (cc (less-first x y xs ys l))))
    (λ d. cc (d, before-connected xs ys (sym (same_first x y xs ys d) ∙ e) (sym (same_first y x ys xs (sym d)) ∙ f)))
    (λ l. absurd (clash (cc (less-first y x ys xs l))))

pub before-not-after : (xs ys : List ℕ) → bytes_before xs ys ≡ true → bytes_before ys xs ≡ false
before-not-after xs ys t = case-of (bytes_before ys xs) (λ u. absurd (clash (cc (before-trans xs ys xs t u, before-not-self xs)))) (λ u. u)

-- ---- not before
-- before the first of two that stand in order is before the second, and after the second is after the first
pub before-up : (xs ys zs : List ℕ) → bytes_before xs ys ≡ true → bytes_before zs ys ≡ false → bytes_before xs zs ≡ true
before-up xs ys zs t f = case-of (bytes_before ys zs) (λ u. before-trans xs ys zs t u) (λ u. rw (← before-connected ys zs u f) t)

pub not-before-trans : (xs ys zs : List ℕ) → bytes_before xs ys ≡ false → bytes_before ys zs ≡ false → bytes_before xs zs ≡ false
not-before-trans xs ys zs e f = case-of (bytes_before xs zs) (λ t. absurd (clash (cc (before-up xs zs ys t f)))) (λ u. u)

-- ---- the rank of a name
module _ (p b : List ℕ) where
  -- whether the bytes of the i-th pair come before those of the name n: what a rank counts
  abbrev beneath : ℕ → ℕ → Bool
  beneath n i = bytes_before (name_bytes p b (suc i)) (name_bytes p b n)

  -- a name of the body is not beneath itself, so its rank is within the number of pairs
  not-beneath-self : (n : ℕ) → 0 < n → beneath n (n - 1) ≡ false
  not-beneath-self n z = let e : suc (n - 1) ≡ n = omega arith in rw e (before-not-self (name_bytes p b n))

  pub rank-above : (n : ℕ) → 0 < rank p b n
  unfolding rank
  rank-above n = omega arith

  pub rank-within : (n : ℕ) → 0 < n → n ≤ count_of_pairs p → rank p b n ≤ count_of_pairs p
  unfolding rank
  rank-within n z h =
      let l = how_many-lt (beneath n) (λ i. true) (count_of_pairs p) (n - 1) (λ j l t. refl) (omega arith) (not-beneath-self n z) refl in
      omega (arith, l, how_many-most (λ i. true) (count_of_pairs p))

  module _ (m n : ℕ) where
    pub same_rank : name_bytes p b m ≡ name_bytes p b n → rank p b m ≡ rank p b n
    unfolding rank
    same_rank e = rw e

    pub before-rank : 0 < m → m ≤ count_of_pairs p → bytes_before (name_bytes p b m) (name_bytes p b n) ≡ true → rank p b m < rank p b n
    unfolding rank
    before-rank z h t =
        let e : suc (m - 1) ≡ m = omega arith in
        let u : beneath n (m - 1) ≡ true = rw e t in
        omega (
          arith,
          how_many-lt (beneath m) (beneath n) (count_of_pairs p) (m - 1)
              (λ j l v. before-trans (name_bytes p b (suc j)) (name_bytes p b m) (name_bytes p b n) v t) (omega arith) (not-beneath-self m z) u,
        )

    pub rank-before : rank p b m < rank p b n → bytes_before (name_bytes p b m) (name_bytes p b n) ≡ true
    unfolding rank
    rank-before l = case-of (bytes_before (name_bytes p b m) (name_bytes p b n)) (λ t. t)
        (λ f. absurd (omega (
          arith,
          how_many-le (beneath n) (beneath m) (count_of_pairs p)
              (λ j k v. before-up (name_bytes p b (suc j)) (name_bytes p b n) (name_bytes p b m) v f),
        )))

  pub rank_same : (m n : ℕ) → 0 < m → m ≤ count_of_pairs p → 0 < n → n ≤ count_of_pairs p → rank p b m ≡ rank p b n → name_bytes p b m ≡ name_bytes p b n
  rank_same m n y g z h e = before-connected (name_bytes p b m) (name_bytes p b n)
      (case-of (bytes_before (name_bytes p b m) (name_bytes p b n)) (λ t. absurd (omega (arith, before-rank m n y g t))) (λ f. f))
      (case-of (bytes_before (name_bytes p b n) (name_bytes p b m)) (λ t. absurd (omega (arith, before-rank n m z h t))) (λ f. f))
