-- One turn of the comparison by order: what the bytes at i decide of the lists from i on.
-- Assumes nothing.
use mathlib.Core.Path.{◌≡◌, refl}
use mathlib.Core.Bool.{false}
use mathlib.Core.List.{List, [], ◌∷◌}
use Prim.Native.Nat.{ℕ, ◌+◌, ◌<◌, ◌≤◌}
use native.Mathlib.Numerals.{add-one}
use native.Mathlib.Omega.{arith}
use native.Mathlib.Decide.{dec_lt}
use lib.Dec.{ltb}
use lib.ListN.{length, drop, get_or, drop_of_length-le}
use lib.Seq.{drop-cons}
use borrow.Author.Tests.{lt-ltb, le-ltb, eq-eqb, ne_eqb}
use Rattle.rules.specs.Names.{bytes_before}
use Rattle.rules.proofs.Test.{case-of}

nothing-before-none : (a : List ℕ) → bytes_before a [] ≡ false
unfolding bytes_before
nothing-before-none [] = refl
nothing-before-none (x ∷ xs) = refl

module _ (a b : List ℕ) (i : ℕ) where
  -- where the shorter one ends, it comes first
  pub before-lengths : (length a < length b → i ≡ length a) → (length b ≤ length a → i ≡ length b)
      → ltb (length a) (length b) ≡ bytes_before (drop i a) (drop i b)
  unfolding bytes_before
  before-lengths f g = elim (dec_lt (length a) (length b)) [
    | yes h ↦
        let m : length a ≤ i = omega (arith, f h) in
        let l : i < length b = omega (arith, f h) in
        rw (lt-ltb (length a) (length b) h, drop_of_length-le a {i = i} m, drop-cons b i 0 l)
    | no n ↦
        let l : length b ≤ i = omega (arith, g (omega arith)) in
        rw (le-ltb (length a) (length b) (omega arith), drop_of_length-le b {i = i} l, nothing-before-none (drop i a))
  ]

  module _ (h : i < length a) (l : i < length b) where
    -- the first bytes that differ decide
    pub first-other : (get_or a i 0 ≡ get_or b i 0 → ⊥) → ltb (get_or a i 0) (get_or b i 0) ≡ bytes_before (drop i a) (drop i b)
    unfolding bytes_before
    first-other n = case-of (ltb (get_or a i 0) (get_or b i 0))
        (λ t. rw (drop-cons a i 0 h, drop-cons b i 0 l, t))
        (λ t. rw (drop-cons a i 0 h, drop-cons b i 0 l, t, ne_eqb (get_or a i 0) (get_or b i 0) n))

    pub before-next : get_or a i 0 ≡ get_or b i 0 → bytes_before (drop i a) (drop i b) ≡ bytes_before (drop (i + 1) a) (drop (i + 1) b)
    unfolding bytes_before
    before-next e =
        rw (add-one, drop-cons a i 0 h, drop-cons b i 0 l, le-ltb (get_or a i 0) (get_or b i 0) (omega arith), eq-eqb (get_or a i 0) (get_or b i 0) e)
