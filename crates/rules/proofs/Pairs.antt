-- What the absence of causes 2 and 3 gives of the pairs, and what the bytes of a name then are.
-- Assumes nothing.
use mathlib.Core.Path.{◌≡◌}
use mathlib.Core.Bool.{true, false, ◌||◌, not}
use mathlib.Core.List.{List, []}
use mathlib.Core.Option.{none, some}
use Prim.Native.Nat.{ℕ, ◌+◌, ◌-◌, ◌*◌, ◌%◌, ◌<◌, ◌≤◌}
use native.Mathlib.Numerals.{add-one}
use native.Mathlib.Omega.{arith}
use lib.Dec.{ltb, eqb}
use lib.ListN.{length, take, drop}
use borrow.Author.Tests.{eqb-true, eqb-false, ltb-false, lt-ltb, le-leb, le-ltb, lt-leb, eq-eqb, ne_eqb, not-false}
use Rattle.rules.specs.Scan.{lowest}
use Rattle.rules.specs.Names.{count_of_pairs, offset, len, previous_end, bad_name_words, bad_pair, names_ok, name_bytes}
use Rattle.rules.proofs.Test.{case-of, case-found, clash, or-false}
use Rattle.rules.proofs.Scan.{lowest-none}

-- ---- the test from the causes, and back
pub names-ok : (p b : List ℕ) → bad_name_words p b ≡ false → lowest (bad_pair p b) (count_of_pairs p) ≡ none → names_ok p b ≡ true
unfolding names_ok
names-ok p b e f = rw (e, f, names_ok)

pub bad-words : (p b : List ℕ) → bad_name_words p b ≡ true → names_ok p b ≡ false
unfolding names_ok
bad-words p b e = rw (e, names_ok)

pub bad-pairs : (p b : List ℕ) (i : ℕ) → bad_name_words p b ≡ false → lowest (bad_pair p b) (count_of_pairs p) ≡ some i → names_ok p b ≡ false
unfolding names_ok
bad-pairs p b i e f = rw (e, f, names_ok)

pub ok-words : (p b : List ℕ) → names_ok p b ≡ true → bad_name_words p b ≡ false
unfolding names_ok
ok-words p b t = case-of (bad_name_words p b) (λ e. let z : false ≡ true = rw (e, names_ok) at t in absurd (clash (cc))) (λ e. e)

pub ok-pairs : (p b : List ℕ) → names_ok p b ≡ true → lowest (bad_pair p b) (count_of_pairs p) ≡ none
unfolding names_ok
ok-pairs p b t = case-found (lowest (bad_pair p b) (count_of_pairs p))
    (λ i e. let z : false ≡ true = rw (ok-words p b t, e, names_ok) at t in absurd (clash (cc)))
    (λ e. e)

-- ---- the words' lengths
pub record NameWords (p b : List ℕ) : Type 0 where
  pub even : length p ≡ count_of_pairs p * 2
  pub pairs : count_of_pairs p ≤ 500
  pub bytes : length b ≤ 8000

pub name-words : (p b : List ℕ) → bad_name_words p b ≡ false → NameWords p b
unfolding bad_name_words
name-words p b e =
    let o = or-false (not (eqb (length p % 2) 0)) (ltb 500 (count_of_pairs p) || ltb 8000 (length b)) e in
    let q = or-false (ltb 500 (count_of_pairs p)) (ltb 8000 (length b)) o.1 in
    let z : length p % 2 ≡ 0 = eqb-true (length p % 2) 0 (not-false (eqb (length p % 2) 0) o.0) in
    record { even = omega arith; pairs = ltb-false 500 (count_of_pairs p) q.0; bytes = ltb-false 8000 (length b) q.1 }

pub odd-words : (p b : List ℕ) → (length p % 2 ≡ 0 → ⊥) → bad_name_words p b ≡ true
unfolding bad_name_words
odd-words p b n = rw (ne_eqb (length p % 2) 0 n, bad_name_words)

pub many-pairs : (p b : List ℕ) → length p % 2 ≡ 0 → 500 < count_of_pairs p → bad_name_words p b ≡ true
unfolding bad_name_words
many-pairs p b e h = rw (eq-eqb (length p % 2) 0 e, lt-ltb 500 (count_of_pairs p) h, bad_name_words)

pub many-bytes : (p b : List ℕ) → length p % 2 ≡ 0 → count_of_pairs p ≤ 500 → bad_name_words p b ≡ ltb 8000 (length b)
unfolding bad_name_words
many-bytes p b e h = rw (eq-eqb (length p % 2) 0 e, le-ltb 500 (count_of_pairs p) h, bad_name_words)

-- ---- one pair
pub previous-end : (p : List ℕ) (i : ℕ) → previous_end p (i + 1) ≡ offset p i + len p i
unfolding previous_end
previous-end p i = rw add-one

pub record GoodPair (p b : List ℕ) (i : ℕ) : Type 0 where
  pub some_bytes : 0 < len p i
  pub after : previous_end p i ≤ offset p i
  pub within : offset p i + len p i ≤ length b

pub good-pair : (p b : List ℕ) (i : ℕ) → bad_pair p b i ≡ false → GoodPair p b i
unfolding bad_pair
good-pair p b i e =
    let o = or-false (eqb (len p i) 0) (ltb (offset p i) (previous_end p i) || ltb (length b) (offset p i + len p i)) e in
    let q = or-false (ltb (offset p i) (previous_end p i)) (ltb (length b) (offset p i + len p i)) o.1 in
    record {
      some_bytes = omega (arith, eqb-false (len p i) 0 o.0);
      after = ltb-false (offset p i) (previous_end p i) q.0;
      within = ltb-false (length b) (offset p i + len p i) q.1;
    }

-- the three ways in which a pair is bad, and that a good one is not
module _ (p b : List ℕ) (i : ℕ) where
  pub empty-pair : len p i ≡ 0 → bad_pair p b i ≡ true
  unfolding bad_pair
  empty-pair z = rw (eq-eqb (len p i) 0 z, bad_pair)

  pub early-pair : (len p i ≡ 0 → ⊥) → offset p i < previous_end p i → bad_pair p b i ≡ true
  unfolding bad_pair
  early-pair z h = rw (ne_eqb (len p i) 0 z, lt-ltb (offset p i) (previous_end p i) h, bad_pair)

  pub long-pair : (len p i ≡ 0 → ⊥) → previous_end p i ≤ offset p i → length b < offset p i + len p i → bad_pair p b i ≡ true
  unfolding bad_pair
  long-pair z h l =
      rw (ne_eqb (len p i) 0 z, le-ltb (offset p i) (previous_end p i) h, lt-ltb (length b) (offset p i + len p i) l, bad_pair)

  pub pair-good : GoodPair p b i → bad_pair p b i ≡ false
  unfolding bad_pair
  pair-good g = rw (
    ne_eqb (len p i) 0 (λ z. omega (arith, g.some_bytes)),
    le-ltb (offset p i) (previous_end p i) g.after,
    le-ltb (length b) (offset p i + len p i) g.within,
    bad_pair,
  )

pub ok-pair : (p b : List ℕ) → names_ok p b ≡ true → (i : ℕ) → i < count_of_pairs p → GoodPair p b i
ok-pair p b t i h = good-pair p b i (lowest-none (bad_pair p b) (count_of_pairs p) i (ok-pairs p b t) h)

-- ---- the bytes of a name
module _ (p b : List ℕ) (n : ℕ) where
  pub no_name : n ≡ 0 → name_bytes p b n ≡ []
  unfolding name_bytes
  no_name z = case-of (names_ok p b) (λ t. rw (t, z, name_bytes)) (λ t. rw (t, name_bytes))

  pub past-names : count_of_pairs p < n → name_bytes p b n ≡ []
  unfolding name_bytes
  past-names h = case-of (names_ok p b) (λ t. rw (t, lt-ltb 0 n (omega arith), lt-leb n (count_of_pairs p) h, name_bytes)) (λ t. rw (t, name_bytes))

  pub refused-names : names_ok p b ≡ false → name_bytes p b n ≡ []
  unfolding name_bytes
  refused-names t = rw (t, name_bytes)

  pub name-part : names_ok p b ≡ true → 0 < n → n ≤ count_of_pairs p → name_bytes p b n ≡ take (len p (n - 1)) (drop (offset p (n - 1)) b)
  unfolding name_bytes
  name-part t z h = rw (t, lt-ltb 0 n z, le-leb n (count_of_pairs p) h, name_bytes)
