-- The search for the first bad pair: what holds when the pairs below i are passed, and the four ways of one turn.
-- Assumes nothing.
use mathlib.Core.Path.{◌≡◌, refl, sym}
use mathlib.Core.Bool.{Bool, true, false, not}
use mathlib.Core.List.{List}
use mathlib.Core.Option.{none, some}
use Prim.Native.Nat.{ℕ, ◌+◌, ◌<◌, ◌≤◌}
use native.Mathlib.Omega.{arith}
use lib.ListN.{length}
use borrow.Author.Count.{below_more}
use Rattle.std.proofs.Common.{Option, Some, None}
use Rattle.std.specs.Option.{is_some}
use Rattle.rules.specs.Scan.{lowest}
use Rattle.rules.specs.Names.{count_of_pairs, offset, len, previous_end, bad_pair, bad_name_words, names_ok}
use Rattle.rules.proofs.Scan.{found-lowest, none-lowest}
use Rattle.rules.proofs.Pairs.{previous-end, empty-pair, early-pair, long-pair, pair-good, names-ok, bad-pairs}
use Rattle.rules.proofs.Test.{clash}
use Rattle.names.specs.Place.{place}

-- no pair below i is bad, and the last of them ends at e
pub record Passed (p b : List ℕ) (i e : ℕ) : Type 0 where
  pub within : i ≤ count_of_pairs p
  pub end : e ≡ previous_end p i
  pub good : (k : ℕ) → k < i → bad_pair p b k ≡ false

pub passed_none : (p b : List ℕ) → Passed p b 0 0
unfolding previous_end
passed_none p b = record { within = omega arith; end = refl; good = λ k h. absurd (omega arith) }

pub passed-all : (p b : List ℕ) (i e : ℕ) → Passed p b i e → count_of_pairs p ≤ i → none ≡ lowest (bad_pair p b) (count_of_pairs p)
passed-all p b i e q h = sym (none-lowest (bad_pair p b) (count_of_pairs p) (λ k l. q.good k (omega arith)))

-- ---- the pair i
module _ (p b : List ℕ) (i e : ℕ) (q : Passed p b i e) (h : i < count_of_pairs p) where
  bad-found : bad_pair p b i ≡ true → some i ≡ lowest (bad_pair p b) (count_of_pairs p)
  bad-found t = sym (found-lowest (bad_pair p b) (count_of_pairs p) i h t q.good)

  pub empty-found : len p i ≡ 0 → some i ≡ lowest (bad_pair p b) (count_of_pairs p)
  empty-found z = bad-found (empty-pair p b i z)

  pub early-found : (len p i ≡ 0 → ⊥) → offset p i < e → some i ≡ lowest (bad_pair p b) (count_of_pairs p)
  early-found z l = bad-found (early-pair p b i z (omega (arith, q.end)))

  pub long-found : (len p i ≡ 0 → ⊥) → e ≤ offset p i → length b < offset p i + len p i → some i ≡ lowest (bad_pair p b) (count_of_pairs p)
  long-found z l m = bad-found (long-pair p b i z (omega (arith, q.end)) m)

  pub passed-next : (len p i ≡ 0 → ⊥) → e ≤ offset p i → offset p i + len p i ≤ length b → Passed p b (i + 1) (offset p i + len p i)
  passed-next z l m =
      let o = pair-good p b i (record { some_bytes = omega arith; after = omega (arith, q.end); within = m }) in
      record { within = omega arith; end = omega (arith, previous-end p i); good = below_more (λ k. bad_pair p b k ≡ false) i q.good o }

-- ---- the names once the search has answered
pub searched : (p b : List ℕ) (o : Option ℕ) (r : Bool) → bad_name_words p b ≡ false → place o ≡ lowest (bad_pair p b) (count_of_pairs p)
    → is_some o ≡ not r → r ≡ names_ok p b
searched p b (Some i) true w e s = absurd (clash (cc))
searched p b (Some i) false w e s = sym (bad-pairs p b i w (sym e))
searched p b None true w e s = sym (names-ok p b w (sym e))
searched p b None false w e s = absurd (clash (cc))
