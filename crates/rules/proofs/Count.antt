-- How many numbers p below n have f p before r, at r and after r.
-- A pass over r keeps two of these counts: how many f p are before r, and for each number how many f p are at it.
-- Where f p is where row p ends, the rows around row r are the p below r with f p after r.
-- Assumes nothing.
use mathlib.Core.Path.{◌≡◌, refl, sym, ◌∙◌}
use mathlib.Core.List.{List}
use Prim.Native.Nat.{ℕ, zero, suc, ◌+◌, ◌<◌, ◌≤◌}
use native.Mathlib.Omega.{arith}
use native.Mathlib.Decide.{ℕ_discrete}
use native.Mathlib.Numerals.{add-one}
use lib.Dec.{ltb, eqb}
use lib.ListN.{length, get_or, set, replicate, length-set, length-replicate, get_or-replicate}
use lib.Seq.{get_or-set_same, get_or-set_other}
use borrow.Author.Tests.{ltb-true, ltb-false, eqb-true, eqb-false, lt-ltb, le-ltb, eq-eqb, ne_eqb}
use Rattle.rules.specs.Scan.{how_many}
use Rattle.rules.proofs.Test.{case-of}
use Rattle.rules.proofs.Scan.{how_many-most, how_many-yes, how_many-no}

compared : {G : Type 0} (a b : ℕ) → (a < b → G) → (a ≡ b → G) → (b < a → G) → G
compared a b less same more =
    case-of (ltb a b) (λ t. less (ltb-true a b t))
    (λ t. case-of (eqb a b) (λ u. same (eqb-true a b u)) (λ u. more (omega (arith, ltb-false a b t, eqb-false a b u))))

module _ (f : ℕ → ℕ) where
  abbrev pub before : ℕ → ℕ → ℕ
  before r n = how_many (λ p. ltb (f p) r) n

  abbrev pub at : ℕ → ℕ → ℕ
  at r n = how_many (λ p. eqb (f p) r) n

  abbrev pub after : ℕ → ℕ → ℕ
  after r n = how_many (λ p. ltb r (f p)) n

  -- each is before, at or after r
  pub three_ways : (r n : ℕ) → after r n + (before r n + at r n) ≡ n
  unfolding how_many
  three_ways r zero = refl
  three_ways r (suc n) =
      let i = three_ways r n in
      compared (f n) r
      (λ l. rw (lt-ltb (f n) r l, le-ltb r (f n) (omega arith), ne_eqb (f n) r (λ e. omega arith), how_many) (omega (arith, i)))
      (λ e. rw (le-ltb (f n) r (omega arith), le-ltb r (f n) (omega arith), eq-eqb (f n) r e, how_many) (omega (arith, i)))
      (λ l. rw (le-ltb (f n) r (omega arith), lt-ltb r (f n) l, ne_eqb (f n) r (λ e. omega arith), how_many) (omega (arith, i)))

  -- before suc r are those before r and those at r
  pub before-next : (r n : ℕ) → before (suc r) n ≡ before r n + at r n
  unfolding how_many
  before-next r zero = refl
  before-next r (suc n) =
      let i = before-next r n in
      compared (f n) r
      (λ l. rw (lt-ltb (f n) r l, lt-ltb (f n) (suc r) (omega arith), ne_eqb (f n) r (λ e. omega arith), how_many) (omega (arith, i)))
      (λ e. rw (le-ltb (f n) r (omega arith), lt-ltb (f n) (suc r) (omega arith), eq-eqb (f n) r e, how_many) (omega (arith, i)))
      (λ l. rw (le-ltb (f n) r (omega arith), le-ltb (f n) (suc r) (omega arith), ne_eqb (f n) r (λ e. omega arith), how_many) (omega (arith, i)))

-- what the pass has kept at r, of the numbers below r: how many are before r, and for each number how many are at it
pub record Counted (f : ℕ → ℕ) (counts : List ℕ) (below r : ℕ) : Type 0 where
  pub below-is : below ≡ before f r r
  pub counts-are : (e : ℕ) → e < length counts → get_or counts e 0 ≡ at f e r

pub counted_none : (f : ℕ → ℕ) (n : ℕ) → Counted f (replicate n 0) 0 0
unfolding how_many
counted_none f n = record { below-is = refl; counts-are = λ e h. get_or-replicate n e 0 0 (rw length-replicate at h) }

module _ (f : ℕ → ℕ) (counts : List ℕ) (below r : ℕ) (s : Counted f counts below r) where
  pub counts-most : (e : ℕ) → e < length counts → get_or counts e 0 ≤ r
  counts-most e h = rw (s.counts-are e h) (how_many-most (λ p. eqb (f p) e) r)

  module _ (h : r < length counts) (v : ℕ) (ev : v ≡ get_or counts r 0) where
    -- those not counted by then are after r
    pub counted-after : after f r r + (below + v) ≡ r
    counted-after = rw (s.below-is, ev, s.counts-are r h) (three_ways f r r)

    -- one turn, at which f r is x, after r
    pub counted-more : (x : ℕ) → x ≡ f r → r < x → x < length counts → Counted f (set counts x (get_or counts x 0 + 1)) (below + v) (r + 1)
    counted-more x e l m = record { below-is = rw (add-one r) below_next; counts-are = λ i j. rw (add-one r) (counts-next i (rw length-set at j)) }
      where
        below_next : below + v ≡ before f (suc r) (suc r)
        below_next =
            rw (s.below-is, ev, s.counts-are r h, how_many-no (λ p. ltb (f p) (suc r)) r (le-ltb (f r) (suc r) (omega arith))) (sym (before-next f r r))

        counts-next : (i : ℕ) → i < length counts → get_or (set counts x (get_or counts x 0 + 1)) i 0 ≡ at f i (suc r)
        counts-next i j = elim (ℕ_discrete i x) [
          | yes q ↦
              rw (q, get_or-set_same counts x (get_or counts x 0 + 1) 0 m, how_many-yes (λ p. eqb (f p) x) r (eq-eqb (f r) x (sym e)), s.counts-are x m)
              (add-one (at f x r))
          | no q ↦
              rw (get_or-set_other counts x i (get_or counts x 0 + 1) 0 q, how_many-no (λ p. eqb (f p) i) r (ne_eqb (f r) i (λ g. q (sym g ∙ sym e))))
              (s.counts-are i j)
        ]
