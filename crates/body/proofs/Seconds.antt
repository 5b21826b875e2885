-- The search for second defaults. The first default among the children of p has none before it, and any second one is a default after it: so the next default
-- from its end on is the second one, and the lowest. A second default of p comes after p; so once each row before m was looked at, where m is the lowest
-- second default that was found, none before m is left.
-- Assumes nothing.
use mathlib.Core.Path.{◌≡◌, sym, ◌∙◌}
use mathlib.Core.Bool.{Bool, true, false}
use mathlib.Core.List.{List}
use mathlib.Core.Option.{Option, none, some}
use Prim.Native.Nat.{ℕ, ◌+◌, ◌≤◌, ◌<◌}
use native.Mathlib.Omega.{arith}
use native.Mathlib.Numerals.{add-one}
use native.Mathlib.Decide.{dec_lt, ℕ_discrete}
use Rattle.rules.specs.Rows.{row_count, size, end, Item, here, Child}
use Rattle.rules.specs.Class.{is_default, base}
use Rattle.rules.specs.Refusals.{second_default, cause10}
use Rattle.rules.specs.Body.{Sized, SecondChild}
use Rattle.rules.proofs.Test.{case-of, clash}
use Rattle.rules.proofs.Scan.{found-lowest, none-lowest}
use Rattle.rules.proofs.Causes.{is-10}
use Rattle.rules.proofs.Nesting.{item_from, item-before, item-next, item-later, item-after}
use Rattle.rules.proofs.Defaults.{second-child, child-second}
use Rattle.body.specs.Defaults.{Inside, NextDefault, SecondOf}

-- a test that passed and failed
both : {G : Type 0} {t : Bool} → t ≡ true → t ≡ false → G
both e f = absurd (clash (cc))

-- ---- the next default: the search from b on stands at c
pub record Looking (w : List ℕ) (e b c : ℕ) : Type 0 where
  pub at : c < e → Item w e b c
  pub before : (s : ℕ) → Item w e b s → s < c → is_default (base w s) ≡ false

pub looks : (w : List ℕ) (e b : ℕ) → Looking w e b b
looks w e b = record { at = here; before = λ s i l. absurd (omega (arith, item_from i)) }

module _ {w : List ℕ} {e b c : ℕ} (a : Looking w e b c) where
  pub looked : e ≤ c → NextDefault w e b none
  looked l s i = a.before s i (omega (arith, item-before i))

  pub looks_on : c < e → is_default (base w c) ≡ false → {n : ℕ} → n ≡ size w c → Looking w e b (c + n)
  looks_on l f z = rw z record { at = item-next (a.at l); before = before }
    where
      before : (s : ℕ) → Item w e b s → s < end w c → is_default (base w s) ≡ false
      before s i m = elim (dec_lt s c) [
        | yes h ↦ a.before s i h
        | no o ↦
            elim (ℕ_discrete s c) [
              | yes y ↦ rw y f
              | no n ↦ absurd (omega (arith, item_from (item-after (a.at l) i (omega arith))))
            ]
      ]

-- ---- the second default among the children of p; n is its size as the code read it
module _ (w : List ℕ) (p : ℕ) {n : ℕ} (z : n ≡ size w p) where
  child : {s : ℕ} → Item w (p + n) (p + 1) s → Child w p s
  child i = rw (← z, ← add-one p) i

  item-child : {s : ℕ} → Child w p s → Item w (p + n) (p + 1) s
  item-child i = rw (z, add-one p) i

  module _ {f : ℕ} (a : NextDefault w (p + n) (p + 1) (some f)) where
    -- a second default is a default after the first
    after_first : (r : ℕ) → SecondChild w p r → Item w (end w p) (end w f) r
    after_first r s =
        item-after (child a.0) s.child
        (elim (dec_lt s.earlier f) [
          | yes l ↦ both s.earlier_default (a.2 s.earlier (item-child s.earlier_child) l)
          | no l ↦ omega (arith, s.before)
        ])

    pub first_row : Sized w → p < row_count w → f < row_count w
    first_row sized h = omega (arith, item-before a.0, sized.within p h)

    -- so the next default from the first one's end on is the second
    pub second_is : Sized w → p < row_count w → {m : ℕ} → m ≡ size w f → (k : Option ℕ) → NextDefault w (p + n) (f + m) k → SecondOf w p k
    second_is sized h y none b = λ r s. both s.default (b r (rw (y, z) (after_first r s)))
    second_is sized h {m} y (some k) b =
        let g = sized.some_rows f (first_row sized h) in
        let i : Item w (end w p) (end w f) k = rw (← y, ← z) b.0 in
        let l = item_from i in (
          record {
            child = item-later (child a.0) i;
            default = b.1;
            earlier = f;
            before = omega arith;
            earlier_child = child a.0;
            earlier_default = a.1;
          },
          λ r l s. both s.default (b.2 r (rw (y, z) (after_first r s)) l),
        )

-- ---- the lowest of all: the rows before r were looked at, and m is the lowest second default found, or the number of rows
pub record Lowest (w : List ℕ) (m r : ℕ) : Type 0 where
  pub high : m ≤ row_count w
  pub second : m < row_count w → second_default w m ≡ true
  pub before : (p k : ℕ) → p < r → k < m → SecondChild w p k → ⊥

module _ {w : List ℕ} (sized : Sized w) (inside : Inside w) {m r : ℕ} (a : Lowest w m r) where
  -- none before x is found at r or before it
  none-to : {x : ℕ} → x ≤ m → ((k : ℕ) → k < x → SecondChild w r k → ⊥) → (p k : ℕ) → p < r + 1 → k < x → SecondChild w p k → ⊥
  none-to h n p k l g s = elim (ℕ_discrete p r) [
    | yes y ↦ n k g (rw y at s)
    | no o ↦ a.before p k (omega arith) (omega arith) s
  ]

  pub lowest-same : SecondOf w r none → Lowest w m (r + 1)
  lowest-same s = record { high = a.high; second = a.second; before = none-to (omega arith) (λ k l. s k) }

  pub lowest-higher : {c : ℕ} → SecondOf w r (some c) → m ≤ c → Lowest w m (r + 1)
  lowest-higher s h = record { high = a.high; second = a.second; before = none-to (omega arith) (λ k l. s.1 k (omega arith)) }

  pub lowest-less : {c : ℕ} → r < row_count w → SecondOf w r (some c) → c < m → Lowest w c (r + 1)
  lowest-less {c} g s l =
      record {
        high = omega (arith, a.high);
        second = λ h. child-second sized inside r c g s.0;
        before = none-to (omega arith) s.1;
      }

  -- once the rows before m were looked at
  module _ (l : m ≤ r) where
    none_left : (k : ℕ) → k < m → second_default w k ≡ false
    none_left k h = case-of (second_default w k)
        (λ t.
        let (p, g, s) = second-child sized inside k (omega (arith, a.high)) t in
        absurd (a.before p k (omega (arith, item_from s.child)) h s))
        (λ f. f)

    pub lowest-all : {n : ℕ} → n ≡ row_count w → m ≡ n → none ≡ cause10 w
    lowest-all z e = sym (is-10 w ∙ none-lowest (second_default w) (row_count w) (λ k h. none_left k (omega arith)))

    pub lowest-is : {n : ℕ} → n ≡ row_count w → (m ≡ n → ⊥) → some m ≡ cause10 w
    lowest-is z o =
        let h : m < row_count w = omega (arith, a.high) in
        sym (is-10 w ∙ found-lowest (second_default w) (row_count w) m h (a.second h) none_left)
