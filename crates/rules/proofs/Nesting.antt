-- The rows as nested intervals: where every child ends within its parent, whatever begins in a row ends in it, and the child relation, stepped
-- through by size, is the parent relation, sought upward.
-- Assumes nothing.
use mathlib.Core.Path.{◌≡◌}
use mathlib.Core.Option.{some}
use mathlib.Core.List.{List}
use Prim.Native.Nat.{ℕ, zero, suc, ◌+◌, ◌≤◌, ◌<◌}
use native.Mathlib.Omega.{arith}
use native.Mathlib.Decide.{dec_lt, ℕ_discrete}
use lib.Dec.{ltb}
use borrow.Author.Tests.{lt-ltb, le-ltb, ltb-true, ltb-false}
use Rattle.rules.specs.Rows.{row_count, size, end, parent, Item, here, later, Child}
use Rattle.rules.specs.Body.{Sized}
use Rattle.rules.proofs.Test.{case-found}
use Rattle.rules.proofs.Scan.{found-highest, highest-found, highest-last, highest-none}

-- ---- items, stepped through by size
pub item-before : {w : List ℕ} {e c s : ℕ} → Item w e c s → s < e
item-before (here h) = h
item-before (later h i) = item-before i

pub item_from : {w : List ℕ} {e c s : ℕ} → Item w e c s → c ≤ s
item_from (here h) = omega arith
item_from (later h i) = omega (arith, item_from i)

-- the item after an item
pub item-next : {w : List ℕ} {e c s : ℕ} → Item w e c s → end w s < e → Item w e c (end w s)
item-next (here h) l = later h (here l)
item-next (later h i) l = later h (item-next i l)

-- an item after an item
pub item-later : {w : List ℕ} {e c s t : ℕ} → Item w e c s → Item w e (end w s) t → Item w e c t
item-later (here h) j = later h j
item-later (later h i) j = later h (item-later i j)

-- of two items the higher is one from the lower one's end on
pub item-after : {w : List ℕ} {e c s t : ℕ} → Item w e c s → Item w e c t → s < t → Item w e (end w s) t
item-after (here h) (here k) l = absurd (omega arith)
item-after (here h) (later k j) l = j
item-after (later h i) (here k) l = absurd (omega (arith, item_from i))
item-after (later h i) (later k j) l = item-after i j l

module _ {w : List ℕ} (sized : Sized w) where
  -- the item in which q stands; f bounds the steps
  item-around : (f c e q : ℕ) → q < c + f → c ≤ q → q < e → e ≤ row_count w → (d : ℕ) × Item w e c d × d ≤ q × q < end w d
  item-around zero c e q l h k m = absurd (omega arith)
  item-around (suc f) c e q l h k m = elim (dec_lt q (end w c)) [
    | yes y ↦ let ce : c < e = omega arith in (c, here ce, h, y)
    | no z ↦
        let ce : c < e = omega arith in
        let s = sized.some_rows c (omega arith) in
        let r = item-around f (end w c) e q (omega arith) (omega arith) k m in (r.0, later ce r.1, r.2, r.3)
  ]

  -- the child of p in which q stands
  pub child-around : (p q : ℕ) → p < row_count w → p < q → q < end w p → (d : ℕ) × Child w p d × d ≤ q × q < end w d
  child-around p q m h k = item-around q (suc p) (end w p) q (omega arith) h k (sized.within p m)

  module _ (inside : (p c : ℕ) → p < row_count w → Child w p c → end w c ≤ end w p) where
    nested-steps : (f p q : ℕ) → q < p + f → p < row_count w → p ≤ q → q < end w p → end w q ≤ end w p
    nested-steps zero p q l m h k = absurd (omega arith)
    nested-steps (suc f) p q l m h k = elim (ℕ_discrete p q) [
      | yes e ↦ rw e (omega arith)
      | no z ↦
          let pq : p < q = omega arith in
          let r = child-around p q m pq k in
          let from = item_from r.1 in
          let t = inside p r.0 m r.1 in
          let before = item-before r.1 in
          let i = nested-steps f r.0 q (omega arith) (omega (arith, sized.within p m)) r.2 r.3 in
          omega arith
    ]

    -- whatever begins in p ends in p
    pub nested : (p q : ℕ) → p < row_count w → p ≤ q → q < end w p → end w q ≤ end w p
    nested p q = nested-steps (suc q) p q (omega arith)

    -- what begins before an item ends before it
    pub ends-before : {e c s : ℕ} → e ≤ row_count w → Item w e c s → (q : ℕ) → c ≤ q → q < s → end w q ≤ s
    ends-before m (here h) q l k = absurd (omega arith)
    ends-before {e} {c} {s} m (later h i) q l k = elim (dec_lt q (end w c)) [
      | yes y ↦ omega (arith, nested c q (omega arith) l y, item_from i)
      | no z ↦ ends-before m i q (omega arith) k
    ]

    -- the parent of a child
    pub child_parent : (p c : ℕ) → p < row_count w → Child w p c → parent w c ≡ some p
    unfolding parent
    child_parent p c m i =
        let from = item_from i in
        let before = item-before i in
        found-highest (λ q. ltb c (end w q)) c p (omega arith) (lt-ltb c (end w p) before)
        (λ q a z. le-ltb c (end w q) (ends-before (sized.within p m) i q (omega arith) z))

    -- and a row is a child of its parent
    pub parent_child : (c p : ℕ) → c < row_count w → parent w c ≡ some p → (p < c) × (c < end w p) × Child w p c
    unfolding parent
    parent_child c p m e =
        let f = highest-found (λ q. ltb c (end w q)) c p e in
        let before : c < end w p = ltb-true c (end w p) f.1 in
        let less = f.0 in
        let (d, i, g, j) = child-around p c (omega arith) less before in
        let from = item_from i in
        elim (ℕ_discrete d c) [
          | yes y ↦ (less, before, rw y at i)
          | no z ↦ absurd (omega (arith, ltb-false c (end w d) (highest-last (λ q. ltb c (end w q)) c p d e from (omega arith))))
        ]

    -- every row but row 0 has a parent, where row 0 holds all rows
    pub has-parent : size w 0 ≡ row_count w → (c : ℕ) → 0 < c → c < row_count w → (p : ℕ) × (parent w c ≡ some p)
    unfolding parent
    has-parent all c z m = case-found (parent w c)
        (λ p e. (p, e))
        (λ e. absurd (omega (arith, ltb-false c (end w 0) (highest-none (λ q. ltb c (end w q)) c 0 e z))))
