-- The list of a row, item by item: what holds of no rows at the list's end, and of a child and what follows it where it holds of what follows, holds of the
-- whole list. An item has at least one row, so as many steps as there are rows are enough.
-- Assumes nothing.
use mathlib.Core.Path.{◌≡◌, refl}
use mathlib.Core.List.{List, [], ◌∷◌}
use Prim.Native.Nat.{ℕ, zero, suc, ◌-◌, ◌≤◌, ◌<◌}
use native.Mathlib.Omega.{arith}
use native.Mathlib.Decide.{dec_lt}
use borrow.Author.Tests.{lt-ltb, le-ltb}
use Rattle.rules.specs.Rows.{row_count, size, end, Child, here}
use Rattle.rules.specs.Body.{Body}
use Rattle.rules.proofs.Nesting.{item-next}
use Rattle.breaks.specs.Leaves.{Closed}
use Rattle.breaks.proofs.Ranges.{closed-below, closed-rest}
use Rattle.goscript.specs.Syntax.{items, list}

module _ (w : List ℕ) where
  items-none : (g e c : ℕ) → e ≤ c → items w g e c ≡ []
  unfolding items
  items-none zero e c l = refl
  items-none (suc g) e c l = rw (le-ltb c e l, items)

  items_more : (g e c : ℕ) → c < e → items w (suc g) e c ≡ c ∷ items w g e (end w c)
  unfolding items
  items_more g e c l = rw (lt-ltb c e l, items)

-- P says something of the rows from c on in the list of q
module _ {w p b : List ℕ} (body : Body w p b) (q : ℕ) (h : q < row_count w) (P : ℕ → List ℕ → Type 0) (ended : P (end w q) [])
    (next : (c : ℕ) (l : List ℕ) → Closed w c (end w q) → c < end w q → Child w q c → P (end w c) l → P c (c ∷ l)) where
  of_end : (g c : ℕ) → Closed w c (end w q) → end w q ≤ c → P c (items w g (end w q) c)
  of_end g c a l = let e : c ≡ end w q = omega (arith, a.order) in rw (items-none w g (end w q) c l, e) ended

  of-items : (g c : ℕ) → Closed w c (end w q) → (c < end w q → Child w q c) → end w q - c ≤ g → P c (items w g (end w q) c)
  of-items zero c a i x = of_end zero c a (omega arith)
  of-items (suc g) c a i x = elim (dec_lt c (end w q)) [
    | no n ↦ of_end (suc g) c a (omega arith)
    | yes l ↦
        let n = body.sized.some_rows c (omega (arith, a.within)) in
        rw (items_more w g (end w q) c l)
        (next c (items w g (end w q) (end w c)) a l (i l) (of-items g (end w c) (closed-rest body a l) (λ m. item-next (i l) m) (omega arith)))
  ]

  pub of-list : P (suc q) (list w q)
  unfolding list
  of-list = of-items (size w q) (suc q) (closed-below body q h) (λ m. here m) (omega arith)
