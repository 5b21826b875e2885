-- What the two searches for a break know on their way. At a row the search answers as that below it does, and through a list what is left, from the
-- next item on, answers as the whole does.
-- Assumes nothing.
use mathlib.Core.Path.{◌≡◌, refl, sym, ◌∙◌}
use mathlib.Core.Bool.{Bool, true, false, ◌||◌}
use mathlib.Core.List.{List}
use Prim.Native.Nat.{ℕ, suc, ◌+◌, ◌-◌, ◌*◌, ◌≤◌, ◌<◌}
use native.Mathlib.Omega.{arith}
use native.Mathlib.Numerals.{add-one}
use Rattle.rules.specs.Rows.{row_count, kind, detail, size, end}
use Rattle.rules.specs.Class.{is_breakable, detail_allowed, class_of, class}
use Rattle.rules.specs.Body.{Body}
use Rattle.rules.proofs.Classes.{row-holding}
use Rattle.breaks.specs.Leaves.{Closed, leaves, any_leaves}
use Rattle.breaks.proofs.Ranges.{closed-rest, closed-item, closed-below}
use Rattle.breaks.proofs.Leaving.{any-apart, any_none, any-unnamed, any-leaf, any_below, any_held}
use Rattle.breaks.proofs.ByWords.{breakable-words, other-no-break}

-- ---- the search at a row and below it

-- a Branch has nothing below it
pub at-branch : {w p b : List ℕ} → Body w p b → (r : ℕ) → r < row_count w → {k : ℕ} → k ≡ kind w r → k ≡ 11 → (label : ℕ) (implicit : Bool) {v : Bool}
    → v ≡ leaves w p b r label implicit r → v ≡ any_leaves w p b r (end w r) label implicit
unfolding class_of
at-branch {w} {p} {b} body r h q e label implicit f =
    f ∙ sym (any-leaf w p b r label implicit (body.leaf r h (row-holding w r (body.details r h) 11 (sym q ∙ e) refl refl)))

-- the list below a row of size n, in a smaller measure
pub below : {w p b : List ℕ} → Body w p b → {t r n : ℕ} → 2 * size w r ≡ t → r < row_count w → n ≡ size w r
    → (2 * (r + n - (r + 1)) + 1 < t) × Closed w (r + 1) (r + n)
below body {t} {r} m h q =
    let n = body.sized.some_rows r h in
    (omega arith, rw (q, add-one r) (closed-below body r h))

-- the row r has the kind k and the size n
module _ {w p b : List ℕ} (body : Body w p b) {r k n : ℕ} (h : r < row_count w) (kind-is : k ≡ kind w r) (size_is : n ≡ size w r) where
  -- u is what `is_breakable` says of the kind
  module _ {u : Bool} (f : (d : ℕ) → detail_allowed k d ≡ true → u ≡ is_breakable (class_of k d)) (label : ℕ) (implicit : Bool) where
    breakable : is_breakable (class w r) ≡ u
    breakable =
        let e = body.details r h in
        sym (breakable-words w r e) ∙ rw (← kind-is) (sym (f (detail w r) (rw kind-is e)))

    -- without a label, nothing leaves a row that a break can leave
    pub unnamed : u ≡ true → label ≡ 0 → false ≡ any_leaves w p b r (end w r) label implicit
    unnamed y z = sym (any_held w p b r label implicit (breakable ∙ y) ∙ rw z (any-unnamed w p b (suc r) (end w r)))

    -- it holds the unlabelled breaks below it, and any other row holds none
    pub held : u ≡ true → {v : Bool} → v ≡ any_leaves w p b (r + 1) (r + n) label false → v ≡ any_leaves w p b r (end w r) label implicit
    held y g = rw (size_is, add-one r) at g ∙ sym (any_held w p b r label implicit (breakable ∙ y))

    pub through : u ≡ false → (k ≡ 11 → ⊥) → {v : Bool} → v ≡ any_leaves w p b (r + 1) (r + n) label implicit → v ≡ any_leaves w p b r (end w r) label implicit
    through y z g =
        let e = other-no-break w r (body.details r h) (λ o. z (kind-is ∙ o)) in
        rw (size_is, add-one r) at g ∙ sym (any_below w p b r label implicit e (breakable ∙ y))

-- ---- the search through a list: what is left, from the item c on, answers as the whole does
pub record Walk (w p b : List ℕ) (e label : ℕ) (implicit : Bool) (from c : ℕ) : Type 0 where
  pub closed : Closed w c e
  pub low : from ≤ c
  pub same : any_leaves w p b c e label implicit ≡ any_leaves w p b from e label implicit

module _ {w p b : List ℕ} (body : Body w p b) {e label : ℕ} {implicit : Bool} {from : ℕ} where
  pub begin : Closed w from e → Walk w p b e label implicit from from
  begin a = record { closed = a; low = omega arith; same = refl }

  module _ {c : ℕ} (a : Walk w p b e label implicit from c) where
    pub ended : e ≤ c → false ≡ any_leaves w p b from e label implicit
    ended l = sym (any_none w p b c e label implicit l) ∙ a.same

    module _ (l : c < e) where
      row : c < row_count w
      row = omega (arith, a.closed.within)

      -- the item's rows, in a smaller measure
      pub item-call : {t : ℕ} → 2 * (e - from) + 1 ≡ t → (2 * size w c < t) × (c < row_count w)
      item-call m =
          let n = a.closed.ends c (omega arith) l in
          let k = a.low in
          (omega arith, row)

      apart : any_leaves w p b c e label implicit ≡ (any_leaves w p b c (end w c) label implicit || any_leaves w p b (end w c) e label implicit)
      apart =
          let m = closed-item body c row in
          any-apart w p b c (end w c) e label implicit m.order (closed-rest body a.closed l).order m.ends

      pub found : {t : Bool} → t ≡ any_leaves w p b c (end w c) label implicit → t ≡ true → true ≡ any_leaves w p b from e label implicit
      found q y = rw (← q, y) at (sym (sym a.same ∙ apart))

      pub next : {t : Bool} → t ≡ any_leaves w p b c (end w c) label implicit → t ≡ false → {n : ℕ} → n ≡ size w c → Walk w p b e label implicit from (c + n)
      next q y z =
          let x = closed-rest body a.closed l in
          let low = a.low in
          record { closed = rw z x; low = omega arith; same = rw z (sym (rw (← q, y) at apart) ∙ a.same) }
