-- What the statement rule, the list rule and the rule of a switch require: a smaller measure, and the label directly on the row.
-- The measure is twice the rows of a statement, one more than that of a list, and one less where the rule of a switch takes the same row.
-- Assumes nothing.
use mathlib.Core.Path.{◌≡◌, sym}
use mathlib.Core.Bool.{Bool, true}
use mathlib.Core.List.{List}
use Prim.Native.Nat.{ℕ, ◌+◌, ◌-◌, ◌*◌, ◌≤◌, ◌<◌}
use native.Mathlib.Omega.{arith}
use native.Mathlib.Numerals.{add-one}
use Rattle.rules.specs.Rows.{row_count, size}
use Rattle.rules.specs.Class.{select, is_statement, class}
use Rattle.rules.specs.Scope.{is_list}
use Rattle.rules.specs.Labels.{is_class}
use Rattle.rules.specs.Body.{Body}
use Rattle.rules.proofs.Shape.{opens}
use Rattle.rules.proofs.Nesting.{item-before, item_from}
use Rattle.breaks.specs.Leaves.{label_number, Closed, Statements}
use Rattle.returns.specs.Search.{OneRowEmpties, Last}
use Rattle.breaks.proofs.Ranges.{closed-below, label-of-item, list-label, list-statements}

module _ (w : List ℕ) (t r label : ℕ) where
  -- below t in the measure, a statement, with the label on it
  abbrev pub RowCall : Type 0
  RowCall = (2 * size w r < t) × ((r < row_count w) × (is_statement (class w r) ≡ true) × (label ≡ label_number w r))

module _ (w : List ℕ) (t r label : ℕ) (found : Bool) where
  -- below t in the measure, a switch or Select, with the label on it and a default found for a Select
  abbrev pub SwitchCall : Type 0
  SwitchCall = (2 * size w r - 1 < t)
      × ((r < row_count w) × (opens (class w r) ≡ true) × (found ≡ is_class w select r) × (label ≡ label_number w r))

module _ (w : List ℕ) (t c e : ℕ) where
  -- below t in the measure, a list of statements
  abbrev pub ListCall : Type 0
  ListCall = (2 * (e - c) + 1 < t) × (Closed w c e × Statements w c e × (label_number w c ≡ 0))

module _ {w p b : List ℕ} (body : Body w p b) where
  pub one-row-empties : OneRowEmpties w
  one-row-empties r h e = body.leaf r h (rw e)

  -- the list of a row; n is its size as the code read it
  pub list-call : (r : ℕ) → r < row_count w → is_list (class w r) ≡ true → {t n : ℕ} → 2 * size w r ≤ t → n ≡ size w r → ListCall w t (r + 1) (r + n)
  list-call r h k x q =
      let m = body.sized.some_rows r h in
      rw (q, add-one r) (omega arith, (closed-below body r h, list-statements body r h k, list-label body r k))

  -- the last item of a list
  pub last-call : {t c e s : ℕ} → 2 * (e - c) + 1 ≡ t → Closed w c e → Statements w c e → label_number w c ≡ 0 → Last w c e s → RowCall w t s 0
  last-call {s = s} x a k z l =
      let i = l.item in
      let m = item-before i in
      let n = item_from i in
      let o = a.ends s n m in
      let u = a.within in
      (omega arith, (omega arith, k s i, sym (label-of-item body a.within i z)))
