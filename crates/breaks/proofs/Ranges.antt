-- Ranges of rows in which whatever begins ends: those below a row, what is left of one after its first item, and that item itself.
-- A Labeled row is filled by its one child, so it is not the last row of anything: no label stands on an item that follows another.
-- Assumes nothing.
use mathlib.Core.Path.{◌≡◌, refl, ◌∙◌, ap}
use mathlib.Core.Bool.{true, false, not}
use borrow.Author.Tests.{not-true}
use mathlib.Core.List.{List, [], ◌∷◌}
use Prim.Native.Nat.{ℕ, suc, ◌-◌, ◌≤◌, ◌<◌}
use native.Mathlib.Omega.{arith}
use native.Mathlib.Decide.{dec_lt}
use Rattle.rules.specs.Scan.{lowest}
use Rattle.rules.specs.Rows.{row_count, name, end, Item, here, later}
use Rattle.rules.specs.Class.{labeled, one_of, is_statement, class}
use Rattle.rules.specs.Scope.{is_list}
use Rattle.rules.specs.Body.{Body}
use Rattle.rules.specs.Labels.{is_class}
use Rattle.rules.proofs.Test.{case-of}
use Rattle.rules.proofs.Every.{every, is_one}
use Rattle.rules.proofs.ClassRules.{class-rule, child-rule}
use Rattle.breaks.specs.Leaves.{label_number, Closed, Statements}

-- ---- the label on a row
module _ (w : List ℕ) where
  pub label-of-first : label_number w 0 ≡ 0
  unfolding label_number
  label-of-first = refl

  pub label-on : (t : ℕ) → class w t ≡ labeled → label_number w (suc t) ≡ name w t
  unfolding label_number
  label-on t e = rw (e, label_number)

  pub no-label-on : (t : ℕ) → is_class w labeled t ≡ false → label_number w (suc t) ≡ 0
  unfolding label_number
  no-label-on t f = rw (f, label_number)

module _ {w p b : List ℕ} (body : Body w p b) where
  -- ---- closed ranges
  pub closed-below : (r : ℕ) → r < row_count w → Closed w (suc r) (end w r)
  closed-below r h =
      let n = body.sized.some_rows r h in
      record { order = omega arith; within = body.sized.within r h; ends = λ k l m. body.nested r k h l m }

  pub closed-rest : {c e : ℕ} → Closed w c e → c < e → Closed w (end w c) e
  closed-rest {c} a l =
      let m : c ≤ c = omega arith in
      record { order = a.ends c m l; within = a.within; ends = λ k n o. a.ends k (omega arith) o }

  pub closed-item : (c : ℕ) → c < row_count w → Closed w c (end w c)
  closed-item c h = record { order = omega arith; within = body.sized.within c h; ends = λ k n o. case-of-start k n o }
    where
      case-of-start : (k : ℕ) → c ≤ k → k < end w c → end w k ≤ end w c
      case-of-start k n o = elim (dec_lt c k) [ yes l ↦ body.nested c k h l o | no m ↦ let e : k ≡ c = omega arith in rw e (omega arith) ]

  -- ---- no label stands on an item that follows another
  pub label_after : (c : ℕ) → c < row_count w → label_number w (end w c) ≡ 0
  label_after c h =
      let n = body.sized.some_rows c h in
      let m = body.sized.within c h in
      let t : ℕ = end w c - 1 in
      let e : end w c ≡ suc t = omega arith in
      let last : end w t ≤ suc t = omega (arith, (closed-item c h).ends t (omega arith) (omega arith)) in
      ap (label_number w) e ∙ no-label-on w t (case-of (is_class w labeled t)
      (λ y. absurd (omega (arith, (body.one_statement t (omega arith) (rw (is_one (class w t) labeled y))).0)))
      (λ f. f))

  pub label-of-item : {e c s : ℕ} → e ≤ row_count w → Item w e c s → label_number w c ≡ 0 → label_number w s ≡ 0
  label-of-item m (here l) z = z
  label-of-item {e} {c} m (later l i) z = label-of-item m i (label_after c (omega arith))

  -- ---- the list of a row that holds one
  pub list-label : (q : ℕ) → is_list (class w q) ≡ true → label_number w (suc q) ≡ 0
  unfolding every lowest
  list-label q t = no-label-on w q (not-true (is_class w labeled q) (class-rule is_list (λ c. not (one_of (labeled ∷ []) c)) refl (class w q) t))

  pub list-statements : (q : ℕ) → q < row_count w → is_list (class w q) ≡ true → Statements w (suc q) (end w q)
  unfolding every lowest
  list-statements q h t s i = child-rule is_list is_statement refl (class w q) (class w s) t (body.child_fits q s h i)
