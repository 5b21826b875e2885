-- The table of the rows around each row, row after row: no row is around row 0, and row r has what its parent gives. It is said of one word of the entries,
-- `of`, and of the classes that it is for, P.
-- Assumes nothing.
use mathlib.Core.Path.{◌≡◌, sym, ◌∙◌, ap}
use mathlib.Core.Bool.{Bool, true, false}
use mathlib.Core.List.{List}
use Prim.Native.Nat.{ℕ, suc, ◌+◌, ◌≤◌, ◌<◌}
use native.Mathlib.Omega.{arith}
use native.Mathlib.Decide.{ℕ_discrete}
use lib.ListN.{length, get_or, set}
use lib.Seq.{get_or-set_same, get_or-set_other}
use Rattle.rules.specs.Scan.{highest}
use Rattle.rules.specs.Rows.{row_count, Child}
use Rattle.rules.specs.Class.{Class, class}
use Rattle.rules.specs.Scope.{innermost}
use Rattle.rules.specs.Labels.{word}
use Rattle.rules.specs.Body.{Body}
use Rattle.rules.proofs.Test.{case-of}
use Rattle.rules.proofs.Lists.{parent-innermost}
use Rattle.enclosing.specs.declared.Enclosing.{Enclosing}
use Rattle.enclosing.specs.Enclosing.{outside, EnclosingBelow}
use Rattle.enclosing.proofs.Inherited.{inherited}

-- p is the parent of row r
pub record ParentOf (w : List ℕ) (r p : ℕ) : Type 0 where
  pub before : p < r
  pub child : Child w p r

module _ (w : List ℕ) (P : Class → Bool) (of : Enclosing → ℕ) where
  pub filled-start : (t : List Enclosing) (e : Enclosing) → 0 < length t → of e ≡ 0 → EnclosingBelow w P of (set t 0 e) 1
  unfolding innermost highest
  filled-start t e h z r l = let i : r ≡ 0 = omega arith in rw (i, get_or-set_same t 0 e outside h) z

  module _ {p b : List ℕ} (body : Body w p b) where
    -- q is the parent, and `above` its word
    from-parent : (r q v above : ℕ) → r < row_count w → ParentOf w r q
        → above ≡ word (innermost w P q) → v ≡ elim (P (class w q)) [ true ↦ suc q | false ↦ above ] → v ≡ word (innermost w P r)
    from-parent r q v above l o a f =
        let m = o.before in
        case-of (P (class w q))
        (λ u. let i : v ≡ suc q = rw u at f in i ∙ sym (ap word (parent-innermost body P q r (omega arith) o.child u)))
        (λ u. let i : v ≡ above = rw u at f in i ∙ a ∙ sym (ap word (inherited body P q r (omega arith) o.child u)))

    pub filled_more : (t : List Enclosing) (r q : ℕ) (e : Enclosing) → r < row_count w → row_count w ≤ length t → ParentOf w r q
        → of e ≡ elim (P (class w q)) [ true ↦ suc q | false ↦ of (get_or t q outside) ] → EnclosingBelow w P of t r
        → EnclosingBelow w P of (set t r e) (r + 1)
    filled_more t r q e l h o f s k m = elim (ℕ_discrete k r) [
      | yes y ↦ rw (y, get_or-set_same t r e outside (omega arith)) (from-parent r q (of e) (of (get_or t q outside)) l o (s q o.before) f)
      | no n ↦ rw (get_or-set_other t r k e outside n) (s k (omega arith))
    ]
