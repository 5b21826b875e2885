-- The place after a row, by what its parent is: the parent again if that is a loop, the next item of a list, else the place after the parent.
-- Assumes nothing.
use mathlib.Core.Path.{◌≡◌, sym, ◌∙◌, ap}
use mathlib.Core.Bool.{true, false}
use mathlib.Core.List.{List}
use mathlib.Core.Logic.{◌⊎◌, ⊎_elim}
use Prim.Native.Nat.{ℕ, ◌+◌, ◌≤◌, ◌<◌}
use native.Mathlib.Omega.{arith}
use lib.ListN.{length, set}
use lib.Seq.{get_or-set_same}
use Rattle.rules.specs.Rows.{row_count, end, Child}
use Rattle.rules.specs.Class.{is_loop, class}
use Rattle.rules.specs.Scope.{is_list}
use Rattle.rules.specs.Body.{Body}
use Rattle.rules.specs.Runner.{after}
use Rattle.rules.specs.Walking.{place_of}
use Rattle.rules.proofs.Test.{case-of}
use Rattle.rules.proofs.WalkSteps.{place-row}
use Rattle.rules.proofs.Going.{after-root, after-in-loop, after-in-list, after_last, after-in-other}
use Rattle.afters.specs.Afters.{AftersBelow}

-- ---- the place after row r, whose parent is k
module _ {w p b : List ℕ} (body : Body w p b) where
  module _ (k r : ℕ) (l : k < row_count w) (i : Child w k r) where
    pub place-loop : is_loop (class w k) ≡ true → place_of (k + 2) ≡ after w r
    place-loop t = place-row (k + 2) k (omega arith) ∙ sym (after-in-loop body k r l i t)

    pub place-next : is_loop (class w k) ≡ false → is_list (class w k) ≡ true → (e : ℕ) → e ≡ end w r → e < end w k → place_of (e + 2) ≡ after w r
    place-next t u e f h = place-row (e + 2) (end w r) (omega arith) ∙ sym (after-in-list body k r l i t u (omega arith))

    pub place_up : is_loop (class w k) ≡ false → (is_list (class w k) ≡ false) ⊎ (end w k ≤ end w r) → (x : ℕ) → place_of x ≡ after w k
        → place_of x ≡ after w r
    place_up t s x e = e ∙ sym (⊎_elim
        (after-in-other body k r l i t)
        (λ (h : end w k ≤ end w r). case-of (is_list (class w k)) (λ u. after_last body k r l i t u h) (after-in-other body k r l i t))
        s)

-- ---- the words
pub afters-start : (w t : List ℕ) → 0 < length t → AftersBelow w (set t 0 1) 1
afters-start w t m q h =
    let z : q ≡ 0 = omega arith in
    rw z (ap place_of (get_or-set_same t 0 1 0 m) ∙ sym (after-root w))
