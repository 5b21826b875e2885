-- The tests of `words_allowed` are the parts of `bad_row`, in its order: the detail, the position, the name, with any pairs that are so many.
-- Assumes nothing.
use mathlib.Core.Path.{◌≡◌, ◌∙◌}
use mathlib.Core.Bool.{true, false, not}
use mathlib.Core.List.{List}
use Prim.Native.Nat.{ℕ}
use native.Mathlib.Omega.{arith}
use borrow.Author.Tests.{lt-ltb, le-ltb}
use Rattle.rules.specs.Rows.{kind, detail, position, name}
use Rattle.rules.specs.Class.{detail_allowed, class_of, base}
use Rattle.rules.specs.Names.{count_of_pairs}
use Rattle.rules.specs.Refusals.{name_allowed, bad_row}
use Rattle.rules.proofs.Test.{case-of}

module _ (w p : List ℕ) (r k d : ℕ) (ek : k ≡ kind w r) (ed : d ≡ detail w r) where
  pub bad-detail : detail_allowed k d ≡ false → false ≡ not (bad_row w p r)
  unfolding bad_row
  bad-detail f = let e : detail_allowed (kind w r) (detail w r) ≡ false = cc in rw (e, bad_row)

  module _ (t : detail_allowed k d ≡ true) (q : ℕ) (eq : q ≡ position w r) where
    pub bad-position : q ≡ 0 → false ≡ not (bad_row w p r)
    unfolding bad_row
    bad-position z =
        let e : detail_allowed (kind w r) (detail w r) ≡ true = cc in
        rw (e, le-ltb 0 (position w r) (omega arith), bad_row)

    pub by_name : (q ≡ 0 → ⊥) → (n : ℕ) → n ≡ name w r → (m : ℕ) → count_of_pairs p ≡ m → name_allowed (class_of k d) m n ≡ not (bad_row w p r)
    unfolding bad_row base
    by_name z n en m em =
        let e : detail_allowed (kind w r) (detail w r) ≡ true = cc in
        let l = lt-ltb 0 (position w r) (omega arith) in
        let s : name_allowed (class_of k d) m n ≡ name_allowed (base w r) (count_of_pairs p) (name w r) = cc in
        s ∙ case-of (name_allowed (base w r) (count_of_pairs p) (name w r)) (λ a. rw (e, l, a, bad_row)) (λ a. rw (e, l, a, bad_row))
