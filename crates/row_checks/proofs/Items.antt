-- A kind up to Branch but Labeled has nothing below it, and may be an item of a list: one test over the table of the allowed details.
-- Assumes nothing.
use mathlib.Core.Path.{◌≡◌, refl, ◌∙◌}
use mathlib.Core.Bool.{true, false, ◌&&◌, not}
use mathlib.Core.List.{List}
use Prim.Native.Nat.{ℕ, ◌<◌}
use native.Mathlib.Omega.{arith}
use lib.Dec.{ltb, eqb}
use borrow.Author.Tests.{eqb-true, ne_eqb, lt-ltb}
use Rattle.rules.specs.Scan.{lowest}
use Rattle.rules.specs.Rows.{kind, detail, position, name, size}
use Rattle.rules.specs.Class.{is_statement, detail_allowed, class_of, base}
use Rattle.rules.specs.Names.{count_of_pairs}
use Rattle.rules.specs.Refusals.{holding, at_least, name_allowed, bad_row}
use Rattle.rules.proofs.Test.{and-true}
use Rattle.rules.proofs.Every.{every, implies, implied}
use Rattle.rules.proofs.Details.{of-allowed, other_name}
use Rattle.rules.proofs.Facts.{good-row}
use Rattle.row_checks.specs.Plain.{Nameless, PlainItem}

plain-kind : (k d : ℕ) → detail_allowed k d ≡ true → k < 12 → (k ≡ 3 → ⊥)
    → (is_statement (class_of k d) ≡ true) × (at_least (holding (class_of k d)) ≡ 0)
unfolding every lowest detail_allowed class_of
plain-kind k d a l n =
    let t = implied (ltb k 12 && not (eqb k 3)) (is_statement (class_of k d) && eqb (at_least (holding (class_of k d))) 0)
    (of-allowed (λ j i. implies (ltb j 12 && not (eqb j 3)) (is_statement (class_of j i) && eqb (at_least (holding (class_of j i))) 0)) refl k d a)
    (rw (lt-ltb k 12 l, ne_eqb k 3 n)) in
    let s = and-true (is_statement (class_of k d)) (eqb (at_least (holding (class_of k d))) 0) t in
    (s.0, eqb-true (at_least (holding (class_of k d))) 0 s.1)

-- an allowed row, and one whose words the code tests
module _ (w p : List ℕ) (r : ℕ) (s : size w r ≡ 1) (n : kind w r ≡ 3 → ⊥) where
  pub plain_row : kind w r < 12 → bad_row w p r ≡ false → PlainItem w p r
  unfolding base
  plain_row l g =
      let t = plain-kind (kind w r) (detail w r) (good-row w p r g).detailed l n in
      record { allowed = g; one_row = s; item = t.0; leaf = t.1 }

  pub plain-words : kind w r < 11 → Nameless w r → PlainItem w p r
  unfolding bad_row base
  plain-words l (a, z, m) =
      let q : name_allowed (base w r) (count_of_pairs p) (name w r) ≡ true =
      other_name (kind w r) (detail w r) (count_of_pairs p) (name w r) a (omega arith) n (λ e. omega arith) ∙ rw m refl in
      plain_row (omega arith) (rw (a, lt-ltb 0 (position w r) z, q, bad_row))
