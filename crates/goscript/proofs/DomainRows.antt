-- What stock's two domains say of a row. Each says that a test passes at no row of some, so it fails at each of them: then a label of a statement already ended
-- doesn't have the name of a labelled break or continue, and a statement that a break can leave carries and holds no label.
-- Assumes nothing.
use mathlib.Core.Path.{◌≡◌}
use mathlib.Core.Bool.{Bool, true, false, ◌&&◌, ◌||◌}
use mathlib.Core.List.{List}
use Prim.Native.Nat.{ℕ, ◌≤◌, ◌<◌}
use lib.Dec.{ltb, leb}
use borrow.Author.Tests.{lt-ltb, le-leb, not-true}
use Rattle.rules.specs.Scan.{lowest}
use Rattle.rules.specs.Rows.{row_count, end}
use Rattle.rules.specs.Class.{labeled, is_breakable, class}
use Rattle.rules.specs.Labels.{is_some, is_class, same_names, is_label, labels, labelled_break}
use Rattle.rules.proofs.Test.{case-of, clash, true-and, or-false}
use Rattle.rules.proofs.Scan.{lowest-none}
use Rattle.rules.proofs.Found.{is_none}
use Rattle.rules.proofs.LabelRows.{labels-is}
use Rattle.goscript.specs.Domains.{names_ended, none_names_ended, carries_label, holds_label, none_labelled}

fails-below : (P : ℕ → Bool) (n k : ℕ) → is_some (lowest P n) ≡ false → k < n → P k ≡ false
fails-below P n k f h = lowest-none P n k (is_none (lowest P n) f) h

module _ (w p b : List ℕ) where
  pub ended-not-named : (g t : ℕ) → none_names_ended w p b ≡ true → g < row_count w → labelled_break w p b g ≡ true
      → t < g → is_label w p b t ≡ true → end w t ≤ g → same_names w p b t g ≡ false
  unfolding none_names_ended names_ended
  ended-not-named g t d row v h u m = case-of (same_names w p b t g)
      (λ s.
      let z = fails-below (names_ended w p b) (row_count w) g (not-true (is_some (lowest (names_ended w p b) (row_count w))) d) row in
      let n = fails-below (λ t. labels w p b g t && leb (end w t) g) g t (rw (v, names_ended) at z) h in
      let y = true-and (labels w p b g t) (leb (end w t) g) (labels-is w p b g t u s) (le-leb (end w t) g m) in
      absurd (clash (cc)))
      (λ f. f)

module _ (w : List ℕ) where
  pub not-labelled : none_labelled w ≡ true → (s : ℕ) → s < row_count w → is_breakable (class w s) ≡ true
      → (carries_label w s ≡ false) × (holds_label w s ≡ false)
  unfolding none_labelled
  not-labelled d s h t =
      let P : ℕ → Bool = λ s. is_breakable (class w s) && (carries_label w s || holds_label w s) in
      or-false (carries_label w s) (holds_label w s) (rw t at (fails-below P (row_count w) s (not-true (is_some (lowest P (row_count w))) d) h))

  pub holds-none : (s : ℕ) → holds_label w s ≡ false → (t : ℕ) → s < t → t < end w s → class w t ≡ labeled → ⊥
  unfolding holds_label
  holds-none s f t l m e =
      let z : true ≡ false = rw (lt-ltb s t l, e) at (fails-below (λ t. ltb s t && is_class w labeled t) (end w s) t f m) in
      clash (cc)
