-- Labels by canonical number: a row is a label of a row's name exactly when it is Labeled and the canonical numbers are equal and not 0, since equal canonical
-- numbers are equal bytes. So the declared label of the number is that of the name.
-- Assumes nothing.
use mathlib.Core.Path.{◌≡◌, sym, ◌∙◌, ap}
use mathlib.Core.Bool.{true}
use mathlib.Core.List.{List}
use mathlib.Core.Option.{none, some}
use Prim.Native.Nat.{ℕ, ◌≤◌, ◌<◌}
use native.Mathlib.Omega.{arith}
use lib.Dec.{eqb}
use borrow.Author.Tests.{eq-eqb, eqb-true}
use Rattle.rules.specs.Rows.{row_count, name}
use Rattle.rules.specs.Class.{labeled, class}
use Rattle.rules.specs.Names.{count_of_pairs}
use Rattle.rules.specs.Body.{Body}
use Rattle.rules.specs.Labels.{is_label, labels, declared}
use Rattle.rules.proofs.Test.{case-of, clash, and-true}
use Rattle.rules.proofs.Scan.{lowest-same, lowest-found}
use Rattle.rules.proofs.RowNames.{same_bytes_lem, bytes_same, name-within, labeled-named, same-named}
use Rattle.rules.proofs.LabelRows.{label_is, is-label, labels-is, is-labels, none-declared}
use Rattle.tables.specs.Canon.{row_canon, is_numbered, declared_for}
use Rattle.tables.proofs.Canons.{canonical, canon-above, canon-within, canon-same, same-canon}

module _ (w p b : List ℕ) (c r : ℕ) where
  pub numbered_is : is_label w p b r ≡ true → row_canon w p b r ≡ c → is_numbered w p b c r ≡ true
  numbered_is t e = rw (t, eq-eqb (row_canon w p b r) c e)

  pub is-numbered : is_numbered w p b c r ≡ true → (is_label w p b r ≡ true) × (row_canon w p b r ≡ c)
  is-numbered t = let x = and-true (is_label w p b r) (eqb (row_canon w p b r) c) t in (x.0, eqb-true (row_canon w p b r) c x.1)

pub row-canon-within : (w p b : List ℕ) (r : ℕ) → row_canon w p b r ≤ count_of_pairs p
row-canon-within w p b r = canon-within p b (name w r)

module _ {w p b : List ℕ} (body : Body w p b) where
  -- a label has a canonical number, and a Labeled row with a canonical number is a label
  pub label-class : (r : ℕ) → r < row_count w → is_label w p b r ≡ true → class w r ≡ labeled
  label-class r h t = (is-label w p b r h t).labels

  pub label-numbered : (r : ℕ) → r < row_count w → is_label w p b r ≡ true → 0 < row_canon w p b r
  label-numbered r h t =
      let l = is-label w p b r h t in
      canon-above p b (name w r) (labeled-named body r h l.labels) (name-within body r h) l.not_blank

  pub numbered-label : (r : ℕ) → r < row_count w → class w r ≡ labeled → 0 < row_canon w p b r → is_label w p b r ≡ true
  numbered-label r h c z =
      label_is w p b r (record { row = h; labels = c; not_blank = (canonical p b (name w r) z).not_blank })

  module _ (g r : ℕ) (hg : g < row_count w) (hr : r < row_count w) where
    pub labels-canon : labels w p b g r ≡ true → (class w r ≡ labeled) × (row_canon w p b r ≡ row_canon w p b g) × (0 < row_canon w p b g)
    labels-canon t =
        let x = is-labels w p b g r t in
        let c = label-class r hr x.0 in
        let z = labeled-named body r hr c in
        let s = same_bytes_lem p b (name w r) (name w g) x.1 in
        let zg = same-named body r hr g z (bytes_same p b (name w g) (name w r) (sym s)) in
        let e = canon-same p b (name w r) (name w g) z zg s in
        (c, e, omega (arith, label-numbered r hr x.0, e))

    pub canon-labels : class w r ≡ labeled → row_canon w p b r ≡ row_canon w p b g → 0 < row_canon w p b g → labels w p b g r ≡ true
    canon-labels c e z =
        labels-is w p b g r (numbered-label r hr c (omega arith))
        (bytes_same p b (name w r) (name w g) (same-canon p b (name w r) (name w g) (name-within body r hr) (name-within body g hg) z e))

    -- a label with the number of a name is one of that name
    numbered-labels : 0 < row_canon w p b g → is_numbered w p b (row_canon w p b g) r ≡ labels w p b g r
    numbered-labels z = case-of (labels w p b g r)
        (λ t. numbered_is w p b (row_canon w p b g) r (is-labels w p b g r t).0 (labels-canon t).1 ∙ sym t)
        (λ f. case-of (is_numbered w p b (row_canon w p b g) r)
        (λ t.
        let x = is-numbered w p b (row_canon w p b g) r t in
        absurd (clash (cc (f, canon-labels (label-class r hr x.0) x.1 z))))
        (λ u. u ∙ sym f))

  -- ---- the declared label
  pub declared-canon : (g : ℕ) → g < row_count w → 0 < row_canon w p b g → declared_for w p b (row_canon w p b g) ≡ declared w p b g
  unfolding declared_for declared
  declared-canon g hg z = lowest-same (is_numbered w p b (row_canon w p b g)) (labels w p b g) (row_count w)
      (λ r h. numbered-labels g r hg (omega arith) z)

  -- it is a label of that number, and the declared one of its own name
  pub is-declared-for : (c d : ℕ) → declared_for w p b c ≡ some d
      → (d < row_count w) × (is_label w p b d ≡ true) × (declared w p b d ≡ some d) × (row_canon w p b d ≡ c)
  unfolding declared_for
  is-declared-for c d e =
      let i = lowest-found (is_numbered w p b c) (row_count w) d e in
      let x = is-numbered w p b c d i.1 in
      let row : d < row_count w = omega (arith, i.0) in
      (row, x.0, own row x.0 x.1, x.1)
    where
      own : d < row_count w → is_label w p b d ≡ true → row_canon w p b d ≡ c → declared w p b d ≡ some d
      own row t q = sym (declared-canon d row (label-numbered d row t)) ∙ ap (declared_for w p b) q ∙ e

  -- a row with no name or `_` has none
  pub declared-blank : (g : ℕ) → g < row_count w → row_canon w p b g ≡ 0 → declared w p b g ≡ none
  declared-blank g hg z =
      none-declared w p b g (λ r h. case-of (labels w p b g r)
      (λ t. absurd (omega (arith, (labels-canon g r hg (omega arith) t).2)))
      (λ f. f))
