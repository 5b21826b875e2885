-- The laws of the labels of a body: which rows are labels, which label has a row's name, and which one is declared, the first.
-- Assumes nothing.
use mathlib.Core.Path.{◌≡◌}
use mathlib.Core.Bool.{true, false, not}
use mathlib.Core.List.{List}
use mathlib.Core.Option.{none, some}
use Prim.Native.Nat.{ℕ, ◌<◌, ◌≤◌}
use native.Mathlib.Omega.{arith}
use native.Mathlib.Decide.{dec_lt}
use borrow.Author.Tests.{not-true}
use Rattle.rules.specs.Rows.{row_count, name}
use Rattle.rules.specs.Class.{labeled, class}
use Rattle.rules.specs.Names.{is_blank}
use Rattle.rules.specs.Labels.{is_class, same_names, is_label, labels, declared}
use Rattle.rules.specs.Law.{Label}
use Rattle.rules.proofs.Test.{case-of, case-found, clash, and-true, true-and}
use Rattle.rules.proofs.Scan.{lowest-none, none-lowest, lowest-found, lowest-first, found-lowest}
use Rattle.rules.proofs.ClassTests.{one-is, one-not}
use Rattle.rules.proofs.Every.{is_one}

module _ (w p b : List ℕ) where
  -- ---- is_label
  pub label_is : (r : ℕ) → Label w p b r → is_label w p b r ≡ true
  unfolding is_label
  label_is r l = rw (one-is (class w r) labeled l.labels, l.not_blank, is_label)

  pub is-label : (r : ℕ) → r < row_count w → is_label w p b r ≡ true → Label w p b r
  unfolding is_label
  is-label r h t =
      let y = and-true (is_class w labeled r) (not (is_blank p b (name w r))) t in
      record {
        row = h;
        labels = is_one (class w r) labeled y.0;
        not_blank = not-true (is_blank p b (name w r)) y.1;
      }

  -- a row of another class, or with the name `_`, is none
  pub other-label : (r : ℕ) → (class w r ≡ labeled → ⊥) → is_label w p b r ≡ false
  unfolding is_label
  other-label r n = rw (one-not (class w r) labeled n, is_label)

  pub blank-label : (r : ℕ) → is_blank p b (name w r) ≡ true → is_label w p b r ≡ false
  unfolding is_label
  blank-label r z = case-of (is_class w labeled r) (λ u. rw (u, z, is_label)) (λ u. rw (u, is_label))

  -- ---- labels
  pub labels-is : (g r : ℕ) → is_label w p b r ≡ true → same_names w p b r g ≡ true → labels w p b g r ≡ true
  unfolding labels
  labels-is g r t u = true-and (is_label w p b r) (same_names w p b r g) t u

  pub is-labels : (g r : ℕ) → labels w p b g r ≡ true → (is_label w p b r ≡ true) × (same_names w p b r g ≡ true)
  unfolding labels
  is-labels g r t = and-true (is_label w p b r) (same_names w p b r g) t

  -- a row of the body that has the name
  pub label-labels : (g r : ℕ) → Label w p b r → same_names w p b r g ≡ true → labels w p b g r ≡ true
  label-labels g r l t = labels-is g r (label_is r l) t

  pub labels-label : (g r : ℕ) → r < row_count w → labels w p b g r ≡ true → Label w p b r × (same_names w p b r g ≡ true)
  labels-label g r h t = let x = is-labels g r t in (is-label r h x.0, x.1)

  -- ---- declared
  pub is_declared_lem : (g d : ℕ) → declared w p b g ≡ some d → (d < row_count w) × (labels w p b g d ≡ true)
  unfolding declared
  is_declared_lem g d e = lowest-found (labels w p b g) (row_count w) d e

  pub declared-first : (g d r : ℕ) → declared w p b g ≡ some d → r < d → labels w p b g r ≡ false
  unfolding declared
  declared-first g d r e h = lowest-first (labels w p b g) (row_count w) d r e h

  pub declared-is : (g d : ℕ) → d < row_count w → labels w p b g d ≡ true → ((r : ℕ) → r < d → labels w p b g r ≡ false) →
      declared w p b g ≡ some d
  unfolding declared
  declared-is g d h t below = found-lowest (labels w p b g) (row_count w) d h t below

  pub declared-none : (g r : ℕ) → declared w p b g ≡ none → r < row_count w → labels w p b g r ≡ false
  unfolding declared
  declared-none g r e h = lowest-none (labels w p b g) (row_count w) r e h

  pub none-declared : (g : ℕ) → ((r : ℕ) → r < row_count w → labels w p b g r ≡ false) → declared w p b g ≡ none
  unfolding declared
  none-declared g h = none-lowest (labels w p b g) (row_count w) h

  -- where a label has the name, one is declared, no later than it
  pub some-declared : (g r : ℕ) → r < row_count w → labels w p b g r ≡ true → (d : ℕ) × (declared w p b g ≡ some d) × (d ≤ r)
  some-declared g r h t = case-found (declared w p b g)
      (λ d e. (d, e, elim (dec_lt r d) [ yes l ↦ absurd (clash (cc (declared-first g d r e l))) | no n ↦ omega arith ]))
      (λ e. absurd (clash (cc (declared-none g r e h))))
