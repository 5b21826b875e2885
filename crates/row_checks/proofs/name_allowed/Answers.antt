-- Each way out of the code is one rule of rules' Details for a number that the pairs have; past the last pair no name is allowed.
-- Assumes nothing.
use mathlib.Core.Path.{◌≡◌, refl, sym, ◌∙◌}
use mathlib.Core.Bool.{true, not, ◌&&◌}
use Prim.Native.Nat.{ℕ, ◌≤◌}
use native.Mathlib.Omega.{arith}
use lib.Dec.{eqb, leb}
use borrow.Author.Tests.{ne_eqb, leb-true, leb-false}
use Rattle.rules.specs.Class.{class_of}
use Rattle.rules.specs.Refusals.{name_allowed}
use Rattle.rules.proofs.Test.{case-of}
use Rattle.rules.proofs.Details.{past_pairs, labeled-name, goto-name, branch-name, other_name}
use Rattle.rows.proofs.Numbers.{is-kind, not-kind}
use Rattle.row_checks.proofs.name_allowed.Goals as goal

-- a rule for the numbers that the pairs have, of any number
module _ (k d p n : ℕ) where
  must-have : (n ≤ p → name_allowed (class_of k d) p n ≡ not (eqb n 0)) → (leb n p && not (eqb n 0)) ≡ name_allowed (class_of k d) p n
  must-have f = case-of (leb n p) (λ t. rw t (sym (f (leb-true n p t)))) (λ t. rw t (sym (past_pairs (class_of k d) p n (leb-false n p t))))

  may-have : (n ≤ p → name_allowed (class_of k d) p n ≡ true) → leb n p ≡ name_allowed (class_of k d) p n
  may-have f = case-of (leb n p) (λ t. t ∙ sym (f (leb-true n p t))) (λ t. t ∙ sym (past_pairs (class_of k d) p n (leb-false n p t)))

  has-none : (n ≤ p → name_allowed (class_of k d) p n ≡ eqb n 0) → eqb n 0 ≡ name_allowed (class_of k d) p n
  has-none f = case-of (leb n p) (λ t. sym (f (leb-true n p t)))
      (λ t. ne_eqb n 0 (λ e. omega (arith, leb-false n p t)) ∙ sym (past_pairs (class_of k d) p n (leb-false n p t)))

pub returns-in-Labeled : goal.returns-in-Labeled
returns-in-Labeled c = c.is_name.ensures ∙ must-have _ _ _ _ (λ h. labeled-name _ _ _ _ c.requires h (is-kind refl c.in-Labeled.is))

pub returns-then-detail-from : goal.returns-then-detail-from
returns-then-detail-from c =
    c.is_name-then-detail-from.ensures
    ∙ must-have _ _ _ _ (λ h. goto-name _ _ _ _ c.requires h (is-kind refl c.in-Branch.is) (c.if-detail-from.true ∙ c.from.ensures))

pub returns-else-detail-from : goal.returns-else-detail-from
returns-else-detail-from c =
    may-have _ _ _ _ (λ h. branch-name _ _ _ _ c.requires h (is-kind refl c.in-Branch.is) (λ e. c.if-detail-from.false (e ∙ sym c.from.ensures)))

pub returns-in_default : goal.returns-in_default
returns-in_default c =
    has-none _ _ _ _ (λ h. other_name _ _ _ _ c.requires h (not-kind refl c.in_default.not-Labeled) (not-kind refl c.in_default.not-Branch))
