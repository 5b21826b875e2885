-- The laws of the binding word of a row, by what the row is; and the label that a branch is bound to has its name.
-- Assumes nothing.
use mathlib.Core.Path.{◌≡◌, sym, ◌∙◌, ap}
use mathlib.Core.Bool.{true, false, ◌&&◌}
use mathlib.Core.List.{List}
use mathlib.Core.Option.{some}
use Prim.Native.Nat.{ℕ, suc, ◌<◌}
use native.Mathlib.Omega.{arith}
use Rattle.rules.specs.Rows.{row_count}
use Rattle.rules.specs.Class.{goto, is_branch, class}
use Rattle.rules.specs.Labels.{is, is_class, word, is_label, labels, declared, goto_label, pending, valid_target, labelled_break, binding}
use Rattle.rules.proofs.Test.{case-of, clash, true-and}
use Rattle.rules.proofs.ClassTests.{one-is, one-not}
use Rattle.rules.proofs.Found.{found-is, word-found}
use Rattle.rules.proofs.LabelRows.{other-label, is_declared_lem}
use Rattle.rules.proofs.GotoRows.{goto-later, goto-label, is-pending, some-goto-label}

module _ (w p b : List ℕ) where
  -- ---- a label
  pub binding-declared : (r : ℕ) → is_label w p b r ≡ true → declared w p b r ≡ some r → binding w p b r ≡ suc r
  unfolding binding
  binding-declared r t e = rw (t, found-is (declared w p b r) r e, binding)

  pub binding-repeated : (r : ℕ) → is_label w p b r ≡ true → is (declared w p b r) r ≡ false → binding w p b r ≡ 0
  unfolding binding
  binding-repeated r t e = rw (t, e, binding)

  -- ---- a row that is none
  module _ (r : ℕ) (n : is_label w p b r ≡ false) where
    as-goto : is_class w goto r ≡ true → binding w p b r ≡ word (goto_label w p b r)
    unfolding binding
    as-goto t = rw (n, t, binding)

    as-break : is_class w goto r ≡ false → labelled_break w p b r && valid_target w p b r ≡ true →
        binding w p b r ≡ word (declared w p b r)
    unfolding binding
    as-break f t = rw (n, f, t, binding)

    as-other : is_class w goto r ≡ false → labelled_break w p b r && valid_target w p b r ≡ false → binding w p b r ≡ 0
    unfolding binding
    as-other f t = rw (n, f, t, binding)

    pub binding-goto : class w r ≡ goto → binding w p b r ≡ word (goto_label w p b r)
    binding-goto e = as-goto (one-is (class w r) goto e)

    module _ (g : class w r ≡ goto → ⊥) where
      not-goto : is_class w goto r ≡ false
      not-goto = one-not (class w r) goto g

      pub binding-break : labelled_break w p b r ≡ true → valid_target w p b r ≡ true → binding w p b r ≡ word (declared w p b r)
      binding-break t v = as-break not-goto (true-and (labelled_break w p b r) (valid_target w p b r) t v)

      pub binding-invalid : valid_target w p b r ≡ false → binding w p b r ≡ 0
      binding-invalid v = as-other not-goto (case-of (labelled_break w p b r) (λ t. rw (t, v)) (λ t. rw t))

      pub binding-other : labelled_break w p b r ≡ false → binding w p b r ≡ 0
      binding-other f = as-other not-goto (rw f)

  -- ---- a branch that is bound to d
  pub branch-label : (g : ℕ) → is_branch (class w g) ≡ true → is_label w p b g ≡ false
  branch-label g t = other-label w p b g (λ e. let z : false ≡ true = rw e at t in clash (cc))

  pub bound : (g d : ℕ) → is_branch (class w g) ≡ true → binding w p b g ≡ suc d → (d < row_count w) × (labels w p b g d ≡ true)
  bound g d t e =
      let n = branch-label g t in
      case-of (is_class w goto g)
      (λ u.
      let x = goto-label w p b g d (word-found (goto_label w p b g) d (sym (as-goto g n u) ∙ e)) in
      (x.0, x.1))
      (λ u. case-of (labelled_break w p b g && valid_target w p b g)
      (λ v.
      let x = is_declared_lem w p b g d (word-found (declared w p b g) d (sym (as-break g n u v) ∙ e)) in
      (x.0, x.1))
      (λ v. absurd (omega (arith, as-other g n u v))))

  -- a goto that is pending at the end is not bound, and one that is not bound is pending
  pub waits-unbound : (g : ℕ) → pending w p b (row_count w) g ≡ true → is_branch (class w g) ≡ true → binding w p b g ≡ 0
  waits-unbound g q t =
      let x = is-pending w p b (row_count w) g q in
      binding-goto g (branch-label g t) x.gotos
      ∙ ap word (goto-later w p b g x.no-earlier ∙ x.no-later)

  pub unbound-waits : (g : ℕ) → class w g ≡ goto → is_branch (class w g) ≡ true → binding w p b g ≡ 0 → pending w p b (row_count w) g ≡ true
  unbound-waits g c t z = case-of (pending w p b (row_count w) g) (λ q. q)
      (λ q.
      let (d, e) = some-goto-label w p b g c q in
      let f = binding-goto g (branch-label g t) c ∙ ap word e in
      absurd (omega arith))
