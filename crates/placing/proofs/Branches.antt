-- A Branch is well placed by its detail, which says its class; every other row is well placed; a row with a name is not badly placed.
-- Assumes nothing.
use mathlib.Core.Path.{◌≡◌, refl, sym, ◌∙◌}
use mathlib.Core.Bool.{true, false, not, and-false}
use mathlib.Core.List.{List, [], ◌∷◌}
use Prim.Native.Nat.{ℕ, ◌<◌}
use lib.Dec.{eqb}
use borrow.Author.Tests.{ne_eqb}
use Rattle.rules.specs.Rows.{row_count, kind, detail, name}
use Rattle.rules.specs.Class.{Class, break, continue, goto, fallthrough, one_of, is_branch, is_breakable, is_loop, is_statement, detail_allowed, class_of, class}
use Rattle.rules.specs.Body.{Formed}
use Rattle.rules.specs.Scope.{innermost}
use Rattle.rules.specs.Labels.{is_some}
use Rattle.rules.specs.Placing.{ends_case, well_placed, badly_placed}
use Rattle.rules.proofs.Test.{clash}
use Rattle.rules.proofs.ByKind.{kind-jump}
use Rattle.rules.proofs.ClassTests.{one-not}
use Rattle.rules.proofs.Placed.{well-break, well-continue, well-fallthrough, well-other}
use Rattle.rules.proofs.Lists.{own-branch, branch-class, by-words}

-- ---- a Branch, by its detail
module _ (w : List ℕ) (r : ℕ) (f : Formed w) (h : (r < row_count w) × (kind w r ≡ 11) × (name w r ≡ 0)) where
  by-detail : (n : ℕ) → detail w r ≡ n → class w r ≡ class_of 11 n
  by-detail n = branch-class w r (detail w r) n (f.2.details r h.0) h.1 refl

  pub place-break : detail w r ≡ 0 → is_some (innermost w is_breakable r) ≡ well_placed w r
  unfolding class_of
  place-break e = sym (well-break w r (by-detail 0 e))

  pub place-continue : detail w r ≡ 1 → is_some (innermost w is_loop r) ≡ well_placed w r
  unfolding class_of
  place-continue e = sym (well-continue w r (by-detail 1 e))

  pub place-fallthrough : detail w r ≡ 3 → ends_case w r ≡ well_placed w r
  unfolding class_of
  place-fallthrough e = sym (well-fallthrough w r (by-detail 3 e))

  pub statement-fallthrough : detail w r ≡ 3 → is_statement (class w r) ≡ true
  unfolding class_of
  statement-fallthrough e = let b : class w r ≡ fallthrough = by-detail 3 e in rw b

  pub place-goto : detail w r ≡ 2 → true ≡ well_placed w r
  unfolding class_of
  place-goto e = let b : class w r ≡ goto = by-detail 2 e in sym (well-other w r (rw b) (rw b) (rw b))

-- ---- every row
other-class : (c d : Class) → is_branch c ≡ false → is_branch d ≡ true → one_of (d ∷ []) c ≡ false
other-class c d n t = one-not c d (λ e. let u : is_branch c ≡ true = rw e t in clash (cc))

module _ (w : List ℕ) (r : ℕ) where
  well-not-bad : well_placed w r ≡ true → false ≡ badly_placed w r
  unfolding badly_placed
  well-not-bad t = rw (t, badly_placed, and-false)

  pub no-branch-not-bad : is_branch (class w r) ≡ false → false ≡ badly_placed w r
  no-branch-not-bad b =
      let c = class w r in
      well-not-bad (well-other w r (other-class c break b refl) (other-class c continue b refl) (other-class c fallthrough b refl))

  pub other-not-bad : detail_allowed (kind w r) (detail w r) ≡ true → (kind w r ≡ 11 → ⊥) → false ≡ badly_placed w r
  other-not-bad a n =
      let k = kind w r in
      no-branch-not-bad (sym (by-words is_branch w r k (eqb k 11) (own-branch w r) refl a (λ d x. kind-jump k d x)) ∙ ne_eqb k 11 n)

  pub named-not-bad : (n : ℕ) → n ≡ name w r → (n ≡ 0 → ⊥) → false ≡ badly_placed w r
  unfolding badly_placed
  named-not-bad n e z = rw (← e, ne_eqb n 0 z, badly_placed)

  pub not-well-bad : (n : ℕ) → n ≡ name w r → n ≡ 0 → not (well_placed w r) ≡ badly_placed w r
  unfolding badly_placed
  not-well-bad n e z = rw (← e, z, badly_placed)
