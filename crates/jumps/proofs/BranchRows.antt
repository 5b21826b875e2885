-- A Branch row's detail says its class, and a target is valid by the kind of the row below its label.
-- Assumes nothing.
use mathlib.Core.Path.{◌≡◌, refl, sym, ◌∙◌}
use mathlib.Core.Bool.{Bool, true, false}
use mathlib.Core.List.{List, [], ◌∷◌}
use mathlib.Core.Logic.{◌⊎◌, inl, inr}
use mathlib.Core.Option.{some}
use Prim.Native.Nat.{ℕ, ◌+◌, ◌<◌}
use native.Mathlib.Numerals.{add-one}
use native.Mathlib.Omega.{arith}
use native.Mathlib.Decide.{ℕ_discrete}
use borrow.Author.Tests.{eqb-true, ltb-true}
use Rattle.rules.specs.Rows.{row_count, kind, detail}
use Rattle.rules.specs.Class.{break, continue, goto, fallthrough, one_of, is_branch, is_breakable, is_loop, class, class_of, detail_allowed}
use Rattle.rules.specs.Body.{Body}
use Rattle.rules.specs.Labels.{needs, target, valid_target}
use Rattle.rules.proofs.Test.{clash}
use Rattle.rules.proofs.ClassTests.{break-branch}
use Rattle.rules.proofs.Lists.{branch-kind, branch-class, own-breakable, own-loop, by-words}
use Rattle.rules.proofs.BreakRows.{valid-found}
use Rattle.rows.specs.Branches.{number}
use Rattle.rows.specs.declared.details.Branch.{Branch}
use Rattle.rows.specs.declared.details.Branch.TheVariants.{Break, Continue}
use Rattle.rows.proofs.Branches.{is-branch}
use Rattle.tables.proofs.Labelling.{label-class}
use Rattle.jumps.proofs.BlockLabels.{target-label}

-- ---- the detail
module _ (w : List ℕ) (r : ℕ) (a : detail_allowed (kind w r) (detail w r) ≡ true) where
  module _ (t : is_branch (class w r) ≡ true) where
    pub branch-11 : kind w r ≡ 11
    branch-11 = eqb-true (kind w r) 11 (branch-kind w r a ∙ t)

    by-detail : (n : ℕ) → detail w r ≡ n → class w r ≡ class_of 11 n
    by-detail n = branch-class w r (detail w r) n a branch-11 refl

    detail-below : detail w r < 4
    unfolding detail_allowed
    detail-below =
        let e : detail_allowed 11 (detail w r) ≡ true = rw branch-11 at a in
        ltb-true (detail w r) 4 e

    detail-break : detail w r ≡ 0 → class w r ≡ break
    unfolding class_of
    detail-break = by-detail 0

    detail-continue : detail w r ≡ 1 → class w r ≡ continue
    unfolding class_of
    detail-continue = by-detail 1

    pub detail-goto : detail w r ≡ 2 → class w r ≡ goto
    unfolding class_of
    detail-goto = by-detail 2

    pub detail-fallthrough : detail w r ≡ 3 → class w r ≡ fallthrough
    unfolding class_of
    detail-fallthrough = by-detail 3

    pub detail-others : (detail w r ≡ 2 → ⊥) → (detail w r ≡ 3 → ⊥) → one_of (break ∷ continue ∷ []) (class w r) ≡ true
    detail-others g f = elim (ℕ_discrete (detail w r) 0) [
      | yes z ↦ rw (detail-break z)
      | no n ↦ rw (detail-continue (omega (arith, detail-below)))
    ]

    pub detail-jumps : (k : Branch) → number k ≡ detail w r → (k ≡ Break) ⊎ (k ≡ Continue) → one_of (break ∷ continue ∷ []) (class w r) ≡ true
    detail-jumps k e (inl i) = rw (detail-break (is-branch e i))
    detail-jumps k e (inr i) = rw (detail-continue (is-branch e i))

  -- a break or continue is what its detail says, 0 or not
  module _ (t : one_of (break ∷ continue ∷ []) (class w r) ≡ true) where
    branch : is_branch (class w r) ≡ true
    branch = break-branch (class w r) t

    pub break-11 : kind w r ≡ 11
    break-11 = branch-11 branch

    pub zero-break : detail w r ≡ 0 → class w r ≡ break
    zero-break = detail-break branch

    pub not-zero-continue : (detail w r ≡ 0 → ⊥) → class w r ≡ continue
    not-zero-continue n = elim (ℕ_discrete (detail w r) 1) [
      | yes i ↦ detail-continue branch i
      | no o ↦ elim (ℕ_discrete (detail w r) 2) [
        | yes i ↦ let z : false ≡ true = rw (detail-goto branch i) at t in absurd (clash (cc))
        | no m ↦ let z : false ≡ true = rw (detail-fallthrough branch (omega (arith, detail-below branch))) at t in absurd (clash (cc))
      ]
    ]

-- ---- the target
module _ {w p b : List ℕ} (body : Body w p b) (g : ℕ) (row : g < row_count w) (t : ℕ) (e : some t ≡ target w p b g) where
  -- the row below the label
  pub target_row : t + 1 < row_count w
  target_row =
      let x = target-label body g row t (sym e) in
      let before = x.before in
      let one = body.one_statement t (omega arith) (rw (label-class body t (omega arith) x.labeled-row)) in
      omega (arith, one.0, body.sized.within t (omega arith))

  valid-as : valid_target w p b g ≡ needs (class w g) (class w (t + 1))
  valid-as = rw add-one (valid-found w p b g t (sym e))

  module _ (k : ℕ) (ek : k ≡ kind w (t + 1)) (v : Bool) where
    pub valid-break : class w g ≡ break → ((d : ℕ) → detail_allowed k d ≡ true → v ≡ is_breakable (class_of k d)) → v ≡ valid_target w p b g
    valid-break c h =
        by-words is_breakable w (t + 1) k v (own-breakable w (t + 1)) ek (body.details (t + 1) target_row) h ∙ sym (valid-as ∙ rw c)

    pub valid-continue : class w g ≡ continue → ((d : ℕ) → detail_allowed k d ≡ true → v ≡ is_loop (class_of k d)) → v ≡ valid_target w p b g
    valid-continue c h =
        by-words is_loop w (t + 1) k v (own-loop w (t + 1)) ek (body.details (t + 1) target_row) h ∙ sym (valid-as ∙ rw c)
