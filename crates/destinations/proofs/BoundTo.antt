-- Where all is lawful, a break or continue with a label is bound to the one label that has its name, and no other statement than the one below that label has
-- such a label directly on it; without a label it isn't bound.
-- Assumes nothing.
use mathlib.Core.Path.{◌≡◌, ◌∙◌, ap}
use mathlib.Core.Bool.{true, false}
use mathlib.Core.List.{List, [], ◌∷◌}
use Prim.Native.Nat.{ℕ, suc, ◌<◌}
use native.Mathlib.Omega.{arith}
use Rattle.rules.specs.Rows.{row_count, name}
use Rattle.rules.specs.Class.{break, continue, goto, one_of, class}
use Rattle.rules.specs.Names.{same_bytes, is_blank}
use Rattle.rules.specs.Labels.{word, same_names, binding}
use Rattle.rules.specs.Verdict.{label_on}
use Rattle.rules.specs.Law.{Label, AllLawful}
use Rattle.rules.proofs.Test.{clash}
use Rattle.rules.proofs.ClassTests.{break-branch}
use Rattle.rules.proofs.RowNames.{same_bytes_lem, same-sym, same-trans}
use Rattle.rules.proofs.LabelRows.{labels-label, is_declared_lem, some-declared}
use Rattle.rules.proofs.BreakRows.{is-target, valid-is, labelled-is, not-labelled}
use Rattle.rules.proofs.BindingRows.{binding-break, binding-other, branch-label}
use Rattle.rules.proofs.FromLawful.{of-break}
use Rattle.rules.proofs.Terminating.{on-label}

-- the branch g is bound to the label d, which has its name
pub record BoundTo (w p b : List ℕ) (g d : ℕ) : Type 0 where
  pub bound : binding w p b g ≡ suc d
  pub label : Label w p b d
  pub named : same_names w p b d g ≡ true

module _ (w p b : List ℕ) where
  same-blank : (r s : ℕ) → same_names w p b r s ≡ true → is_blank p b (name w s) ≡ false → is_blank p b (name w r) ≡ false
  unfolding is_blank
  same-blank r s t e = ap (λ (n : List ℕ). same_bytes n (95 ∷ [])) (same_bytes_lem p b (name w r) (name w s) t) ∙ e

module _ {w p b : List ℕ} (all : AllLawful w p b) where
  pub one_statement : (g d s : ℕ) → BoundTo w p b g d → s < row_count w → label_on w p b g s ≡ true → s ≡ suc d
  one_statement g d s bound row on =
      let (t, e, labels, named) = on-label w p b g s on in
      let same = same-trans w p b t g d named (same-sym w p b d g bound.named) in
      let label : Label w p b t = record { row = omega arith; labels = labels; not_blank = same-blank w p b t d same bound.label.not_blank } in
      e ∙ ap suc (all.once d bound.label t label same)

  module _ (g : ℕ) (row : g < row_count w) (jumps : one_of (break ∷ continue ∷ []) (class w g) ≡ true) where
    no-goto : class w g ≡ goto → ⊥
    no-goto e = let z : false ≡ true = rw e at jumps in clash (cc)

    pub labelled-bound : 0 < name w g → (d : ℕ) × BoundTo w p b g d
    labelled-bound n =
        let branch = break-branch (class w g) jumps in
        let target = of-break (all.destinations g row branch n) jumps in
        let x = is-target w p b g target.0 target.1 in
        let (d, e, h) = some-declared w p b g target.0 (omega (arith, x.before)) x.names in
        let (l, u) = is_declared_lem w p b g d e in
        let (label, named) = labels-label w p b g d l u in
        let bound = binding-break w p b g (branch-label w p b g branch) no-goto
        (labelled-is w p b g (record { breaks = jumps; has-name = n })) (valid-is w p b g target) in
        (d, record { bound = bound ∙ ap word e; label = label; named = named })

    pub unlabelled-bound : name w g ≡ 0 → binding w p b g ≡ 0
    unlabelled-bound z =
        binding-other w p b g (branch-label w p b g (break-branch (class w g) jumps)) no-goto
        (not-labelled w p b g (λ x. omega (arith, x.has-name)))
