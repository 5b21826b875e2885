-- What is drawn from the narrower placing, from the words of the rows alone. With good placing each unlabelled fallthrough falls on in a switch of kind 15;
-- the row that is told is none that does; and a body with one in a type switch is never well placed, and refused by the walk.
-- Each is applied to a body.
-- Assumes nothing.
use mathlib.Core.Path.{◌≡◌, refl, sym, ◌∙◌}
use mathlib.Core.List.{List}
use mathlib.Core.Option.{none, some}
use Prim.Native.Nat.{ℕ, suc, ◌≤◌, ◌<◌}
use native.Mathlib.Omega.{arith}
use Rattle.rules.specs.Rows.{row_count, kind, detail, name, here, Child}
use Rattle.rules.specs.Class.{fallthrough, class_of, class}
use Rattle.rules.specs.Refusals.{refusal}
use Rattle.rules.specs.Placing.{placing}
use Rattle.rules.specs.Calls.{refused}
use Rattle.rules.specs.Walking.{is_faulty, walk_call}
use Rattle.rules.specs.Bodies.{pairs, bytes, fall_into_default, fall_in_type_switch, label_in_type_switch}
use Rattle.rules.proofs.Test.{case-of, clash}
use Rattle.rules.proofs.Facts.{body}
use Rattle.rules.proofs.Computed.{computed}
use Rattle.rules.proofs.Lists.{branch-class}
use Rattle.rules.proofs.Placed.{placed-well, told-bad, well-fallthrough}
use Rattle.rules.proofs.Fallthrough.{ItemOf, FallsOn, falls-on, on-ends, not_on}
use Rattle.rules.proofs.WalkSteps.{faultless, call-faulty}

-- an unlabelled fallthrough
abbrev Falls : List ℕ → ℕ → Type 0
Falls w g = (g < row_count w) × (kind w g ≡ 11) × (detail w g ≡ 3) × (name w g ≡ 0)

-- a clause of a type switch, which is a row of the body
abbrev InTypeSwitch : List ℕ → ℕ → ℕ → Type 0
InTypeSwitch w s c = (s < row_count w) × (kind w s ≡ 16) × Child w (suc s) c

module _ (w p b : List ℕ) (wf : refusal w p b ≡ none) where
  falls-class : (g : ℕ) → Falls w g → class w g ≡ fallthrough
  unfolding class_of
  falls-class g (h, k, d, n) = branch-class w g (detail w g) 3 ((body w p b wf).details g h) k refl d

  -- with good placing each falls on, in a switch of kind 15
  pub placed-falls-on : placing w ≡ none → (g : ℕ) → Falls w g → FallsOn w g
  placed-falls-on e g x =
      let c = falls-class g x in
      falls-on (body w p b wf) g x.0 c (sym (well-fallthrough w g c) ∙ placed-well w e g x.0 x.3)

  -- and none that falls on is the row told
  pub told-not-on : (g : ℕ) → placing w ≡ some g → Falls w g → FallsOn w g → ⊥
  told-not-on g e x y =
      let bad = told-bad w g e in
      let good = well-fallthrough w g (falls-class g x) ∙ on-ends (body w p b wf) g x.0 y in
      clash (cc)

  -- none in a clause of a type switch is well placed, its labels included
  pub not-in-type-switch : (s c g : ℕ) → InTypeSwitch w s c → ItemOf w c g → Falls w g → placing w ≡ none → ⊥
  not-in-type-switch s c g (h, k, d) i x e = not_on (body w p b wf) s c g h k d x.0 i (placed-falls-on e g x)

  -- so the walk refuses such a body
  pub walk_refused : (s c g : ℕ) → InTypeSwitch w s c → ItemOf w c g → Falls w g → (cs : List ℕ) (n : ℕ) → walk_call w p b cs n ≡ refused 8 0
  walk_refused s c g t i x cs n = case-of (is_faulty w p b)
      (λ y. call-faulty w p b cs n wf y)
      (λ f. absurd (not-in-type-switch s c g t i x (faultless w p b wf f).placed))

-- switch { case: fallthrough; default: return } falls on, and the same in a type switch doesn't
pub into-default : FallsOn fall_into_default 4
unfolding computed
into-default = placed-falls-on fall_into_default pairs bytes refl refl 4 (omega arith, refl, refl, refl)

pub not-into-default : FallsOn fall_in_type_switch 4 → ⊥
unfolding computed
not-into-default = told-not-on fall_in_type_switch pairs bytes refl 4 refl (omega arith, refl, refl, refl)

-- whose walk is refused by any choices and any limit
pub type-switch-refused : (cs : List ℕ) (n : ℕ) → walk_call fall_in_type_switch pairs bytes cs n ≡ refused 8 0
unfolding computed
type-switch-refused =
    let none : (k : ℕ) → 4 ≤ k → k < 4 → kind fall_in_type_switch k ≡ 3 = λ k a l. absurd (omega arith) in
    let item : ItemOf fall_in_type_switch 3 4 = record { item = 4; listed = here {c = 4} (omega arith); heads = omega arith; labels = none } in
    walk_refused fall_in_type_switch pairs bytes refl 1 3 4 (omega arith, refl, here {c = 3} (omega arith)) item (omega arith, refl, refl, refl)

-- and so is that of switch x.(type) { case: L: fallthrough; default: }
pub labelled-refused : (cs : List ℕ) (n : ℕ) → walk_call label_in_type_switch pairs bytes cs n ≡ refused 8 0
unfolding computed
labelled-refused =
    let label : (k : ℕ) → 4 ≤ k → k < 5 → kind label_in_type_switch k ≡ 3 = λ k a l. let e : k ≡ 4 = omega arith in rw e refl in
    let item : ItemOf label_in_type_switch 3 5 = record { item = 4; listed = here {c = 4} (omega arith); heads = omega arith; labels = label } in
    walk_refused label_in_type_switch pairs bytes refl 1 3 5 (omega arith, refl, here {c = 3} (omega arith)) item (omega arith, refl, refl, refl)
