-- What is drawn from the narrower well-formedness, from the words of the rows alone: of the rows directly below one row of a well-formed body at most one is
-- a Case or Comm of detail 1, so a body with two such is turned away. It is applied to a switch and to a Select.
-- Assumes nothing.
use mathlib.Core.Path.{◌≡◌, refl}
use mathlib.Core.Bool.{true}
use mathlib.Core.List.{List}
use mathlib.Core.Logic.{◌⊎◌, inl, inr, ⊎_elim}
use mathlib.Core.Option.{none}
use Prim.Native.Nat.{ℕ, ◌<◌}
use native.Mathlib.Omega.{arith}
use native.Mathlib.Decide.{dec_lt}
use Rattle.rules.specs.Rows.{row_count, kind, detail, Child, here, later}
use Rattle.rules.specs.Class.{is_default, class_of, base}
use Rattle.rules.specs.Refusals.{refusal}
use Rattle.rules.specs.Bodies.{pairs, bytes, past_switch, empty_default}
use Rattle.rules.proofs.Facts.{body}
use Rattle.rules.proofs.Computed.{computed}

-- a Case or Comm of detail 1
abbrev Default : List ℕ → ℕ → Type 0
Default w c = ((kind w c ≡ 14) ⊎ (kind w c ≡ 17)) × (detail w c ≡ 1)

default-base : (w : List ℕ) (c : ℕ) → Default w c → is_default (base w c) ≡ true
unfolding base class_of
default-base w c (k, d) = ⊎_elim (λ (e : kind w c ≡ 14). rw (e, d) refl) (λ (e : kind w c ≡ 17). rw (e, d) refl) k

module _ (w p b : List ℕ) where
  -- a body with two of them directly below one row is turned away
  pub two-refused : (s c d : ℕ) → s < row_count w → Child w s c → Child w s d → c < d → Default w c → Default w d → refusal w p b ≡ none → ⊥
  two-refused s c d l i j h x y e =
      (body w p b e).one_default s l d
      record { child = j; default = default-base w d y; earlier = c; before = h; earlier_child = i; earlier_default = default-base w c x }

  -- so where one is not turned away, what is said of a default is said of one clause
  pub only-default : refusal w p b ≡ none → (s c d : ℕ) → s < row_count w → Child w s c → Child w s d → Default w c → Default w d → c ≡ d
  only-default e s c d l i j x y = elim (dec_lt c d) [
    | yes h ↦ absurd (two-refused s c d l i j h x y e)
    | no m ↦ elim (dec_lt d c) [ yes h ↦ absurd (two-refused s d c l j i h y x e) | no n ↦ omega arith ]
  ]

-- switch { case: default: return }; return
pub switch-default : (c : ℕ) → Child past_switch 2 c → Default past_switch c → c ≡ 4
unfolding computed
switch-default c i x =
    let second : Child past_switch 2 4 = later {c = 3} (omega arith) (here {c = 4} (omega arith)) in
    only-default past_switch pairs bytes refl 2 c 4 (omega arith) i second x (inl refl, refl)

-- select { comm: return; default: }; return
pub select-default : (c : ℕ) → Child empty_default 2 c → Default empty_default c → c ≡ 5
unfolding computed
select-default c i x =
    let second : Child empty_default 2 5 = later {c = 3} (omega arith) (here {c = 5} (omega arith)) in
    only-default empty_default pairs bytes refl 2 c 5 (omega arith) i second x (inr refl, refl)
