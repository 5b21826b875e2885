-- The table of document 01's bodies 1 to 12, as one theorem: each body is well-formed and has these sheet codes and this verdict; of 9 also the
-- binding of the goto, of 12 the placing.
-- Assumes nothing.
use mathlib.Core.Path.{◌≡◌, refl}
use mathlib.Core.Bool.{Bool, true, false}
use mathlib.Core.List.{List, [], ◌∷◌, map}
use mathlib.Core.Option.{none, some}
use Prim.Native.Nat.{ℕ}
use lib.ListN.{get_or}
use Rattle.rules.specs.Refusals.{refusal}
use Rattle.rules.specs.Labels.{Fault, sheet, bindings}
use Rattle.rules.specs.Placing.{placing}
use Rattle.rules.specs.Verdict.{verdict}
use Rattle.rules.specs.Bodies.{pairs, bytes, body1, body2, body3, body4, body5, body6, body7, body8, body9, body10, body11, body11s, body12}
use Rattle.rules.proofs.Computed.{computed}

-- well-formed, with these codes on the sheet and this verdict
abbrev Marks : List ℕ → List ℕ → Bool → Type 0
Marks w codes v =
    (refusal w pairs bytes ≡ none) × (map (λ (f : Fault). f.code) (sheet w pairs bytes) ≡ codes) × (verdict w pairs bytes ≡ v)

pub table : Marks body1 [] false
    × Marks body2 (4 ∷ 9 ∷ []) true
    × Marks body3 (9 ∷ []) false
    × Marks body4 (9 ∷ []) true
    × Marks body5 [] true
    × Marks body6 (3 ∷ []) true
    × Marks body7 (7 ∷ []) true
    × Marks body8 (8 ∷ []) true
    × Marks body9 (1 ∷ 2 ∷ 9 ∷ []) true
    × (get_or (bindings body9 pairs bytes) 4 0 ≡ 6)
    × Marks body10 [] false
    × Marks body11 [] true
    × Marks body11s [] false
    × Marks body12 [] true
    × (placing body12 ≡ some 4)
unfolding computed
table = (
  (refl, refl, refl),
  (refl, refl, refl),
  (refl, refl, refl),
  (refl, refl, refl),
  (refl, refl, refl),
  (refl, refl, refl),
  (refl, refl, refl),
  (refl, refl, refl),
  (refl, refl, refl),
  refl,
  (refl, refl, refl),
  (refl, refl, refl),
  (refl, refl, refl),
  (refl, refl, refl),
  refl,
)
