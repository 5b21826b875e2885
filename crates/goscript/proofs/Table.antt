-- Document 01's bodies 1 to 12 by goscript's definition, as one theorem: sheet codes and verdict of stock, and of the mended build. They differ at 2 to 5.
-- Assumes nothing.
use mathlib.Core.Path.{◌≡◌, refl}
use mathlib.Core.Bool.{Bool, true, false}
use mathlib.Core.List.{List, [], ◌∷◌, map}
use Prim.Native.Nat.{ℕ}
use lib.ListN.{get_or}
use Rattle.rules.specs.Labels.{Fault}
use Rattle.rules.specs.Bodies.{pairs, bytes, body1, body2, body3, body4, body5, body6, body7, body8, body9, body10, body11, body11s, body12}
use Rattle.goscript.specs.Build.{Build, stock, mended_build}
use Rattle.goscript.specs.Label.{sheet, bindings}
use Rattle.goscript.specs.Returns.{verdict}
use Rattle.goscript.proofs.Computed.{computed}

-- these codes on the sheet, and this verdict
abbrev Marks : Build → List ℕ → List ℕ → Bool → Type 0
Marks build w codes v = (map (λ (f : Fault). f.code) (sheet build w pairs bytes) ≡ codes) × (verdict build w pairs bytes ≡ v)

-- the same of both builds
abbrev Both : List ℕ → List ℕ → Bool → Type 0
Both w codes v = Marks stock w codes v × Marks mended_build w codes v

pub table : Both body1 [] false
    × Marks stock body2 [] true
    × Marks mended_build body2 (4 ∷ 9 ∷ []) true
    × Marks stock body3 (9 ∷ []) true
    × Marks mended_build body3 (9 ∷ []) false
    × Marks stock body4 (9 ∷ []) false
    × Marks mended_build body4 (9 ∷ []) true
    × Marks stock body5 [] false
    × Marks mended_build body5 [] true
    × Both body6 (3 ∷ []) true
    × Both body7 (7 ∷ []) true
    × Both body8 (8 ∷ []) true
    × Both body9 (1 ∷ 2 ∷ 9 ∷ []) true
    × (get_or (bindings stock body9 pairs bytes) 4 0 ≡ 6)
    × Both body10 [] false
    × Both body11 [] true
    × Both body11s [] false
    × Both body12 [] true
unfolding computed
table = (
  ((refl, refl), (refl, refl)),
  (refl, refl),
  (refl, refl),
  (refl, refl),
  (refl, refl),
  (refl, refl),
  (refl, refl),
  (refl, refl),
  (refl, refl),
  ((refl, refl), (refl, refl)),
  ((refl, refl), (refl, refl)),
  ((refl, refl), (refl, refl)),
  ((refl, refl), (refl, refl)),
  refl,
  ((refl, refl), (refl, refl)),
  ((refl, refl), (refl, refl)),
  ((refl, refl), (refl, refl)),
  ((refl, refl), (refl, refl)),
)
