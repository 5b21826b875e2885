-- The refusals computed on small bodies, one for each cause and for each way to break a shape, so that a wrong definition is seen here.
-- Assumes nothing.
use mathlib.Core.Path.{◌≡◌, refl}
use mathlib.Core.List.{List, [], ◌∷◌, ◌++◌}
use mathlib.Core.Option.{Option, none, some}
use Prim.Native.Nat.{ℕ, zero, suc}
use Rattle.rules.specs.Names.{name_bytes, rank}
use Rattle.rules.specs.Refusals.{refusal}
use Rattle.rules.proofs.Computed.{computed}

-- the words of a row at position 1
abbrev row : ℕ → ℕ → ℕ → ℕ → List ℕ
row kind detail name size = kind ∷ detail ∷ 1 ∷ name ∷ size ∷ []

-- the refusal of some rows with the two names M and L
abbrev Refused : List ℕ → Option (ℕ × ℕ) → Type 0
Refused w o = refusal w (0 ∷ 1 ∷ 1 ∷ 1 ∷ []) (77 ∷ 76 ∷ []) ≡ o

-- {goto M;L:for{}}, document 01's example
example : Refused (row 12 0 0 5 ++ row 11 2 1 1 ++ row 3 0 2 3 ++ row 19 0 0 2 ++ row 12 0 0 1) none
unfolding computed
example = refl

-- 1: no rows; 4: kind 21, a detail that isn't allowed, a Return with a name, a goto without one, a name past the last pair
rows : Refused [] (some (1, 0))
    × Refused (row 12 0 0 2 ++ row 21 0 0 1) (some (4, 1))
    × Refused (row 12 1 0 1) (some (4, 0))
    × Refused (row 12 0 0 2 ++ row 10 0 1 1) (some (4, 1))
    × Refused (row 12 0 0 2 ++ row 11 2 0 1) (some (4, 1))
    × Refused (row 12 0 0 2 ++ row 11 2 3 1) (some (4, 1))
unfolding computed
rows = (refl, refl, refl, refl, refl, refl)

-- 5, sizes first: row 1 past the end although row 0 is no Block of all rows; then row 0 that is a For, and one that ends early
sizes : Refused (row 12 0 0 1 ++ row 2 0 0 2) (some (5, 1))
    × Refused (row 12 0 0 2 ++ row 2 0 0 0) (some (5, 1))
    × Refused (row 19 0 0 2 ++ row 12 0 0 1) (some (5, 0))
    × Refused (row 12 0 0 1 ++ row 2 0 0 1) (some (5, 0))
unfolding computed
sizes = (refl, refl, refl, refl)

-- 5, shapes: a Case in a plain Block; a Comm in a switch; a Switch without its Block, the next Block being a sibling; an If whose else is a For;
-- a leaf of size 2; a child that reaches past its parent; a Labeled without a statement
shapes : Refused (row 12 0 0 2 ++ row 14 0 0 1) (some (5, 0))
    × Refused (row 12 0 0 4 ++ row 15 0 0 3 ++ row 12 0 0 2 ++ row 17 0 0 1) (some (5, 2))
    × Refused (row 12 0 0 3 ++ row 15 0 0 1 ++ row 12 0 0 1) (some (5, 1))
    × Refused (row 12 0 0 5 ++ row 13 1 0 4 ++ row 12 0 0 1 ++ row 19 0 0 2 ++ row 12 0 0 1) (some (5, 1))
    × Refused (row 12 0 0 3 ++ row 10 0 0 2 ++ row 2 0 0 1) (some (5, 1))
    × Refused (row 12 0 0 4 ++ row 12 0 0 2 ++ row 12 0 0 2 ++ row 2 0 0 1) (some (5, 1))
    × Refused (row 12 0 0 2 ++ row 3 0 1 1) (some (5, 1))
unfolding computed
shapes = (refl, refl, refl, refl, refl, refl, refl)

-- a switch with a Case, and a Select with a Comm, pass
clauses : Refused (row 12 0 0 4 ++ row 15 0 0 3 ++ row 12 0 0 2 ++ row 14 0 0 1) none
    × Refused (row 12 0 0 4 ++ row 18 0 0 3 ++ row 12 0 0 2 ++ row 17 1 0 1) none
unfolding computed
clauses = (refl, refl)

-- 2 and 3: odd pair words; a length 0; a pair that starts before the previous end; one that ends past the bytes
pairs : (refusal (row 12 0 0 1) (0 ∷ []) [] ≡ some (2, 0))
    × (refusal (row 12 0 0 1) (0 ∷ 0 ∷ []) (65 ∷ []) ≡ some (3, 0))
    × (refusal (row 12 0 0 1) (0 ∷ 2 ∷ 1 ∷ 1 ∷ []) (65 ∷ 66 ∷ []) ≡ some (3, 1))
    × (refusal (row 12 0 0 1) (0 ∷ 1 ∷ 1 ∷ 2 ∷ []) (65 ∷ 66 ∷ []) ≡ some (3, 1))
unfolding computed
pairs = (refl, refl, refl, refl)

-- n Blocks, each in the one before, around a last row
abbrev tower : ℕ → List ℕ → List ℕ
tower zero last = last
tower (suc n) last = row 12 0 0 (suc (suc n)) ++ tower n last

-- 3 comes before 4, 4 before 5, and 5 before 6; of two bad rows the first
order : (refusal (row 21 0 0 0) (0 ∷ 0 ∷ []) [] ≡ some (3, 0))
    × (refusal (row 12 0 0 0 ++ row 21 0 0 1) [] [] ≡ some (4, 1))
    × Refused (tower 100 (row 14 0 0 1)) (some (5, 99))
    × Refused (row 12 0 0 3 ++ row 21 0 0 1 ++ row 21 0 0 1) (some (4, 1))
unfolding computed
order = (refl, refl, refl, refl)

-- 6: 100 deep pass, and 101 do not
deep : Refused (tower 99 (row 12 0 0 1)) none × Refused (tower 100 (row 12 0 0 1)) (some (6, 100))
unfolding computed
deep = (refl, refl)

-- ---- 10: two defaults in one switch or Select

-- a body with a statement of kind k over these clauses, which have n rows and begin at row 3
abbrev over : ℕ → ℕ → List ℕ → List ℕ
over k n clauses = row 12 0 0 (suc (suc (suc n))) ++ row k 0 0 (suc (suc n)) ++ row 12 0 0 (suc n) ++ clauses

-- the first and the last of three clauses; in a type switch; in a Select; of three the second; one passes, and so does one in each of two switches, side by
-- side or one in a clause of the other; a switch in the default of one with two has no part in it; and of two switches with two the lower row is charged,
-- here that of the inner one
defaults : Refused (over 15 3 (row 14 1 0 1 ++ row 14 0 0 1 ++ row 14 1 0 1)) (some (10, 5))
    × Refused (over 16 2 (row 14 1 0 1 ++ row 14 1 0 1)) (some (10, 4))
    × Refused (over 18 2 (row 17 1 0 1 ++ row 17 1 0 1)) (some (10, 4))
    × Refused (over 15 4 (row 14 0 0 1 ++ row 14 1 0 1 ++ row 14 1 0 1 ++ row 14 1 0 1)) (some (10, 5))
    × Refused (over 15 2 (row 14 0 0 1 ++ row 14 1 0 1)) none
    × Refused (row 12 0 0 7 ++ row 15 0 0 3 ++ row 12 0 0 2 ++ row 14 1 0 1 ++ row 18 0 0 3 ++ row 12 0 0 2 ++ row 17 1 0 1) none
    × Refused (over 15 5 (row 14 0 0 4 ++ row 15 0 0 3 ++ row 12 0 0 2 ++ row 14 1 0 1 ++ row 14 1 0 1)) none
    × Refused (over 15 4 (row 14 1 0 4 ++ row 16 0 0 3 ++ row 12 0 0 2 ++ row 14 1 0 1)) none
    × Refused (over 15 5 (row 14 1 0 4 ++ row 15 0 0 3 ++ row 12 0 0 2 ++ row 14 1 0 1 ++ row 14 1 0 1)) (some (10, 7))
    × Refused (over 15 6 (row 14 1 0 5 ++ row 15 0 0 4 ++ row 12 0 0 3 ++ row 14 1 0 1 ++ row 14 1 0 1 ++ row 14 1 0 1)) (some (10, 7))
unfolding computed
defaults = (refl, refl, refl, refl, refl, refl, refl, refl, refl, refl)

-- two defaults, at rows 3 and 4, or one, and Blocks around a last row that is 102 deep
abbrev deep_defaults : ℕ → List ℕ → List ℕ
deep_defaults first last = row 12 0 0 106 ++ row 15 0 0 4 ++ row 12 0 0 3 ++ row 14 first 0 1 ++ row 14 1 0 1 ++ tower 100 last

-- 4 comes before 10 and 5 does, wherever their rows are, and 10 before 6
order-10 : Refused (over 15 3 (row 14 1 0 1 ++ row 14 1 0 1 ++ row 14 2 0 1)) (some (4, 5))
    × Refused (over 15 3 (row 14 1 0 1 ++ row 14 1 0 2 ++ row 14 0 0 1)) (some (5, 4))
    × Refused (deep_defaults 1 (row 12 0 0 1)) (some (10, 4))
    × Refused (deep_defaults 0 (row 12 0 0 1)) (some (6, 104))
    × Refused (deep_defaults 1 (row 14 0 0 1)) (some (5, 104))
unfolding computed
order-10 = (refl, refl, refl, refl, refl)

-- names: bytes of a number, none for 0 and past the last; ranks by bytes, a prefix first and equal bytes under one rank (`ab`, `a`, `ab`, 0x_fF)
ranks : (name_bytes (0 ∷ 2 ∷ 2 ∷ 1 ∷ []) (97 ∷ 98 ∷ 97 ∷ []) 1 ≡ 97 ∷ 98 ∷ [])
    × (name_bytes (0 ∷ 2 ∷ 2 ∷ 1 ∷ []) (97 ∷ 98 ∷ 97 ∷ []) 0 ≡ [])
    × (name_bytes (0 ∷ 2 ∷ 2 ∷ 1 ∷ []) (97 ∷ 98 ∷ 97 ∷ []) 3 ≡ [])
    × (rank (0 ∷ 2 ∷ 2 ∷ 1 ∷ 3 ∷ 2 ∷ 5 ∷ 1 ∷ []) (97 ∷ 98 ∷ 97 ∷ 97 ∷ 98 ∷ 255 ∷ []) 1 ≡ 2)
    × (rank (0 ∷ 2 ∷ 2 ∷ 1 ∷ 3 ∷ 2 ∷ 5 ∷ 1 ∷ []) (97 ∷ 98 ∷ 97 ∷ 97 ∷ 98 ∷ 255 ∷ []) 2 ≡ 1)
    × (rank (0 ∷ 2 ∷ 2 ∷ 1 ∷ 3 ∷ 2 ∷ 5 ∷ 1 ∷ []) (97 ∷ 98 ∷ 97 ∷ 97 ∷ 98 ∷ 255 ∷ []) 3 ≡ 2)
    × (rank (0 ∷ 2 ∷ 2 ∷ 1 ∷ 3 ∷ 2 ∷ 5 ∷ 1 ∷ []) (97 ∷ 98 ∷ 97 ∷ 97 ∷ 98 ∷ 255 ∷ []) 4 ≡ 4)
unfolding computed
ranks = (refl, refl, refl, refl, refl, refl, refl)
