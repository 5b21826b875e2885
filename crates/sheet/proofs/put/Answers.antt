-- Four stores in a row are the four words at the place; each index stays below the length.
-- Assumes nothing.
use mathlib.Core.Path.{◌≡◌}
use mathlib.Core.List.{List, [], ◌∷◌}
use Prim.Native.Nat.{ℕ, ◌+◌, ◌*◌}
use native.Mathlib.Numerals.{add-one, add-two, add-three}
use native.Mathlib.Omega.{arith}
use lib.ListN.{set, length-set}
use lib.Seq.{sets}
use Rattle.sheet.proofs.put.Goals as goal

four : (s : List ℕ) (i code other : ℕ) (position name : ℕ) {p n : ℕ} → position ≡ p → name ≡ n
    → set (set (set (set s i code) (i + 1) position) (i + 2) name) (i + 3) other ≡ sets s i (code ∷ p ∷ n ∷ other ∷ [])
four s i code other position name e f = rw (add-one i, add-two i, add-three i, e, f)

pub bounds-sheet-i-2 : goal.bounds-sheet-i-2
bounds-sheet-i-2 c = simp length-set (omega arith)

pub bounds-sheet-i-3 : goal.bounds-sheet-i-3
bounds-sheet-i-3 c = simp length-set (omega arith)

pub bounds-sheet-i-4 : goal.bounds-sheet-i-4
bounds-sheet-i-4 c = simp length-set (omega arith)

pub returns : goal.returns
returns c =
    let a = c.args in
    four a.sheet.now (a.at * 4) a.code a.other c.position.result c.name_word.result c.position.ensures
    c.name_word.ensures
