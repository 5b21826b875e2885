-- Document 01, "The lent records": a row is five words (kind, detail, position, name, size); rows stand in preorder.
-- Assumes nothing.
use Rattle.std.specs.Prelude.{Bool, false, List, ℕ, suc, ◌+◌, ◌*◌, ◌/◌, ◌<◌, ltb, eqb, length, get_or}
use Rattle.std.proofs.Math.Option.{Option, none, some}
use Rattle.rules.specs.Scan.{highest, how_many}

-- how many whole rows the words hold
abbrev pub row_count : List ℕ → ℕ
row_count w = length w / 5

abbrev pub kind : List ℕ → ℕ → ℕ
kind w r = get_or w (r * 5) 0

abbrev pub detail : List ℕ → ℕ → ℕ
detail w r = get_or w (r * 5 + 1) 0

abbrev pub position : List ℕ → ℕ → ℕ
position w r = get_or w (r * 5 + 2) 0

-- a name number: 0 for none, else the n-th pair
abbrev pub name : List ℕ → ℕ → ℕ
name w r = get_or w (r * 5 + 3) 0

-- the row and all rows below it
abbrev pub size : List ℕ → ℕ → ℕ
size w r = get_or w (r * 5 + 4) 0

-- the row after the last one below r
abbrev pub end : List ℕ → ℕ → ℕ
end w r = r + size w r

-- the parent of r: the closest row before it that reaches past it
unfoldable pub parent : List ℕ → ℕ → Option ℕ
parent w r = highest (λ p. ltb r (end w p)) r

-- q and r have the same parent
abbrev pub same_parent : List ℕ → ℕ → ℕ → Bool
same_parent w q r = elim (parent w q) [ none ↦ false | some p ↦ elim (parent w r) [ none ↦ false | some s ↦ eqb p s ] ]

-- row 0 is 1 deep, and every other row one deeper than the rows around it are many
unfoldable pub depth : List ℕ → ℕ → ℕ
depth w r = suc (how_many (λ p. ltb r (end w p)) r)

-- s is one of the rows from c on, stepped through by size, that begin before e
pub data Item (w : List ℕ) (e : ℕ) : ℕ → ℕ → Type 0 where
  here : {c : ℕ} → c < e → Item w e c c
  later : {c s : ℕ} → c < e → Item w e (end w c) s → Item w e c s

-- c is a child of p: children follow their parent, stepped through by size
abbrev pub Child : List ℕ → ℕ → ℕ → Type 0
Child w p c = Item w (end w p) (suc p) c
