-- The rows as goscript's syntax tree: a statement, and its key, is a row; a `Vec<Stmt>` is a list of rows; an identifier's name is its bytes.
-- Assumes nothing.
use Rattle.std.specs.Prelude.{Bool, true, false, ◌&&◌, ◌||◌, List, [], ◌∷◌, ℕ, zero, suc, ltb, eqb}
use Rattle.std.proofs.Math.Option.{Option, none, some}
use Rattle.rules.specs.Rows.{name, size, end}
use Rattle.rules.specs.Names.{name_bytes, same_bytes}

-- ---- lists, as the iterators of the Rust have them
unfoldable pub any : (ℕ → Bool) → List ℕ → Bool
any P [] = false
any P (x ∷ xs) = P x || any P xs

unfoldable pub all : (ℕ → Bool) → List ℕ → Bool
all P [] = true
all P (x ∷ xs) = P x && all P xs

unfoldable pub filter : (ℕ → Bool) → List ℕ → List ℕ
filter P [] = []
filter P (x ∷ xs) = elim (P x) [ true ↦ x ∷ filter P xs | false ↦ filter P xs ]

-- the last that passes: `iter().rev().find(..)`
unfoldable pub find_last : (ℕ → Bool) → List ℕ → Option ℕ
find_last P [] = none
find_last P (x ∷ xs) = elim (find_last P xs) [ some y ↦ some y | none ↦ elim (P x) [ true ↦ some x | false ↦ none ] ]

-- `for x in list { s = f(x, s) }`
unfoldable pub through : {S : Type 0} → (ℕ → S → S) → List ℕ → S → S
through f [] s = s
through f (x ∷ xs) s = through f xs (f x s)

unfoldable pub contains : ℕ → List ℕ → Bool
contains x l = any (eqb x) l

-- ---- rows
module _ (w : List ℕ) where
  -- the rows from c on, before e, stepped through by size; the first argument bounds the steps
  unfoldable pub items : ℕ → ℕ → ℕ → List ℕ
  items zero e c = []
  items (suc f) e c = elim (ltb c e) [ true ↦ c ∷ items f e (end w c) | false ↦ [] ]

  -- `list` or `body` of a Block, Case or Comm
  unfoldable pub list : ℕ → List ℕ
  list r = items (size w r) (end w r) (suc r)

-- ---- names
module _ (w p b : List ℕ) where
  -- the name of a row's identifier
  unfoldable pub ident : ℕ → List ℕ
  ident r = name_bytes p b (name w r)

  -- the first label of that name among some: `Map::get`
  unfoldable pub lookup : List ℕ → List ℕ → Option ℕ
  lookup name [] = none
  lookup name (r ∷ rs) = elim (same_bytes (ident r) name) [ true ↦ some r | false ↦ lookup name rs ]
