-- Names by canonical number, the first name number with the same bytes, with 0 for no name and for `_`: what the tables of the walk hold.
-- Assumes nothing.
use Rattle.std.specs.Prelude.{◌≡◌, Bool, true, false, ◌&&◌, List, ℕ, zero, suc, ◌≤◌, ◌<◌, eqb, length, get_or}
use Rattle.std.proofs.Math.Option.{Option}
use Rattle.rules.specs.Scan.{lowest}
use Rattle.rules.specs.Rows.{row_count, name}
use Rattle.rules.specs.Names.{count_of_pairs, is_blank}
use Rattle.rules.specs.Body.{Body}
use Rattle.rules.specs.Labels.{is_label, word}
use Rattle.canonical.specs.First.{first}
use Rattle.lists.specs.Listed.{ListedBelow}

unfoldable pub canon : List ℕ → List ℕ → ℕ → ℕ
canon p b n = elim n [ zero ↦ 0 | suc m ↦ elim (is_blank p b (suc m)) [ true ↦ 0 | false ↦ first p b (suc m) ] ]

-- the canonical number of a row's name
abbrev pub row_canon : List ℕ → List ℕ → List ℕ → ℕ → ℕ
row_canon w p b r = canon p b (name w r)

-- r is a label whose name has the canonical number c
abbrev pub is_numbered : List ℕ → List ℕ → List ℕ → ℕ → ℕ → Bool
is_numbered w p b c r = is_label w p b r && eqb (row_canon w p b r) c

-- the declared label of the names with the canonical number c: the first
unfoldable pub declared_for : List ℕ → List ℕ → List ℕ → ℕ → Option ℕ
declared_for w p b c = lowest (is_numbered w p b c) (row_count w)

-- each name's canonical number at its number
pub record CanonTable (p b canonical : List ℕ) : Type 0 where
  pub room : count_of_pairs p < length canonical
  pub at_name : (n : ℕ) → n ≤ count_of_pairs p → get_or canonical n 0 ≡ canon p b n

-- the declared label of each canonical number, 1 + its row
pub record DeclaredTable (w p b label-rows : List ℕ) : Type 0 where
  pub room : count_of_pairs p < length label-rows
  pub at_canon : (c : ℕ) → 0 < c → c ≤ count_of_pairs p → get_or label-rows c 0 ≡ word (declared_for w p b c)

-- what the walk reads: a well-formed body and its tables, with the lists of the rows before x
pub record Tables (w p b : List ℕ) (canonical label-rows lists : List ℕ) (x : ℕ) : Type 0 where
  pub body : Body w p b
  pub by_name : CanonTable p b canonical
  pub by_canon : DeclaredTable w p b label-rows
  pub lists_room : row_count w ≤ length lists
  pub listed : ListedBelow w lists x
