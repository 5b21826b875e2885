-- The pending gotos of one name, each linked to the one before it, and what a label does with those that stand after its list's row.
-- Assumes nothing.
use Rattle.std.specs.Prelude.{◌≡◌, true, false, List, [], ◌∷◌, ◌++◌, ℕ, suc, ◌+◌, ◌-◌, ◌*◌, ◌≤◌, ◌<◌, ltb, length, get_or, set}
use Rattle.std.proofs.lemmas.List.Edits.{sets}
use Rattle.rules.specs.Rows.{row_count, position, name}
use Rattle.rules.specs.Labels.{Fault, only, fault}
use Rattle.rules.specs.Calls.{fault_words}

-- from the word g, 1 + a row, the links lead down to the rows gs, all after the list's (`list` is 1 + its row), and then to the word `last`, which is not
pub data Chain (links : List ℕ) (list : ℕ) : ℕ → List ℕ → ℕ → Type 0 where
  ended : {g : ℕ} → g ≤ list → Chain links list g [] g
  linked : {g last : ℕ} {gs : List ℕ} → list ≤ g → get_or links g 0 ≤ g → Chain links list (get_or links g 0) gs last → Chain links list (suc g) (g ∷ gs) last

-- how many of the rows stand before the latest declaration (1 + its row, or 0)
abbrev pub count_over : ℕ → List ℕ → ℕ
count_over latest [] = 0
count_over latest (g ∷ gs) = elim (ltb (suc g) latest) [ true ↦ suc (count_over latest gs) | false ↦ count_over latest gs ]

-- their reports, in the order of the rows
abbrev pub over_fault : List ℕ → ℕ → ℕ → List Fault
over_fault w latest g = only (ltb (suc g) latest) (record { code = 3; position = position w g; name = name w g; other = position w (latest - 1) })

abbrev pub over_faults : List ℕ → ℕ → List ℕ → List Fault
over_faults w latest [] = []
over_faults w latest (g ∷ gs) = over_faults w latest gs ++ over_fault w latest g

-- the word v at each of the rows
abbrev pub stored : List ℕ → List ℕ → ℕ → List ℕ
stored words [] v = words
stored words (g ∷ gs) v = stored (set words g v) gs v

-- what the count asks
pub record Counting (links : List ℕ) (head list : ℕ) : Type 0 where
  pub rows : List ℕ
  pub last : ℕ
  pub chain : Chain links list head rows last
  pub room : head ≤ length links

-- what the label's resolving asks: the chain, room for the reports below `end`, and rows that are rows
pub record Resolving (w sheet bindings links : List ℕ) (head row list latest end : ℕ) : Type 0 where
  pub counting : Counting links head list
  pub few : row_count w ≤ 2000
  pub row_in : row < row_count w
  pub head_in : head ≤ row_count w
  pub latest_within : latest ≤ row_count w
  pub bindings_room : row_count w ≤ length bindings
  pub from : count_over latest counting.rows ≤ end
  pub room : end * 4 ≤ length sheet

-- and what it leaves
pub record Resolved (w sheet bindings sheet' bindings' : List ℕ) (row latest end last r : ℕ) (gs : List ℕ) : Type 0 where
  pub left : r ≡ last
  pub bound : bindings' ≡ stored bindings gs (suc row)
  pub reported : (start : ℕ) → start + count_over latest gs ≡ end → sheet' ≡ sets sheet (start * 4) (fault_words (over_faults w latest gs))

-- the label's own binding, or its two reports
pub record Declaring (w sheet bindings sheet' bindings' : List ℕ) (declared row faults r : ℕ) : Type 0 where
  pub first : declared ≡ suc row → (r ≡ faults) × (sheet' ≡ sheet) × (bindings' ≡ set bindings row declared)
  pub again : (declared ≡ suc row → ⊥) → (r ≡ faults + 2) × (bindings' ≡ bindings)
      × (sheet' ≡ sets sheet (faults * 4) (fault_words (fault w 1 row ∷ fault w 2 (declared - 1) ∷ [])))
