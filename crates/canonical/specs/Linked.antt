-- The tables once the first n names are numbered. The names of a slot are linked: `heads` leads from the slot to the latest of them, `next-in-slot`
-- from each to the one before it.
-- Assumes nothing.
use Rattle.std.specs.Prelude.{◌≡◌, Bool, List, ℕ, suc, ◌≤◌, ◌<◌, eqb, get_or}
use Rattle.rules.specs.Scan.{highest}
use Rattle.rules.specs.Names.{count_of_pairs, name_bytes}
use Rattle.rules.specs.Labels.{word}
use Rattle.canonical.specs.First.{first}
use Rattle.canonical.specs.Hash.{hash, slot_of}

-- the hash of the name of pair i
abbrev pub hash_at : List ℕ → List ℕ → ℕ → ℕ
hash_at p b i = hash (name_bytes p b (suc i))

-- pair i belongs to the slot s
abbrev pub in_slot : List ℕ → List ℕ → ℕ → ℕ → ℕ → Bool
in_slot p b slots s i = eqb (slot_of slots (hash_at p b i)) s

-- the slots lead to the latest of the first n names; each of these leads to the one before it in its slot, and has its hash and its canonical number
pub record Linked (p b : List ℕ) (slots n : ℕ) (heads next-in-slot keys numbers : List ℕ) : Type 0 where
  pub upto : n ≤ count_of_pairs p
  pub head_at : (s : ℕ) → s < slots → get_or heads s 0 ≡ word (highest (in_slot p b slots s) n)
  pub next_at : (i : ℕ) → i < n → get_or next-in-slot (suc i) 0 ≡ word (highest (in_slot p b slots (slot_of slots (hash_at p b i))) i)
  pub key_at : (i : ℕ) → i < n → get_or keys (suc i) 0 ≡ hash_at p b i
  pub first_at : (i : ℕ) → i < n → get_or numbers (suc i) 0 ≡ first p b (suc i)
