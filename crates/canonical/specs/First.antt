-- The canonical number of a name: the first name number with its bytes.
-- Assumes nothing.
use Rattle.std.specs.Prelude.{◌≡◌, List, ℕ, suc, ◌≤◌, ◌<◌, get_or}
use Rattle.rules.specs.Scan.{lowest}
use Rattle.rules.specs.Names.{count_of_pairs, same_name}
use Rattle.rules.specs.Labels.{word}

unfoldable pub first : List ℕ → List ℕ → ℕ → ℕ
first p b n = word (lowest (λ i. same_name p b (suc i) n) (count_of_pairs p))

-- t is s with the canonical number of each name of the body at the name's own number
pub record Numbered (p b s t : List ℕ) : Type 0 where
  pub numbers : (n : ℕ) → 0 < n → n ≤ count_of_pairs p → get_or t n 0 ≡ first p b n
  pub none : get_or t 0 0 ≡ get_or s 0 0
  pub kept : (n : ℕ) → count_of_pairs p < n → get_or t n 0 ≡ get_or s n 0
