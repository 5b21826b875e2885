-- Name numbers in the order of their bytes.
-- Assumes nothing.
use Rattle.std.specs.Prelude.{◌≡◌, Bool, true, false, List, [], ◌∷◌, ℕ, suc, ◌≤◌, ◌<◌, length, get_or}
use Rattle.rules.specs.Names.{name_bytes, bytes_before}

-- no later number's bytes come before an earlier one's
abbrev pub Sorted : List ℕ → List ℕ → List ℕ → Type 0
Sorted p b s = (i j : ℕ) → i ≤ j → j < length s → bytes_before (name_bytes p b (get_or s j 0)) (name_bytes p b (get_or s i 0)) ≡ false

-- how many elements of a list pass a test
unfoldable pub passing : (ℕ → Bool) → List ℕ → ℕ
passing P [] = 0
passing P (x ∷ xs) = elim (P x) [ true ↦ suc (passing P xs) | false ↦ passing P xs ]

-- the same elements, each as often: every test passes equally often
abbrev pub SameElements : List ℕ → List ℕ → Type 0
SameElements s t = (P : ℕ → Bool) → passing P s ≡ passing P t
