-- The lines of the output as the code has them at hand: from the words of the lent sheet, and from the rows bound so far.
-- Assumes nothing.
use Rattle.std.specs.Prelude.{List, [], ◌∷◌, ◌++◌, ℕ, ◌+◌, ◌*◌, length, get_or}
use Rattle.rules.specs.Labels.{each}
use Rattle.report_lines.specs.Text.{line, sheet_word, bound}

-- line i of the sheet with these words, four a line
unfoldable pub sheet_line : List ℕ → ℕ → List ℕ
sheet_line s i = line (get_or s (i * 4) 0 ∷ get_or s (i * 4 + 1) 0 ∷ get_or s (i * 4 + 2) 0 ∷ get_or s (i * 4 + 3) 0 ∷ [])

-- the sheet's first n lines under their count
unfoldable pub sheet_lines : List ℕ → ℕ → List ℕ
sheet_lines s n = sheet_word ++ line (n ∷ []) ++ each (sheet_line s) n

-- how many of the rows below n are bound
unfoldable pub bound_below : List ℕ → ℕ → ℕ
bound_below words n = length (each (bound words) n)
