-- The definitions on document 01's example, `{goto M;L:for{}}`, and on small files that are refused: each output, byte for byte, so that a wrong definition is
-- seen here.
-- Assumes nothing.
use mathlib.Core.Path.{◌≡◌, refl}
use mathlib.Core.Bool.{Bool, true, ◌&&◌}
use mathlib.Core.List.{List, [], ◌∷◌, ◌++◌}
use Prim.Native.Nat.{ℕ, zero, suc, ◌<◌}
use native.Mathlib.Omega.{arith}
use lib.Dec.{ltb}
use lib.ListN.{get_or}
use borrow.Author.Tests.{ltb-true}
use Rattle.rules.proofs.Test.{and-true}
use Rattle.rules.proofs.Computed.{computed}
use Rattle.bodyfile.specs.File.{words, bad_file}
use Rattle.report_lines.specs.Text.{decimal, sheet_text, binds_text}
use Rattle.report.specs.Text.{body_text, marks_text}
use Rattle.bodyfile.specs.Limits.{bad_start, count_refusal}
use Rattle.report.specs.Start.{start_text}
use Rattle.report.proofs.Files.{of-whole, uncounted-refused}

-- words below 256 as bytes
abbrev small : List ℕ → List ℕ
small [] = []
small (n ∷ ns) = n ∷ 0 ∷ 0 ∷ 0 ∷ small ns

abbrev counts : List ℕ
counts = small (5 ∷ 2 ∷ 2 ∷ [])

abbrev rows : List ℕ
rows = small (12 ∷ 0 ∷ 1 ∷ 0 ∷ 5 ∷ 11 ∷ 2 ∷ 7 ∷ 1 ∷ 1 ∷ 3 ∷ 0 ∷ 9 ∷ 2 ∷ 3 ∷ 19 ∷ 0 ∷ 11 ∷ 0 ∷ 2 ∷ 12 ∷ 0 ∷ 14 ∷ 0 ∷ 1 ∷ [])

abbrev pairs : List ℕ
pairs = small (0 ∷ 1 ∷ 1 ∷ 1 ∷ [])

abbrev file : List ℕ
file = counts ++ rows ++ pairs ++ (77 ∷ 76 ∷ [])

-- "sheet 2", "8 7 1 0", "9 9 2 0", "binds 1", "2 2", "placed yes", "verdict yes"
abbrev printed : List ℕ
printed =
    (115 ∷ 104 ∷ 101 ∷ 101 ∷ 116 ∷ 32 ∷ 50 ∷ 10 ∷ [])
    ++ (56 ∷ 32 ∷ 55 ∷ 32 ∷ 49 ∷ 32 ∷ 48 ∷ 10 ∷ [])
    ++ (57 ∷ 32 ∷ 57 ∷ 32 ∷ 50 ∷ 32 ∷ 48 ∷ 10 ∷ [])
    ++ (98 ∷ 105 ∷ 110 ∷ 100 ∷ 115 ∷ 32 ∷ 49 ∷ 10 ∷ [])
    ++ (50 ∷ 32 ∷ 50 ∷ 10 ∷ [])
    ++ (112 ∷ 108 ∷ 97 ∷ 99 ∷ 101 ∷ 100 ∷ 32 ∷ 121 ∷ 101 ∷ 115 ∷ 10 ∷ [])
    ++ (118 ∷ 101 ∷ 114 ∷ 100 ∷ 105 ∷ 99 ∷ 116 ∷ 32 ∷ 121 ∷ 101 ∷ 115 ∷ 10 ∷ [])

pub example : marks_text file ≡ printed
unfolding computed words bad_file decimal sheet_text binds_text body_text marks_text
example = refl

-- "refused 0 0", "refused 1 0"
abbrev refused : ℕ → List ℕ
refused digit = 114 ∷ 101 ∷ 102 ∷ 117 ∷ 115 ∷ 101 ∷ 100 ∷ 32 ∷ digit ∷ 32 ∷ 48 ∷ 10 ∷ []

-- no header, a byte too few, no rows
pub refusals : (marks_text [] ≡ refused 48)
    × (marks_text (counts ++ rows ++ pairs ++ (77 ∷ [])) ≡ refused 48)
    × (marks_text (small (0 ∷ 0 ∷ 0 ∷ [])) ≡ refused 49)
unfolding computed words bad_file decimal sheet_text binds_text body_text marks_text
refusals = (refl, refl, refl)

-- ---- from the first bytes and the length: the example whole; one byte too many; a part of it alone; 2,001 rows by the header alone, with their
-- length and with another

abbrev many_rows : List ℕ
many_rows = 209 ∷ 7 ∷ 0 ∷ 0 ∷ small (0 ∷ 0 ∷ [])

pub starts : (start_text file 130 ≡ printed)
    × (start_text file 131 ≡ refused 48)
    × (start_text counts 130 ≡ refused 48)
    × (start_text many_rows 40032 ≡ refused 49)
    × (start_text many_rows 40033 ≡ refused 48)
unfolding computed words bad_start count_refusal start_text decimal sheet_text binds_text body_text
starts = (refl, refl, refl, refl, refl)

-- and of a whole file that is what is printed for it
pub read_whole : start_text file 130 ≡ marks_text file
read_whole = of-whole file 52012 (omega arith)

-- an input of 2^37 bytes and more that begins with the example's counts
abbrev below-256 : List ℕ → Bool
below-256 [] = true
below-256 (n ∷ ns) = ltb n 256 && below-256 ns

each_below : (l : List ℕ) → below-256 l ≡ true → (i : ℕ) → get_or l i 0 < 256
each_below [] t i = omega arith
each_below (n ∷ ns) t zero = ltb-true n 256 (and-true (ltb n 256) (below-256 ns) t).0
each_below (n ∷ ns) t (suc i) = each_below ns (and-true (ltb n 256) (below-256 ns) t).1 i

pub uncounted : start_text counts 137438953472 ≡ refused 48
unfolding computed decimal
uncounted = uncounted-refused counts (each_below counts refl) 137438953472 (omega arith)

-- numbers of one digit and of more
pub numbers : (decimal 0 ≡ 48 ∷ []) × (decimal 9 ≡ 57 ∷ []) × (decimal 10 ≡ 49 ∷ 48 ∷ [])
    × (decimal 4294967295 ≡ 52 ∷ 50 ∷ 57 ∷ 52 ∷ 57 ∷ 54 ∷ 55 ∷ 50 ∷ 57 ∷ 53 ∷ [])
unfolding computed decimal
numbers = (refl, refl, refl, refl)
