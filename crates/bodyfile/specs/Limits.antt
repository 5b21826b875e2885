-- What is decided from the file's first bytes and its length: refusal 0, the refusals of the counts, and that the counts are within their limits.
-- Assumes nothing.
use Rattle.std.specs.Prelude.{Bool, true, false, ◌||◌, not, List, ℕ, ◌+◌, ◌*◌, ◌≤◌, ◌<◌, ltb, eqb, length, Option, Some, None}
use Rattle.refusals.specs.declared.Refusal.{Refusal}
use Rattle.refusals.specs.Returned.{returned}
use Rattle.bodyfile.specs.File.{rows, names, bytes}

-- the length that the header says
abbrev pub said : List ℕ → ℕ
said f = 12 + rows f * 20 + names f * 8 + bytes f

-- refusal 0 of a file with these first bytes and this length
unfoldable pub bad_start : List ℕ → ℕ → Bool
bad_start start total = ltb (length start) 12 || not (eqb total (said start))

-- 1 for no row or over 2,000, 2 for over 500 names or over 8,000 name bytes, else 0
unfoldable pub count_refusal : List ℕ → ℕ
count_refusal f = elim (eqb (rows f) 0 || ltb 2000 (rows f)) [ true ↦ 1 | false ↦ elim (ltb 500 (names f) || ltb 8000 (bytes f)) [ true ↦ 2 | false ↦ 0 ] ]

-- the number of the refusal, or 0
abbrev pub number : Option Refusal → ℕ
number None = 0
number (Some r) = (returned r).0

pub record Within (f : List ℕ) : Type 0 where
  pub some_rows : 0 < rows f
  pub most_rows : rows f ≤ 2000
  pub most_names : names f ≤ 500
  pub most_bytes : bytes f ≤ 8000
