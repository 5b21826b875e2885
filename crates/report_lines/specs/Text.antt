-- Document 01, "Program `marks`": the lines that it prints, as bytes.
-- Assumes nothing.
use Rattle.std.specs.Prelude.{Bool, true, false, not, List, [], ◌∷◌, ◌++◌, ℕ, zero, suc, ◌^◌, ltb, eqb, length, get_or}
use Rattle.std.proofs.Math.Option.{Option, none, some}
use Rattle.rules.specs.Scan.{lowest}
use Rattle.rules.specs.Labels.{Fault, each, only}
use Rattle.io.specs.Digits.{last_digits}

-- ---- numbers and lines

-- the number in decimal, with no more digits than it needs; of a number of up to 20 digits
unfoldable pub decimal : ℕ → List ℕ
decimal n = elim (lowest (λ k. ltb n (10 ^ suc k)) 20) [ none ↦ [] | some k ↦ last_digits 10 (suc k) n ]

-- numbers with a blank between them, and the line's end
abbrev pub line : List ℕ → List ℕ
line [] = 10 ∷ []
line (n ∷ ns) = decimal n ++ elim ns [ [] ↦ 10 ∷ [] | m ∷ ms ↦ 32 ∷ line ns ]

-- ---- the words that begin a line: "refused ", "sheet ", "binds "
abbrev pub refused_word : List ℕ
refused_word = 114 ∷ 101 ∷ 102 ∷ 117 ∷ 115 ∷ 101 ∷ 100 ∷ 32 ∷ []

abbrev pub sheet_word : List ℕ
sheet_word = 115 ∷ 104 ∷ 101 ∷ 101 ∷ 116 ∷ 32 ∷ []

abbrev pub binds_word : List ℕ
binds_word = 98 ∷ 105 ∷ 110 ∷ 100 ∷ 115 ∷ 32 ∷ []

-- "placed yes", "placed no " with the row, "verdict yes", "verdict no"
abbrev pub placed_yes : List ℕ
placed_yes = 112 ∷ 108 ∷ 97 ∷ 99 ∷ 101 ∷ 100 ∷ 32 ∷ 121 ∷ 101 ∷ 115 ∷ 10 ∷ []

abbrev pub placed_no : List ℕ
placed_no = 112 ∷ 108 ∷ 97 ∷ 99 ∷ 101 ∷ 100 ∷ 32 ∷ 110 ∷ 111 ∷ 32 ∷ []

abbrev pub verdict_yes : List ℕ
verdict_yes = 118 ∷ 101 ∷ 114 ∷ 100 ∷ 105 ∷ 99 ∷ 116 ∷ 32 ∷ 121 ∷ 101 ∷ 115 ∷ 10 ∷ []

abbrev pub verdict_no : List ℕ
verdict_no = 118 ∷ 101 ∷ 114 ∷ 100 ∷ 105 ∷ 99 ∷ 116 ∷ 32 ∷ 110 ∷ 111 ∷ 10 ∷ []

-- ---- the parts of the output

abbrev pub refused_text : ℕ → ℕ → List ℕ
refused_text number index = refused_word ++ line (number ∷ index ∷ [])

abbrev pub fault_lines : List Fault → List ℕ
fault_lines [] = []
fault_lines (f ∷ fs) = line (f.code ∷ f.position ∷ f.name ∷ f.other ∷ []) ++ fault_lines fs

unfoldable pub sheet_text : List Fault → List ℕ
sheet_text s = sheet_word ++ line (length s ∷ []) ++ fault_lines s

-- a row that is bound, and the label's row
abbrev pub bind_line : List ℕ → ℕ → List ℕ
bind_line words r = elim (get_or words r 0) [ zero ↦ [] | suc label ↦ line (r ∷ label ∷ []) ]

abbrev pub bound : List ℕ → ℕ → List ℕ
bound words r = only (not (eqb (get_or words r 0) 0)) r

unfoldable pub binds_text : List ℕ → List ℕ
binds_text words = binds_word ++ line (length (each (bound words) (length words)) ∷ []) ++ each (bind_line words) (length words)

abbrev pub placed_text : Option ℕ → List ℕ
placed_text none = placed_yes
placed_text (some r) = placed_no ++ line (r ∷ [])

abbrev pub verdict_text : Bool → List ℕ
verdict_text true = verdict_yes
verdict_text false = verdict_no
