-- Document 01, "Program `marks`": the file of a body. Three counts (rows, names, name bytes), then the row words, the pair words and the name bytes;
-- each word is 32 bits, little-endian.
-- Assumes nothing.
use Rattle.std.specs.Prelude.{Bool, ◌||◌, not, List, [], ◌∷◌, ℕ, ◌+◌, ◌*◌, ltb, eqb, length, get_or, take, drop}
use Rattle.rules.specs.Labels.{each}

-- the word whose first byte is at i
abbrev pub word : List ℕ → ℕ → ℕ
word f i = get_or f i 0 + get_or f (i + 1) 0 * 256 + get_or f (i + 2) 0 * 65536 + get_or f (i + 3) 0 * 16777216

-- n words from i on
unfoldable pub words : List ℕ → ℕ → ℕ → List ℕ
words f i n = each (λ k. word f (i + k * 4) ∷ []) n

-- ---- the header
abbrev pub rows : List ℕ → ℕ
rows f = word f 0

abbrev pub names : List ℕ → ℕ
names f = word f 4

abbrev pub bytes : List ℕ → ℕ
bytes f = word f 8

-- ---- the parts
abbrev pub row_words_of : List ℕ → List ℕ
row_words_of f = words f 12 (rows f * 5)

abbrev pub pair_words_of : List ℕ → List ℕ
pair_words_of f = words f (12 + rows f * 20) (names f * 2)

abbrev pub name_bytes : List ℕ → List ℕ
name_bytes f = take (bytes f) (drop (12 + rows f * 20 + names f * 8) f)

-- refusal 0: no header, or another length than the header says
unfoldable pub bad_file : List ℕ → Bool
bad_file f = ltb (length f) 12 || not (eqb (length f) (12 + rows f * 20 + names f * 8 + bytes f))
