-- Document 01, "The lent records": names are pairs of offset and length into the name bytes; equal bytes mean the same name.
-- Assumes nothing.
use Rattle.std.specs.Prelude.{Bool, true, false, ◌&&◌, ◌||◌, not, List, [], ◌∷◌, ℕ, zero, suc, ◌+◌, ◌-◌, ◌*◌, ◌/◌, ◌%◌, ltb, leb, eqb, length, take, drop, get_or}
use Rattle.std.proofs.Math.Option.{none, some}
use Rattle.rules.specs.Scan.{lowest, how_many}

-- how many whole pairs the words hold
abbrev pub count_of_pairs : List ℕ → ℕ
count_of_pairs p = length p / 2

-- of the pair i, counted from 0
abbrev pub offset : List ℕ → ℕ → ℕ
offset p i = get_or p (i * 2) 0

abbrev pub len : List ℕ → ℕ → ℕ
len p i = get_or p (i * 2 + 1) 0

-- where the pair before i ends
unfoldable pub previous_end : List ℕ → ℕ → ℕ
previous_end p zero = 0
previous_end p (suc i) = offset p i + len p i

-- cause 2: odd pair words, over 500 pairs, or over 8,000 name bytes
unfoldable pub bad_name_words : List ℕ → List ℕ → Bool
bad_name_words p b = not (eqb (length p % 2) 0) || (ltb 500 (count_of_pairs p) || ltb 8000 (length b))

-- cause 3 of the pair i: length 0, starting before the previous end, or ending past the bytes
unfoldable pub bad_pair : List ℕ → List ℕ → ℕ → Bool
bad_pair p b i = eqb (len p i) 0 || (ltb (offset p i) (previous_end p i) || ltb (length b) (offset p i + len p i))

-- neither cause 2 nor cause 3
unfoldable pub names_ok : List ℕ → List ℕ → Bool
names_ok p b = elim (bad_name_words p b) [ true ↦ false | false ↦ elim (lowest (bad_pair p b) (count_of_pairs p)) [ some i ↦ false | none ↦ true ] ]

-- the bytes of a name: those of the n-th pair; none for number 0, for a number past the last pair, and where 2 or 3 refuses
unfoldable pub name_bytes : List ℕ → List ℕ → ℕ → List ℕ
name_bytes p b n = elim (names_ok p b && (ltb 0 n && leb n (count_of_pairs p))) [ true ↦ take (len p (n - 1)) (drop (offset p (n - 1)) b) | false ↦ [] ]

-- ---- same bytes, and the order of bytes: unsigned, a prefix first
unfoldable pub same_bytes : List ℕ → List ℕ → Bool
same_bytes [] [] = true
same_bytes [] (y ∷ ys) = false
same_bytes (x ∷ xs) [] = false
same_bytes (x ∷ xs) (y ∷ ys) = eqb x y && same_bytes xs ys

unfoldable pub bytes_before : List ℕ → List ℕ → Bool
bytes_before [] [] = false
bytes_before [] (y ∷ ys) = true
bytes_before (x ∷ xs) [] = false
bytes_before (x ∷ xs) (y ∷ ys) = ltb x y || (eqb x y && bytes_before xs ys)

-- two name numbers have the same name
unfoldable pub same_name : List ℕ → List ℕ → ℕ → ℕ → Bool
same_name p b m n = same_bytes (name_bytes p b m) (name_bytes p b n)

-- the name `_`
unfoldable pub is_blank : List ℕ → List ℕ → ℕ → Bool
is_blank p b n = same_bytes (name_bytes p b n) (95 ∷ [])

-- the rank of a name: one more than the body's names whose bytes come before its own are many
unfoldable pub rank : List ℕ → List ℕ → ℕ → ℕ
rank p b n = suc (how_many (λ i. bytes_before (name_bytes p b (suc i)) (name_bytes p b n)) (count_of_pairs p))
