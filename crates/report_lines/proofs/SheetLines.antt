-- The lines made from the sheet's words are those of its faults: the words of a fault are four, so line i + 1 is line i of the words past the first fault.
-- Assumes nothing.
use mathlib.Core.Path.{◌≡◌, refl, sym, ◌∙◌, ap}
use mathlib.Core.List.{List, [], ◌∷◌, ◌++◌, append_assoc, append-nil}
use Prim.Native.Nat.{ℕ, zero, suc, ◌+◌, ◌*◌}
use native.Mathlib.Omega.{arith}
use lib.ListN.{length, get_or}
use Rattle.rules.specs.Labels.{Fault, each}
use Rattle.rules.specs.Calls.{fault_words}
use Rattle.rules.proofs.Each.{each-zero}
use Rattle.report_lines.specs.Text.{line, sheet_word, fault_lines, sheet_text}
use Rattle.report_lines.specs.Lines.{sheet_line, sheet_lines}

-- ---- `each` from its first number on
each_first : (f : ℕ → List ℕ) (n : ℕ) → each f (suc n) ≡ f 0 ++ each (λ k. f (suc k)) n
unfolding each
each_first f zero = sym (append-nil (f 0))
each_first f (suc n) =
    ap (λ (l : List ℕ). l ++ f (suc n)) (each_first f n) ∙ append_assoc (f 0) (each (λ k. f (suc k)) n) (f (suc n))

each_same : (f g : ℕ → List ℕ) → ((k : ℕ) → f k ≡ g k) → (n : ℕ) → each f n ≡ each g n
unfolding each
each_same f g e zero = refl
each_same f g e (suc n) = rw (each_same f g e n, e n)

-- ---- past the first fault
module _ (a b c d : ℕ) (s : List ℕ) (i : ℕ) where
  word-past : (j k : ℕ) → k ≡ suc (suc (suc (suc j))) → get_or (a ∷ b ∷ c ∷ d ∷ s) k 0 ≡ get_or s j 0
  word-past j k e = ap (λ (n : ℕ). get_or (a ∷ b ∷ c ∷ d ∷ s) n 0) e

  line-past : sheet_line (a ∷ b ∷ c ∷ d ∷ s) (suc i) ≡ sheet_line s i
  unfolding sheet_line
  line-past = rw (
    word-past (i * 4) (suc i * 4) (omega arith),
    word-past (i * 4 + 1) (suc i * 4 + 1) (omega arith),
    word-past (i * 4 + 2) (suc i * 4 + 2) (omega arith),
    word-past (i * 4 + 3) (suc i * 4 + 3) (omega arith),
    sheet_line,
  )

line_first : (a b c d : ℕ) (s : List ℕ) → sheet_line (a ∷ b ∷ c ∷ d ∷ s) 0 ≡ line (a ∷ b ∷ c ∷ d ∷ [])
unfolding sheet_line
line_first a b c d s = refl

fault-lines : (fs : List Fault) (rest : List ℕ) → each (sheet_line (fault_words fs ++ rest)) (length fs) ≡ fault_lines fs
fault-lines [] rest = each-zero (sheet_line rest)
fault-lines (f ∷ fs) rest =
    let s = fault_words fs ++ rest in
    let w = f.code ∷ f.position ∷ f.name ∷ f.other ∷ s in
    each_first (sheet_line w) (length fs)
    ∙ ap (λ (l : List ℕ). l ++ each (λ k. sheet_line w (suc k)) (length fs)) (line_first f.code f.position f.name f.other s)
    ∙ ap (λ (l : List ℕ). line (f.code ∷ f.position ∷ f.name ∷ f.other ∷ []) ++ l)
    (each_same (λ k. sheet_line w (suc k)) (sheet_line s) (line-past f.code f.position f.name f.other s) (length fs) ∙ fault-lines fs rest)

pub sheet-lines : (fs : List Fault) (rest : List ℕ) → sheet_lines (fault_words fs ++ rest) (length fs) ≡ sheet_text fs
unfolding sheet_lines sheet_text
sheet-lines fs rest = ap (λ (l : List ℕ). sheet_word ++ line (length fs ∷ []) ++ l) (fault-lines fs rest)
