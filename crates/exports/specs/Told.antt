-- An answer as a program in C or Rust gets it: the refusal's number, 0 for none, and the refusal's index or the value.
-- Assumes nothing.
use Rattle.std.specs.Prelude.{Bool, true, false, ◌&&◌, List, ℕ, suc, ◌-◌, ltb, leb}
use Rattle.std.proofs.Math.Option.{Option, none, some}
use Rattle.rules.specs.Names.{count_of_pairs, offset, len, names_ok}
use Rattle.rules.specs.Calls.{Answer, refused, answered}
use Rattle.rules.specs.Walking.{Walked, place_word}

abbrev pub told_refusal : Option (ℕ × ℕ) → ℕ × ℕ
told_refusal none = (0, 0)
told_refusal (some r) = r

-- the sheet's row count
abbrev pub told_count : Answer ℕ → ℕ × ℕ
told_count (refused n i) = (n, i)
told_count (answered count) = (0, count)

-- 1 + the first row badly placed, or 0
abbrev pub placed_word : Option ℕ → ℕ
placed_word none = 0
placed_word (some r) = suc r

abbrev pub told_placing : Answer (Option ℕ) → ℕ × ℕ
told_placing (refused n i) = (n, i)
told_placing (answered o) = (0, placed_word o)

-- 1 for yes, 0 for no
abbrev pub verdict_word : Bool → ℕ
verdict_word true = 1
verdict_word false = 0

abbrev pub told_verdict : Answer Bool → ℕ × ℕ
told_verdict (refused n i) = (n, i)
told_verdict (answered v) = (0, verdict_word v)

-- the marks: beside number and value, the words of placing and verdict, which a refusal leaves as they were
abbrev pub told_marks : ℕ → ℕ → Answer (ℕ × Option ℕ × Bool) → ℕ × ℕ × ℕ × ℕ
told_marks placing verdict (refused n i) = (n, i, placing, verdict)
told_marks placing verdict (answered m) = (0, m.0, placed_word m.1, verdict_word m.2)

-- the walk: beside number and the place's word, the steps made and the choices used, which a refusal leaves as they were
abbrev pub told_walk : ℕ → ℕ → Answer Walked → ℕ × ℕ × ℕ × ℕ
told_walk steps used (refused n i) = (n, i, steps, used)
told_walk steps used (answered x) = (0, place_word x.place, x.steps, x.used)

-- where a name's bytes start and how many they are: the pair's offset and length; 0 and 0 for number 0, for a number past the last pair, and where 2
-- or 3 refuses
unfoldable pub told_name : List ℕ → List ℕ → ℕ → ℕ × ℕ
told_name p b n = elim (names_ok p b && (ltb 0 n && leb n (count_of_pairs p))) [ true ↦ (offset p (n - 1), len p (n - 1)) | false ↦ (0, 0) ]
