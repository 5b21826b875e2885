-- The parts of the output from their pieces: a line is its numbers, each with the byte behind it, and a part is its heading and then line after line. As many
-- rows are bound as words aren't 0.
-- Assumes nothing.
use mathlib.Core.Path.{◌≡◌, refl, sym, ◌∙◌, ap}
use mathlib.Core.Bool.{Bool, true, false, cond, not}
use mathlib.Core.List.{List, [], ◌∷◌, ◌++◌, append_assoc}
use Prim.Native.Nat.{ℕ, zero, suc, ◌+◌, ◌*◌, ◌≤◌}
use native.Mathlib.Numerals.{add-one}
use native.Mathlib.Omega.{arith}
use lib.ListN.{length, get_or, take, length-append}
use lib.Dec.{eqb}
use lib.Seq.{take-length}
use Rattle.std.specs.List.{count_by}
use Rattle.std.proofs.lemmas.List.Sums.{sum_by_more}
use Rattle.rules.specs.Labels.{each, only}
use Rattle.rules.proofs.Each.{each-suc}
use Rattle.report_lines.specs.Text.{decimal, line, bound}
use Rattle.report_lines.specs.Wrote.{Wrote}
use Rattle.report_lines.specs.Lines.{sheet_line, bound_below}
use Rattle.report_lines.proofs.Writing.{behind, same_text}

-- a number with the byte behind it
abbrev pub spaced : ℕ → List ℕ
spaced n = decimal n ++ (32 ∷ [])

abbrev pub ended : ℕ → List ℕ
ended n = decimal n ++ (10 ∷ [])

-- ---- a line of four numbers
four-numbers : (a b c d : ℕ) → spaced a ++ (spaced b ++ (spaced c ++ ended d)) ≡ line (a ∷ b ∷ c ∷ d ∷ [])
four-numbers a b c d = simp append_assoc

pub fault-put : {o o₁ o₂ o₃ o₄ : List ℕ} {at e₁ e₂ e₃ e₄ : ℕ} (s : List ℕ) (i : ℕ) → Wrote o o₁ at (spaced (get_or s (i * 4) 0)) e₁
    → Wrote o₁ o₂ e₁ (spaced (get_or s (i * 4 + 1) 0)) e₂ → Wrote o₂ o₃ e₂ (spaced (get_or s (i * 4 + 2) 0)) e₃
    → Wrote o₃ o₄ e₃ (ended (get_or s (i * 4 + 3) 0)) e₄ → Wrote o o₄ at (sheet_line s i) e₄
unfolding sheet_line
fault-put s i f g h k = same_text (four-numbers _ _ _ _) (behind _ _ f (behind _ _ g (behind _ _ h k)))

-- ---- line after line
pub one_line : (f : ℕ → List ℕ) (i : ℕ) → each f (i + 1) ≡ each f i ++ f i
one_line f i = ap (each f) (add-one i) ∙ each-suc f i

-- ---- how many rows are bound: as many words as aren't 0
abbrev is_bound : ℕ → Bool
is_bound word = not (eqb word 0)

length-only : (t : Bool) (r : ℕ) → length (only t r) ≡ cond t 1 0
length-only true r = refl
length-only false r = refl

bound-first : (w : List ℕ) (r : ℕ) → r ≤ length w → bound_below w r ≡ count_by is_bound (take r w)
unfolding bound_below each
bound-first w zero h = refl
bound-first w (suc r) h =
    let more = rw (add-one r) at (sum_by_more (λ x. cond (is_bound x) 1 0) w r 0 (omega arith)) in
    omega (arith, length-append (each (bound w) r) (bound w r), length-only (is_bound (get_or w r 0)) r, bound-first w r (omega arith), more)

pub bound-count : (w : List ℕ) → count_by is_bound w ≡ bound_below w (length w)
bound-count w = sym (bound-first w (length w) (omega arith) ∙ ap (count_by is_bound) (take-length w))
