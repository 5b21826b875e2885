-- A file whose counts are outside their limits is refused for them alone: the row words are as many as the rows need, the pair words as many as the names,
-- and a file of the length that its header says has all its name bytes.
-- Assumes nothing.
use mathlib.Core.Path.{◌≡◌, ◌∙◌, ap}
use mathlib.Core.Bool.{true, false, ◌||◌, not}
use mathlib.Core.List.{List}
use Prim.Native.Nat.{ℕ, ◌+◌, ◌*◌, ◌/◌, ◌%◌, ◌≤◌, ◌<◌}
use native.Mathlib.Omega.{arith}
use native.Mathlib.Decide.{dec_lt, ℕ_discrete}
use lib.Dec.{ltb, eqb}
use lib.ListN.{length, drop, length-take, length-drop}
use borrow.Author.Tests.{lt-ltb, le-ltb, eq-eqb, ne_eqb}
use Rattle.rules.specs.Names.{bad_name_words}
use Rattle.rules.specs.Refusals.{bad_row_words}
use Rattle.rules.proofs.Causes.{refused-at, bad-1, good-1, bad-2}
use Rattle.rules.proofs.Each.{each-length}
use Rattle.rules.proofs.Test.{case-of, clash}
use Rattle.bodyfile.specs.File.{word, words, rows, names, bytes, row_words_of, pair_words_of, name_bytes}
use Rattle.report_lines.specs.Text.{refused_text}
use Rattle.report.specs.Text.{body_text}
use Rattle.bodyfile.specs.Limits.{said, count_refusal}
use Rattle.bodyfile.proofs.Header.{or-last, rows-good, count-1, count-2, count-0}
use Rattle.report.proofs.Marked.{text-refused}

pub words-length : (f : List ℕ) (i n : ℕ) → length (words f i n) ≡ n
unfolding words
words-length f i n = each-length (λ k. word f (i + k * 4)) n

module _ (f : List ℕ) where
  rows_words : length (row_words_of f) ≡ rows f * 5
  rows_words = words-length f 12 (rows f * 5)

  names-words : length (pair_words_of f) ≡ names f * 2
  names-words = words-length f (12 + rows f * 20) (names f * 2)

  bytes-all : length f ≡ said f → length (name_bytes f) ≡ bytes f
  bytes-all e = length-take (bytes f) (drop (12 + rows f * 20 + names f * 8) f) ∙ omega (arith, length-drop (12 + rows f * 20 + names f * 8) f)

  -- ---- 1
  no_rows : rows f ≡ 0 → bad_row_words (row_words_of f) ≡ true
  unfolding bad_row_words
  no_rows e = let h : length (row_words_of f) ≡ 0 = omega (arith, rows_words) in rw (eq-eqb (length (row_words_of f)) 0 h, bad_row_words)

  many-rows : 2000 < rows f → bad_row_words (row_words_of f) ≡ true
  unfolding bad_row_words
  many-rows h =
      let l : 2000 < length (row_words_of f) / 5 = omega (arith, rows_words) in
      rw (lt-ltb 2000 (length (row_words_of f) / 5) l, bad_row_words, or-last (not (eqb (length (row_words_of f) % 5) 0)), or-last (eqb (length (row_words_of f)) 0))

  rows_pass : 0 < rows f → rows f ≤ 2000 → bad_row_words (row_words_of f) ≡ false
  unfolding bad_row_words
  rows_pass h l =
      let a : length (row_words_of f) ≡ 0 → ⊥ = λ e. omega (arith, rows_words) in
      let b : length (row_words_of f) % 5 ≡ 0 = omega (arith, rows_words) in
      let c : length (row_words_of f) / 5 ≤ 2000 = omega (arith, rows_words) in
      rw (ne_eqb (length (row_words_of f)) 0 a, eq-eqb (length (row_words_of f) % 5) 0 b, le-ltb 2000 (length (row_words_of f) / 5) c, bad_row_words)

  -- ---- 2
  many-names : 500 < names f → bad_name_words (pair_words_of f) (name_bytes f) ≡ true
  unfolding bad_name_words
  many-names h =
      let l : 500 < length (pair_words_of f) / 2 = omega (arith, names-words) in
      rw (lt-ltb 500 (length (pair_words_of f) / 2) l, bad_name_words, or-last (not (eqb (length (pair_words_of f) % 2) 0)))

  many-bytes : length f ≡ said f → 8000 < bytes f → bad_name_words (pair_words_of f) (name_bytes f) ≡ true
  unfolding bad_name_words
  many-bytes e h =
      let l : 8000 < length (name_bytes f) = omega (arith, bytes-all e) in
      rw (
        lt-ltb 8000 (length (name_bytes f)) l,
        bad_name_words,
        or-last (ltb 500 (length (pair_words_of f) / 2)),
        or-last (not (eqb (length (pair_words_of f) % 2) 0)),
      )

  -- ---- the refusals of the counts
  counts-1 : bad_row_words (row_words_of f) ≡ true → refused_text 1 0 ≡ body_text (row_words_of f) (pair_words_of f) (name_bytes f)
  counts-1 e = text-refused (row_words_of f) (pair_words_of f) (name_bytes f) (1, 0) (refused-at (row_words_of f) (pair_words_of f) (name_bytes f) 0 0 tt (bad-1 (row_words_of f) e))

  counts-2 : bad_row_words (row_words_of f) ≡ false → bad_name_words (pair_words_of f) (name_bytes f) ≡ true
      → refused_text 2 0 ≡ body_text (row_words_of f) (pair_words_of f) (name_bytes f)
  counts-2 a e = text-refused (row_words_of f) (pair_words_of f) (name_bytes f) (2, 0)
      (refused-at (row_words_of f) (pair_words_of f) (name_bytes f) 1 0 (good-1 (row_words_of f) a, tt) (bad-2 (pair_words_of f) (name_bytes f) e))

  -- ---- by the counts
  rows-bad : (eqb (rows f) 0 || ltb 2000 (rows f)) ≡ true → bad_row_words (row_words_of f) ≡ true
  rows-bad t = elim (ℕ_discrete (rows f) 0) [
    | yes e ↦ no_rows e
    | no z ↦
        elim (dec_lt 2000 (rows f)) [
          | yes h ↦ many-rows h
          | no h ↦ absurd (clash (cc (t, ne_eqb (rows f) 0 z, le-ltb 2000 (rows f) (omega arith))))
        ]
  ]

  names-bad : length f ≡ said f → (ltb 500 (names f) || ltb 8000 (bytes f)) ≡ true → bad_name_words (pair_words_of f) (name_bytes f) ≡ true
  names-bad e t = elim (dec_lt 500 (names f)) [
    | yes h ↦ many-names h
    | no z ↦
        elim (dec_lt 8000 (bytes f)) [
          | yes h ↦ many-bytes e h
          | no h ↦ absurd (clash (cc (t, le-ltb 500 (names f) (omega arith), le-ltb 8000 (bytes f) (omega arith))))
        ]
  ]

  pub counts-refused : (k : ℕ) → length f ≡ said f → k ≡ count_refusal f → (k ≡ 0 → ⊥) → refused_text k 0 ≡ body_text (row_words_of f) (pair_words_of f) (name_bytes f)
  counts-refused k l e z = case-of (eqb (rows f) 0 || ltb 2000 (rows f))
      (λ t. ap (λ (n : ℕ). refused_text n 0) (e ∙ count-1 f t) ∙ counts-1 (rows-bad t))
      (λ t. case-of (ltb 500 (names f) || ltb 8000 (bytes f))
      (λ u. ap (λ (n : ℕ). refused_text n 0) (e ∙ count-2 f t u) ∙ counts-2 (rows_pass (rows-good f t).0 (rows-good f t).1) (names-bad l u))
      (λ u. absurd (z (e ∙ count-0 f t u))))
