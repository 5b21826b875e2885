-- The output from what was read of a file, by the code's tests; and that it is what `marks` prints for the file. The first bytes decide: their header is
-- the whole file's, so that the counts and the length it says are; and where the counts are within their limits and the length is the one it says, they
-- are the whole file.
-- Assumes nothing.
use mathlib.Core.Path.{◌≡◌, refl, sym, ◌∙◌, ap}
use mathlib.Core.Bool.{Bool, true, false, ◌||◌, not}
use mathlib.Core.List.{List}
use Prim.Native.Nat.{ℕ, zero, suc, ◌+◌, ◌≤◌, ◌<◌}
use native.Mathlib.Omega.{arith}
use native.Mathlib.Decide.{dec_lt, ℕ_discrete}
use lib.Dec.{ltb, eqb}
use lib.ListN.{length, get_or, take, length-take}
use lib.Seq.{get_or-take, take_all}
use borrow.Author.Tests.{lt-ltb, le-ltb, eq-eqb, ne_eqb}
use Rattle.rules.proofs.Test.{case-of}
use Rattle.refusals.specs.declared.Refusal.{Refusal}
use Rattle.refusals.specs.declared.Refusal.TheVariants.{RowWords, NameWords, Pair, Row, Shape, SecondDefault, Depth, TooShort, Faulty, Choice}
use Rattle.refusals.specs.Returned.{returned}
use Rattle.bodyfile.specs.File.{word, rows, names, bytes, row_words_of, pair_words_of, name_bytes, bad_file}
use Rattle.report_lines.specs.Text.{refused_text}
use Rattle.report.specs.Text.{body_text, marks_text}
use Rattle.bodyfile.specs.Limits.{said, bad_start, count_refusal}
use Rattle.bodyfile.proofs.Header.{start-passes, count-1, count-2, count-0, within}
use Rattle.report.specs.Start.{start_text}
use Rattle.report.proofs.Counts.{counts-refused}

-- ---- the output
marks-bad : (f : List ℕ) → bad_file f ≡ true → refused_text 0 0 ≡ marks_text f
unfolding marks_text
marks-bad f e = rw (e, marks_text)

marks-body : (f : List ℕ) → bad_file f ≡ false → body_text (row_words_of f) (pair_words_of f) (name_bytes f) ≡ marks_text f
unfolding marks_text
marks-body f e = rw (e, marks_text)

abbrev by_counts : ℕ → ℕ → ℕ → ℕ
by_counts r n b = elim (eqb r 0 || ltb 2000 r) [ true ↦ 1 | false ↦ elim (ltb 500 n || ltb 8000 b) [ true ↦ 2 | false ↦ 0 ] ]

-- the first m bytes of f
module _ (f : List ℕ) (m : ℕ) (long : 12 ≤ m) where
  word_same : (i : ℕ) → i + 4 ≤ 12 → word (take m f) i ≡ word f i
  word_same i h = rw (
    get_or-take m f i 0 (omega arith),
    get_or-take m f (i + 1) 0 (omega arith),
    get_or-take m f (i + 2) 0 (omega arith),
    get_or-take m f (i + 3) 0 (omega arith),
  )

  rows_same : rows (take m f) ≡ rows f
  rows_same = word_same 0 (omega arith)

  names_same : names (take m f) ≡ names f
  names_same = word_same 4 (omega arith)

  bytes_same : bytes (take m f) ≡ bytes f
  bytes_same = word_same 8 (omega arith)

  short-same : ltb (length (take m f)) 12 ≡ ltb (length f) 12
  short-same = elim (dec_lt (length f) 12) [
    | yes h ↦ lt-ltb (length (take m f)) 12 (omega (arith, length-take m f)) ∙ sym (lt-ltb (length f) 12 h)
    | no h ↦ le-ltb (length (take m f)) 12 (omega (arith, length-take m f)) ∙ sym (le-ltb (length f) 12 (omega arith))
  ]

  said_same : said (take m f) ≡ said f
  said_same = omega (arith, rows_same, names_same, bytes_same)

  start-same : bad_start (take m f) (length f) ≡ bad_file f
  unfolding bad_start bad_file
  start-same =
      ap (λ (t : Bool). t || not (eqb (length f) (said (take m f)))) short-same
      ∙ ap (λ (k : ℕ). ltb (length f) 12 || not (eqb (length f) k)) said_same

  counts_same : count_refusal (take m f) ≡ count_refusal f
  unfolding count_refusal
  counts_same =
      ap (λ (r : ℕ). by_counts r (names (take m f)) (bytes (take m f))) rows_same
      ∙ ap (λ (n : ℕ). by_counts (rows f) n (bytes (take m f))) names_same
      ∙ ap (by_counts (rows f) (names f)) bytes_same

counts-most : (f : List ℕ) → count_refusal f ≤ 2
counts-most f = case-of (eqb (rows f) 0 || ltb 2000 (rows f))
    (λ t. omega (arith, count-1 f t))
    (λ t. case-of (ltb 500 (names f) || ltb 8000 (bytes f)) (λ u. omega (arith, count-2 f t u)) (λ u. omega (arith, count-0 f t u)))

-- ---- the output from what was read, by the code's tests
module _ (start : List ℕ) (n : ℕ) where
  pub text-bad : bad_start start n ≡ true → refused_text 0 0 ≡ start_text start n
  unfolding start_text
  text-bad t = rw (t, start_text)

  module _ (t : bad_start start n ≡ false) where
    pub text-counts : (k : ℕ) → k ≡ count_refusal start → (k ≡ 0 → ⊥) → refused_text k 0 ≡ start_text start n
    unfolding start_text
    text-counts zero e z = absurd (z refl)
    text-counts (suc k) e z = rw (t, ← e, start_text)

    -- a refusal by the counts has no index
    pub text-refusal : (r : Refusal) → (returned r).0 ≡ count_refusal start → refused_text (returned r).0 (returned r).1 ≡ start_text start n
    text-refusal RowWords e = text-counts 1 e (λ z. omega arith)
    text-refusal NameWords e = text-counts 2 e (λ z. omega arith)
    text-refusal (Pair i) e = absurd (omega (arith, counts-most start))
    text-refusal (Row i) e = absurd (omega (arith, counts-most start))
    text-refusal (Shape i) e = absurd (omega (arith, counts-most start))
    text-refusal (SecondDefault i) e = absurd (omega (arith, counts-most start))
    text-refusal (Depth i) e = absurd (omega (arith, counts-most start))
    text-refusal TooShort e = absurd (omega (arith, counts-most start))
    text-refusal Faulty e = absurd (omega (arith, counts-most start))
    text-refusal (Choice i) e = absurd (omega (arith, counts-most start))

    module _ (c : 0 ≡ count_refusal start) where
      pub text-part : (length start ≡ n → ⊥) → refused_text 0 0 ≡ start_text start n
      unfolding start_text
      text-part z = rw (t, ← c, ne_eqb (length start) n z, start_text)

      pub text-whole : length start ≡ n → body_text (row_words_of start) (pair_words_of start) (name_bytes start) ≡ start_text start n
      unfolding start_text
      text-whole z = rw (t, ← c, eq-eqb (length start) n z, start_text)

-- ---- of a file: its first 52,012 bytes or more, and its length
module _ (f : List ℕ) (m : ℕ) (all : 52012 ≤ m) where
  long : 12 ≤ m
  long = omega arith

  module _ (good : bad_file f ≡ false) where
    passes : bad_start (take m f) (length f) ≡ false
    passes = start-same f m long ∙ good

    length-said : length f ≡ said f
    length-said = (start-passes (take m f) (length f) passes).1 ∙ said_same f m long

    prints-counts : (count_refusal (take m f) ≡ 0 → ⊥) → start_text (take m f) (length f) ≡ marks_text f
    prints-counts z =
        sym (text-counts (take m f) (length f) passes (count_refusal (take m f)) refl z)
        ∙ counts-refused f (count_refusal (take m f)) length-said (counts_same f m long) z
        ∙ marks-body f good

    module _ (c : count_refusal (take m f) ≡ 0) where
      most : length f ≤ m
      most =
          let x = within f (sym (counts_same f m long) ∙ c) in
          omega (arith, length-said, x.most_rows, x.most_names, x.most_bytes)

      whole : take m f ≡ f
      whole = take_all m f most

      prints-whole : start_text (take m f) (length f) ≡ marks_text f
      prints-whole =
          sym (text-whole (take m f) (length f) passes (sym c) (ap length whole))
          ∙ ap (λ (x : List ℕ). body_text (row_words_of x) (pair_words_of x) (name_bytes x)) whole
          ∙ marks-body f good

  -- they give what `marks` prints for the file
  pub of-whole : start_text (take m f) (length f) ≡ marks_text f
  of-whole = case-of (bad_file f)
      (λ t. sym (text-bad (take m f) (length f) (start-same f m long ∙ t)) ∙ marks-bad f t)
      (λ t. elim (ℕ_discrete (count_refusal (take m f)) 0) [ yes c ↦ prints-whole t c | no z ↦ prints-counts t z ])

-- ---- an input that isn't counted to its end: no header says a length of 2^37 or more, so whatever it is, the answer is 0
module _ (start : List ℕ) (bytes_small : (i : ℕ) → get_or start i 0 < 256) where
  word_small : (i : ℕ) → word start i < 4294967296
  word_small i = omega (arith, bytes_small i, bytes_small (i + 1), bytes_small (i + 2), bytes_small (i + 3))

  said-small : said start < 137438953472
  said-small = omega (arith, word_small 0, word_small 4, word_small 8)

  pub uncounted-refused : (n : ℕ) → 137438953472 ≤ n → start_text start n ≡ refused_text 0 0
  unfolding bad_start
  uncounted-refused n h =
      let z : eqb n (said start) ≡ false = ne_eqb n (said start) (λ e. omega (arith, said-small)) in
      sym (text-bad start n (case-of (ltb (length start) 12) (λ t. rw (t, bad_start)) (λ t. rw (t, z, bad_start))))
