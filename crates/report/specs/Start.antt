-- The output, from what was read of a file: its first bytes, and its length.
-- Assumes nothing.
use Rattle.std.specs.Prelude.{true, false, List, ℕ, zero, suc, eqb, length}
use Rattle.bodyfile.specs.File.{row_words_of, pair_words_of, name_bytes}
use Rattle.bodyfile.specs.Limits.{bad_start, count_refusal}
use Rattle.report_lines.specs.Text.{refused_text}
use Rattle.report.specs.Text.{body_text}

-- Refusal 0 where the header is missing or says another length; then the refusals of the counts, which need no more than the header; then 0 where the
-- first bytes aren't the whole file; else the output for the body. Of the first 52,012 bytes of a file and its length this is what `marks` prints for the
-- file (`of-whole`).
unfoldable pub start_text : List ℕ → ℕ → List ℕ
start_text start total = elim (bad_start start total) [
  | true ↦ refused_text 0 0
  | false ↦ elim (count_refusal start) [
    | suc k ↦ refused_text (suc k) 0
    | zero ↦ elim (eqb (length start) total) [ false ↦ refused_text 0 0 | true ↦ body_text (row_words_of start) (pair_words_of start) (name_bytes start) ]
  ]
]
