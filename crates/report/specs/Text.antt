-- Document 01, "Program `marks`": what it prints, as bytes, for the file of a body.
-- Assumes nothing.
use Rattle.std.specs.Prelude.{true, false, List, ◌++◌, ℕ}
use Rattle.std.proofs.Math.Option.{none, some}
use Rattle.rules.specs.Refusals.{refusal}
use Rattle.rules.specs.Labels.{sheet, bindings}
use Rattle.rules.specs.Placing.{placing}
use Rattle.rules.specs.Verdict.{verdict}
use Rattle.bodyfile.specs.File.{row_words_of, pair_words_of, name_bytes, bad_file}
use Rattle.report_lines.specs.Text.{refused_text, sheet_text, binds_text, placed_text, verdict_text}

-- of the body with these row words, pair words and name bytes
unfoldable pub body_text : List ℕ → List ℕ → List ℕ → List ℕ
body_text w p b = elim (refusal w p b) [
  | some r ↦ refused_text r.0 r.1
  | none ↦ sheet_text (sheet w p b) ++ binds_text (bindings w p b) ++ placed_text (placing w) ++ verdict_text (verdict w p b)
]

-- of the file f
unfoldable pub marks_text : List ℕ → List ℕ
marks_text f = elim (bad_file f) [ true ↦ refused_text 0 0 | false ↦ body_text (row_words_of f) (pair_words_of f) (name_bytes f) ]
