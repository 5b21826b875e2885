-- Each way out is one of the definition's.
-- Assumes nothing.
use mathlib.Core.Path.{sym, ◌∙◌}
use native.Mathlib.Omega.{arith}
use Rattle.bodyfile.proofs.Header.{start-passes, within}
use Rattle.report.proofs.Files.{text-bad, text-refusal, text-part, text-whole}
use Rattle.report.proofs.report.Goals as goal

pub returns-then-bad_start-clause-text : goal.returns-then-bad_start-clause-text
returns-then-bad_start-clause-text c = c.refused_text.ensures.text ∙ text-bad _ _ (sym c.if-bad_start.ensures)

pub count_refusal-requires : goal.count_refusal-requires
count_refusal-requires c = (start-passes _ _ (sym c.if-bad_start.ensures)).0

pub returns-in-Some-clause-text : goal.returns-in-Some-clause-text
returns-in-Some-clause-text c =
    let t = text-refusal _ _ (sym c.if-bad_start.ensures) _ c.in-Some.ensures in cc

pub returns-then-file-length-clause-text : goal.returns-then-file-length-clause-text
returns-then-file-length-clause-text c =
    c.refused_text-then-file-length.ensures.text ∙ text-part _ _ (sym c.if-bad_start.ensures) c.in_default.ensures (λ e. omega arith)

pub file_text-requires-clause-counts : goal.file_text-requires-clause-counts
file_text-requires-clause-counts c = within _ (sym c.in_default.ensures)

pub file_text-requires-clause-said : goal.file_text-requires-clause-said
file_text-requires-clause-said c = c.if-file-length.false ∙ (start-passes _ _ (sym c.if-bad_start.ensures)).1

pub returns-clause-text : goal.returns-clause-text
returns-clause-text c = c.file_text.ensures.text ∙ text-whole _ _ (sym c.if-bad_start.ensures) c.in_default.ensures c.if-file-length.false
