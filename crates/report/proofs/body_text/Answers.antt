-- What the call answers is printed. The lent sheet has 8 words, and the lent bindings one, for each of 2,000 rows, so that the call doesn't refuse them.
-- Assumes nothing.
use mathlib.Core.Path.{◌∙◌}
use native.Mathlib.Omega.{arith}
use Rattle.report.proofs.Marked.{enough, refused-text, marked-text, marked-room}
use Rattle.report.proofs.body_text.Goals as goal

pub marked_text-requires-clause-faults : goal.marked_text-requires-clause-faults
marked_text-requires-clause-faults c =
    let m = c.in-Ok.ensures in
    marked-room _ _ _ _ _ (enough _ 16000 2000 (omega arith) (omega arith) (omega arith)) _ _ _ m.answer _ _ m.sheet m.bindings

pub returns-in-Ok-clause-text : goal.returns-in-Ok-clause-text
returns-in-Ok-clause-text c =
    let m = c.in-Ok.ensures in
    c.marked_text.ensures.text
    ∙ marked-text _ _ _ _ _ (enough _ 16000 2000 (omega arith) (omega arith) (omega arith)) _ _ _ m.answer _ _ m.sheet m.bindings

pub returns-in-Err-clause-text : goal.returns-in-Err-clause-text
returns-in-Err-clause-text c =
    rw (c.number.ensures, c.index.ensures) at c.refused_text.ensures.text
    ∙ refused-text _ _ _ _ _ (enough _ 16000 2000 (omega arith) (omega arith) (omega arith)) _ _ c.in-Err.ensures.answer
