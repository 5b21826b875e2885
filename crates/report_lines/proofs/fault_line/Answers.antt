-- Four words, one behind the other, are the sheet's line.
-- Assumes nothing.
use Rattle.report_lines.proofs.Parts.{fault-put}
use Rattle.report_lines.proofs.fault_line.Goals as goal

pub returns-clause-text : goal.returns-clause-text
returns-clause-text c = fault-put _ _ c.word_and-code.ensures.text c.word_and-position.ensures.text c.word_and-name.ensures.text c.word_and.ensures.text
