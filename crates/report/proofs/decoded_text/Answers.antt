-- The words of the file's rows and names are read into the first parts of the two slices, and the name bytes are the file's last part.
-- Assumes nothing.
use mathlib.Core.Path.{refl, ◌∙◌}
use native.Mathlib.Omega.{arith}
use Rattle.report.proofs.Decoded.{words-read, parts}
use Rattle.report.proofs.decoded_text.Goals as goal

pub returns-clause-text : goal.returns-clause-text
returns-clause-text c =
    c.body_text.ensures.text
    ∙ parts _ _ _ _ _ _ c.requires.said c.word.ensures c.word-2.ensures (words-read _ _ _ _ _ _ (omega arith) c.words.ensures) (words-read _ _ _ _ _ _ (omega arith) c.words-2.ensures) refl
