-- `bad_name_words` meets its contract: the definition's three tests, in its order.
-- Assumes nothing.
use mathlib.Core.Path.{sym}
use Rattle.rules.proofs.Pairs.{odd-words, many-pairs, many-bytes}
use Rattle.names.proofs.bad_name_words.Goals as goal

pub returns-then-pairs-ne0 : goal.returns-then-pairs-ne0
returns-then-pairs-ne0 c = sym (odd-words _ _ c.if-pairs-ne0.true)

pub returns-then-pairs-gt500 : goal.returns-then-pairs-gt500
returns-then-pairs-gt500 c = sym (many-pairs _ _ c.if-pairs-ne0.false c.if-pairs-gt500.true)

pub returns : goal.returns
returns c = sym (many-bytes _ _ c.if-pairs-ne0.false c.if-pairs-gt500.false)
