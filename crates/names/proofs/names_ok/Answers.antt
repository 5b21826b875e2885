-- `names_ok` meets its contract: the definition's two tests, in its order.
-- Assumes nothing.
use Rattle.std.proofs.Common.{sym, ◌∙◌}
use Rattle.rules.proofs.Pairs.{bad-words}
use Rattle.names.proofs.Passed.{searched}
use Rattle.names.proofs.names_ok.Goals as goal

pub returns-then-bad_name_words : goal.returns-then-bad_name_words
returns-then-bad_name_words c = sym (bad-words _ _ (sym c.bad_name_words.ensures ∙ c.if-bad_name_words.true))

pub returns : goal.returns
returns c =
    searched _ _ _ _ (sym c.bad_name_words.ensures ∙ c.if-bad_name_words.false) c.first_bad_pair.ensures c.is_none.ensures
