-- Where there is no name the part is empty; else the pair says where it starts and how long it is.
-- Assumes nothing.
use mathlib.Core.Path.{sym, ◌∙◌, ap}
use Rattle.exports.proofs.Telling.{first, second, told-refused, told-zero, told-past, told-pair}
use Rattle.exports.proofs.zesthull_name.Goals as goal

pub returns-then-not-names_ok-clause-length : goal.returns-then-not-names_ok-clause-length
returns-then-not-names_ok-clause-length c = ap second (sym (told-refused _ _ _ (sym c.names_ok.ensures ∙ c.if-not-names_ok.true)))

pub returns-then-not-names_ok-clause-offset : goal.returns-then-not-names_ok-clause-offset
returns-then-not-names_ok-clause-offset c = ap first (sym (told-refused _ _ _ (sym c.names_ok.ensures ∙ c.if-not-names_ok.true)))

pub returns-then-number-eq0-clause-length : goal.returns-then-number-eq0-clause-length
returns-then-number-eq0-clause-length c = ap second (sym (told-zero _ _ _ c.if-number-eq0.true))

pub returns-then-number-eq0-clause-offset : goal.returns-then-number-eq0-clause-offset
returns-then-number-eq0-clause-offset c = ap first (sym (told-zero _ _ _ c.if-number-eq0.true))

pub returns-then-pairs-number-clause-length : goal.returns-then-pairs-number-clause-length
returns-then-pairs-number-clause-length c = ap second (sym (told-past _ _ _ c.if-pairs-number.true))

pub returns-then-pairs-number-clause-offset : goal.returns-then-pairs-number-clause-offset
returns-then-pairs-number-clause-offset c = ap first (sym (told-past _ _ _ c.if-pairs-number.true))

pub returns-clause-length : goal.returns-clause-length
returns-clause-length c =
    ap second (sym (told-pair _ _ _ (sym c.names_ok.ensures ∙ c.if-not-names_ok.false) c.if-number-eq0.false c.if-pairs-number.false))

pub returns-clause-offset : goal.returns-clause-offset
returns-clause-offset c =
    ap first (sym (told-pair _ _ _ (sym c.names_ok.ensures ∙ c.if-not-names_ok.false) c.if-number-eq0.false c.if-pairs-number.false))
