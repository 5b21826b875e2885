-- The tests of the code are the parts of `bad_row`, in its order.
-- Assumes nothing.
use mathlib.Core.Path.{sym, ◌∙◌}
use Rattle.row_checks.proofs.RowWords.{bad-detail, bad-position, by_name}
use Rattle.row_checks.proofs.words_allowed.Goals as goal

pub returns-then-not-detail_allowed : goal.returns-then-not-detail_allowed
returns-then-not-detail_allowed c p many =
    bad-detail _ p _ _ _ (c.from.ensures ∙ c.requires.1) c.detail-detail.ensures (sym c.detail_allowed.ensures ∙ c.if-not-detail_allowed.true)

pub returns-then-position-eq0 : goal.returns-then-position-eq0
returns-then-position-eq0 c p many =
    bad-position _ p _ _ _ (c.from.ensures ∙ c.requires.1) c.detail-detail.ensures (sym c.detail_allowed.ensures ∙ c.if-not-detail_allowed.false) _
    c.position.ensures c.if-position-eq0.true

pub name_allowed-requires : goal.name_allowed-requires
name_allowed-requires c = rw (← c.from.ensures) (sym c.detail_allowed.ensures ∙ c.if-not-detail_allowed.false)

pub returns : goal.returns
returns c p many =
    let a = sym c.detail_allowed.ensures ∙ c.if-not-detail_allowed.false in
    c.name_allowed.ensures
    ∙ by_name _ p _ _ _ c.requires.1 c.detail-detail.ensures (rw (← c.from.ensures) a) _ c.position.ensures
    c.if-position-eq0.false _ c.name-name.ensures _ many
