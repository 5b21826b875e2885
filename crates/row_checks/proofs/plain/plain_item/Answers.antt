-- The tests of the code are what the laws of the plain kinds ask for; a test that failed claims nothing.
-- Assumes nothing.
use mathlib.Core.Path.{◌≡◌, sym, ◌∙◌}
use native.Mathlib.Omega.{arith}
use borrow.Author.Tests.{not-true}
use Rattle.rules.specs.Rows.{kind}
use Rattle.rows.proofs.Numbers.{is-kind}
use Rattle.row_checks.proofs.Items.{plain_row, plain-words}
use Rattle.row_checks.proofs.plain.plain_item.Goals as goal

pub returns-in-Ok-Branch : goal.returns-in-Ok-Branch
returns-in-Ok-Branch c y p many =
    let k : kind c.args.rows.now c.args.row.0 ≡ 11 = sym c.kind.ensures ∙ is-kind c.in-Ok-Branch.ensures c.in-Ok-Branch.field-0-is in
    plain_row _ p _ (sym c.size.ensures ∙ c.if-size-ne1.false) (λ i. omega arith) (omega arith)
    (not-true _ (sym (c.words_allowed.ensures p many) ∙ y))

pub returns-then-is_nameless : goal.returns-then-is_nameless
returns-then-is_nameless c y p many =
    let k = c.in-Ok.ensures ∙ c.kind.ensures in
    let n = c.is_nameless.ensures c.if-is_nameless.true in
    plain-words _ p _ (sym c.size.ensures ∙ c.if-size-ne1.false) (λ i. n.1 (k ∙ i)) (omega arith) (c.nameless_allowed.ensures y)
