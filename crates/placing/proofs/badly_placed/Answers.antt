-- The tests of the code are the parts of `badly_placed`: only a Branch can be badly placed, and only one with no name.
-- Assumes nothing.
use mathlib.Core.Path.{sym, ◌∙◌, ap}
use mathlib.Core.Bool.{not}
use borrow.Author.Tests.{eqb-true, eqb-false}
use Rattle.rules.proofs.Test.{clash}
use Rattle.rows.specs.declared.kinds.Kind.TheVariants.{Branch}
use Rattle.rows.proofs.Numbers.{eq-false}
use Rattle.placing.proofs.Branches.{other-not-bad, named-not-bad, not-well-bad}
use Rattle.placing.proofs.badly_placed.Goals as goal
use Rattle.placing.proofs.badly_placed.Goals.{then-eq, else-eq}

pub returns-then-name_word-eq0 : goal.returns-then-name_word-eq0
returns-then-name_word-eq0 c = elim c.if-eq.branch [
  | then-eq w ↦ ap not c.well_placed.ensures ∙ not-well-bad _ _ _ w.name_word.ensures (eqb-true _ 0 (sym w.value-is ∙ c.if-name_word-eq0.true))
  | else-eq w ↦ let e = w.value-is in let t = c.if-name_word-eq0.true in absurd (clash (cc))
]

pub returns-else-name_word-eq0 : goal.returns-else-name_word-eq0
returns-else-name_word-eq0 c = c.if-name_word-eq0.false ∙ elim c.if-eq.branch [
  | then-eq w ↦ named-not-bad _ _ _ w.name_word.ensures (eqb-false _ 0 (sym w.value-is ∙ c.if-name_word-eq0.false))
  | else-eq w ↦ other-not-bad _ _ (c.requires.formed.0.2.details c.args.row.0 c.requires.row_bound) (eq-false _ Branch c.kind_at.ensures w.if-eq.ensures)
]
