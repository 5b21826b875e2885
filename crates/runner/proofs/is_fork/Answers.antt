-- In each arm the kind is known, and Forks.antt has the test by the row's words.
-- Assumes nothing.
use mathlib.Core.Path.{sym, ◌∙◌, ap}
use mathlib.Core.Bool.{or-false}
use lib.Dec.{ltb}
use borrow.Author.Rules.{rules}
use Rattle.body.proofs.Facts.{facts_of}
use Rattle.runner.proofs.Forks.{fork-arm, fork-rest}
use Rattle.runner.proofs.is_fork.Goals as goal

pub returns-in-13 : goal.returns-in-13
returns-in-13 c = fork-arm (facts_of c.args.body) _ c.requires 13 (sym c.in-13.is ∙ c.kind.ensures)

pub returns-in-15 : goal.returns-in-15
returns-in-15 c = fork-arm (facts_of c.args.body) _ c.requires 15 (sym c.in-15.is ∙ c.kind.ensures)

pub returns-in-16 : goal.returns-in-16
returns-in-16 c = fork-arm (facts_of c.args.body) _ c.requires 16 (sym c.in-16.is ∙ c.kind.ensures)

pub returns-in-18 : goal.returns-in-18
returns-in-18 c = ap (ltb 2) c.size.ensures ∙ fork-arm (facts_of c.args.body) _ c.requires 18 (sym c.in-18.is ∙ c.kind.ensures)

pub returns-in-19 : goal.returns-in-19
returns-in-19 c = c.is_marked.ensures ∙ sym (or-false _) ∙ fork-arm (facts_of c.args.body) _ c.requires 19 (sym c.in-19.is ∙ c.kind.ensures)

pub returns-in-20 : goal.returns-in-20
returns-in-20 c = fork-arm (facts_of c.args.body) _ c.requires 20 (sym c.in-20.is ∙ c.kind.ensures)

pub returns-in_default : goal.returns-in_default
returns-in_default c = fork-rest (facts_of c.args.body) _ c.requires c.kind.ensures (search rules)
