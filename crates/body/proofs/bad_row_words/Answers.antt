-- The three tests of the code are the three parts of the definition, in its order.
-- Assumes nothing.
use borrow.Author.Tests.{eq-eqb, ne_eqb}
use Rattle.rules.specs.Refusals.{bad_row_words}
use Rattle.body.proofs.bad_row_words.Goals as goal

pub returns-then-rows-eq0 : goal.returns-then-rows-eq0
unfolding bad_row_words
returns-then-rows-eq0 c = rw (eq-eqb _ 0 c.if-rows-eq0.true, bad_row_words)

pub returns-then-rows-ne0 : goal.returns-then-rows-ne0
unfolding bad_row_words
returns-then-rows-ne0 c = rw (ne_eqb _ 0 c.if-rows-eq0.false, ne_eqb _ 0 c.if-rows-ne0.true, bad_row_words)

pub returns : goal.returns
unfolding bad_row_words
returns c = rw (ne_eqb _ 0 c.if-rows-eq0.false, eq-eqb _ 0 c.if-rows-ne0.false, bad_row_words)
