-- The walk begins at row 0 with nothing reported, bound or pending, and ends at the last row. What is pending then, and the labels that nothing used, complete
-- the sheet.
-- Assumes nothing.
use Rattle.body.proofs.Facts.{facts_of}
use Rattle.label_walk.proofs.ContextRows.{contexts-start}
use Rattle.label_body.proofs.BodyRows.{first_tables, walking_start, walked-answered}
use Rattle.label_body.proofs.walk_body.Goals as goal

pub rows_branches-walked-requires-clause-tables : goal.rows_branches-walked-requires-clause-tables
rows_branches-walked-requires-clause-tables c =
    let (pairs, bytes) = c.names.ensures in
    first_tables (facts_of c.args.body) (rw (pairs, bytes) at c.canon_table.ensures) c.declared_table.ensures c.requires.lent.lists_room

pub rows_branches-walked-requires-clause-walking : goal.rows_branches-walked-requires-clause-walking
rows_branches-walked-requires-clause-walking c = walking_start _ _ _ c.requires.lent

pub rows_branches-walked-requires-clause-contexts : goal.rows_branches-walked-requires-clause-contexts
rows_branches-walked-requires-clause-contexts c = contexts-start c.requires.lent.contexts_room c.requires.lent.contexts_zero

pub returns : goal.returns
returns c =
    walked-answered (facts_of c.args.body) _ _ _ _ _ _ _ _ _ _ _ c.rows_branches-walked.ensures c.unresolved-more.ensures.sheet c.unused.ensures
