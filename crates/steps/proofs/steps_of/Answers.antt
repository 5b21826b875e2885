-- What each pass leaves is what the next one is lent; the local tables have 2000 words, and a body has 2000 rows at most.
-- Assumes nothing.
use borrow.Author.Rules.{rules}
use Rattle.rules.proofs.Facts.{body}
use Rattle.steps.proofs.steps_of.Goals as goal

pub parents_of-requires : goal.parents_of-requires
parents_of-requires c = let b = body _ _ _ c.args.faultless.body.well_formed in ((_, _, b), b.most_rows)

pub afters_of-requires : goal.afters_of-requires
afters_of-requires c =
    let b = body _ _ _ c.args.faultless.body.well_formed in
    record { formed = ((_, _, b), c.parents_of.ensures); rows_in_bounds = (search rules, b.most_rows) }

pub destinations_of-requires : goal.destinations_of-requires
destinations_of-requires c =
    let b = body _ _ _ c.args.faultless.body.well_formed in
    record { parents = (c.parents_of.ensures, c.afters_of.ensures); rows_in_bounds = (search rules, search rules, b.most_rows) }

pub all_steps-requires-clause-tables : goal.all_steps-requires-clause-tables
all_steps-requires-clause-tables c =
    let b = body _ _ _ c.args.faultless.body.well_formed in
    let few = b.most_rows in record {
      body = b;
      afters_room = search rules;
      after_rows = c.afters_of.ensures;
      destinations_room = search rules;
      branch_rows = c.destinations_of.ensures;
    }
