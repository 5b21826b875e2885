-- The tables that `enclosing_of` leaves are those that the branches go by.
-- Assumes nothing.
use Rattle.destinations.proofs.Places.{formed}
use borrow.Author.Rules.{rules}
use Rattle.destinations.proofs.destinations_of.Goals as goal

pub enclosing_of-requires : goal.enclosing_of-requires
enclosing_of-requires c =
    let body = formed c.args.faultless.faultless in
    record { formed = ((_, _, body), c.requires.parents.0, c.requires.rows_in_bounds.0); rows_in_bounds = body.most_rows }

pub write_destinations-requires-clause-tables : goal.write_destinations-requires-clause-tables
write_destinations-requires-clause-tables c =
    let few = (formed c.args.faultless.faultless).most_rows in
    let around = c.enclosing_of.ensures in record {
      faultless = c.args.faultless.faultless;
      bound = c.args.faultless.bound;
      afters_room = c.requires.rows_in_bounds.1;
      after_rows = c.requires.parents.1;
      enclosing_room = search rules;
      breakable_rows = around.breakables;
      loop_rows = around.loops;
      case_rows = around.cases;
    }
