-- A well-formed body has 2,000 rows at most.
-- Assumes nothing.
use native.Mathlib.Omega.{arith}
use Rattle.body.proofs.Facts.{facts_of}
use Rattle.faultless.proofs.is_faultless.Goals as goal

pub judged_with-requires : goal.judged_with-requires
judged_with-requires c = record { rows_in_bounds = (omega (arith, (facts_of c.args.body).most_rows), c.requires); size = omega arith }
