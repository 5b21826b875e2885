-- Neither cause 2 nor cause 3 applies to a well-formed body.
-- Assumes nothing.
use Rattle.rules.proofs.Facts.{body}
use Rattle.body.proofs.Body.names.Goals as goal

pub invariant_of-result : goal.invariant_of-result
invariant_of-result c = record { ok = (body _ _ _ c.args.self.well_formed).names }
