-- The rows that are bound are those whose word isn't 0.
-- Assumes nothing.
use Rattle.std.proofs.Common.{◌≡◌, ◌∙◌, not, eqb, count_by, rules}
use Rattle.report_lines.proofs.Parts.{bound-count}
use Rattle.report_lines.proofs.bound_count.Goals as goal

pub returns : goal.returns
returns c =
    let counted : c.count.result ≡ count_by (λ x. not (eqb x 0)) c.args.bindings.now = search rules in
    counted ∙ bound-count _
