-- The label call answers or refuses; then `placed` and `is_terminating` give what the other two calls answer.
-- Assumes nothing.
use mathlib.Core.Path.{sym}
use Rattle.std.proofs.lemmas.Result.{err_from_is_err_and}
use Rattle.rules.proofs.Facts.{body}
use Rattle.breaks.proofs.Ranges.{label-of-first}
use Rattle.marking.proofs.Together.{marks-refused, marks-answered}
use Rattle.marking.proofs.marks_of.Goals as goal

pub returns-in_err-faults-clause-answer : goal.returns-in_err-faults-clause-answer
returns-in_err-faults-clause-answer c =
    let p = err_from_is_err_and c.from_residual.result c.from_residual.ensures.1 in
    rw (p.1, p.2) (marks-refused _ _ _ _ _ c.in_err-faults.ensures.answer)

pub placed-requires : goal.placed-requires
placed-requires c = (_, _, body _ _ _ c.args.body.well_formed)

pub is_terminating-requires : goal.is_terminating-requires
is_terminating-requires c =
    let f = body _ _ _ c.args.body.well_formed in
    (f.some_rows, rw f.root_class, sym (label-of-first _))

pub returns-clause-answer : goal.returns-clause-answer
returns-clause-answer c =
    marks-answered _ _ _ _ _ c.args.body.well_formed c.in_ok-faults.ensures.answer c.placed.ensures c.is_terminating.ensures
