-- A refused body is answered with its refusal, with both as they were lent; of a well-formed one `marks_of` answers.
-- Assumes nothing.
use Rattle.std.proofs.lemmas.Result.{err_from_is_err_and}
use Rattle.marking.proofs.Together.{refusal-marked}
use Rattle.marking.proofs.mark.Goals as goal

pub returns-in_err-new-clause-answer : goal.returns-in_err-new-clause-answer
returns-in_err-new-clause-answer c =
    let p = err_from_is_err_and c.from_residual.result c.from_residual.ensures.1 in
    rw (p.1, p.2) (refusal-marked _ _ _ _ _ _ c.in_err-new.ensures.answer).0

pub returns-in_err-new-clause-sheet : goal.returns-in_err-new-clause-sheet
returns-in_err-new-clause-sheet c = (refusal-marked _ _ _ _ _ _ c.in_err-new.ensures.answer).1.0

pub returns-in_err-new-clause-bindings : goal.returns-in_err-new-clause-bindings
returns-in_err-new-clause-bindings c = (refusal-marked _ _ _ _ _ _ c.in_err-new.ensures.answer).1.1
