-- The cause that refuses the body is the refusal of the call, with both as they were lent; of a well-formed body `labels_of` answers.
-- Assumes nothing.
use Rattle.std.proofs.lemmas.Result.{err_from_is_err_and}
use Rattle.label.proofs.CallRows.{call-refused}
use Rattle.label.proofs.labels.Goals as goal

pub returns-in_err-new : goal.returns-in_err-new
returns-in_err-new c =
    let p = err_from_is_err_and c.from_residual.result c.from_residual.ensures.1 in
    let q = call-refused _ _ _ _ _ _ c.in_err-new.ensures.answer in
    record { answer = rw (p.1, p.2) q.0; sheet = q.1.0; bindings = q.1.1 }
