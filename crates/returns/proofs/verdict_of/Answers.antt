-- A refused body is answered with its refusal. A well-formed one has the facts of `Body`, so the statement rule holds of row 0, a Block without a label.
-- Assumes nothing.
use mathlib.Core.Path.{◌≡◌, sym, ◌∙◌, ap}
use mathlib.Core.Bool.{Bool}
use mathlib.Core.List.{List}
use mathlib.Core.Option.{none, some}
use Prim.Native.Nat.{ℕ}
use Rattle.std.proofs.Common.{Result, Err}
use Rattle.std.proofs.lemmas.Result.{err_from_is_err_and}
use Rattle.rules.specs.Refusals.{refusal}
use Rattle.rules.specs.Calls.{answered, verdict_call}
use Rattle.rules.proofs.Terminating.{verdict-is}
use Rattle.refusals.specs.declared.Refusal.{Refusal}
use Rattle.refusals.specs.Returned.{returned, given}
use Rattle.breaks.proofs.Ranges.{label-of-first}
use Rattle.body.proofs.Facts.{facts_of}
use Rattle.returns.specs.Search.{is_terminating_body}
use Rattle.returns.proofs.verdict_of.Goals as goal

module _ (w p b : List ℕ) where
  refusing : {x : Result Bool Refusal} (r : Refusal) → x ≡ Err r → some (returned r) ≡ refusal w p b → given x ≡ verdict_call w p b
  unfolding verdict_call
  refusing r q e = rw (q, ← e, verdict_call)

  answering : none ≡ refusal w p b → {t : Bool} → t ≡ is_terminating_body w p b 0 → answered t ≡ verdict_call w p b
  unfolding verdict_call is_terminating_body
  answering e f = rw (← e, verdict_call) (ap answered (f ∙ sym (verdict-is w p b)))

pub returns-in_err-body : goal.returns-in_err-body
returns-in_err-body c =
    let p = err_from_is_err_and c.from_residual.result c.from_residual.ensures.1 in
    refusing _ _ _ _ (rw p.2 at p.1) c.in_err-body.ensures.answer

pub is_terminating-requires : goal.is_terminating-requires
is_terminating-requires c =
    let f = facts_of c.in_ok-body.body in
    (f.some_rows, rw f.root_class, sym (label-of-first _))

pub returns : goal.returns
returns c =
    let (rows, pairs, bytes) = c.in_ok-body.ensures.lent in
    answering _ _ _ c.in_ok-body.ensures.answer (rw (rows, pairs, bytes) at c.is_terminating.ensures)
