-- A refusal is handed on; what is not refused is well-formed, so it has the facts of `Body`.
-- Assumes nothing.
use mathlib.Core.Path.{◌≡◌, sym, ap}
use mathlib.Core.List.{List}
use mathlib.Core.Option.{Option as Found, none, some}
use Prim.Native.Nat.{ℕ}
use Rattle.std.proofs.Common.{Option, Result, Err}
use Rattle.std.proofs.lemmas.Result.{err_from_is_err_and}
use Rattle.rules.specs.Refusals.{refusal}
use Rattle.rules.specs.Placing.{placing}
use Rattle.rules.specs.Calls.{answered, placing_call}
use Rattle.rules.proofs.Facts.{body}
use Rattle.refusals.specs.declared.Refusal.{Refusal}
use Rattle.refusals.specs.Returned.{returned}
use Rattle.rows.specs.declared.RowNumber.{RowNumber}
use Rattle.placing.specs.Given.{given}
use Rattle.placing.proofs.placing_of.Goals as goal

module _ (w p b : List ℕ) where
  refusing : {x : Result (Option RowNumber) Refusal} (r : Refusal) → x ≡ Err r → some (returned r) ≡ refusal w p b → given x ≡ placing_call w p b
  unfolding placing_call
  refusing r q e = rw (q, ← e, placing_call)

  answering : none ≡ refusal w p b → {o : Found ℕ} → o ≡ placing w → answered o ≡ placing_call w p b
  unfolding placing_call
  answering e f = rw (← e, placing_call) (ap answered f)

pub returns-in_err-refusal_of : goal.returns-in_err-refusal_of
returns-in_err-refusal_of c =
    let p = err_from_is_err_and c.from_residual.result c.from_residual.ensures.1 in
    refusing _ _ _ _ (rw p.2 at p.1) c.in_err-refusal_of.ensures

pub placed-requires : goal.placed-requires
placed-requires c = (_, _, body _ _ _ (sym c.in_ok-refusal_of.ensures))

pub returns : goal.returns
returns c = answering _ _ _ c.in_ok-refusal_of.ensures c.placed.ensures
