-- A refused body is answered with its refusal, before anything else is looked for.
-- Assumes nothing.
use mathlib.Core.Path.{◌≡◌, sym}
use mathlib.Core.List.{List}
use mathlib.Core.Option.{some}
use Prim.Native.Nat.{ℕ}
use Rattle.std.proofs.Common.{Result, Err}
use Rattle.std.proofs.lemmas.Result.{err_from_is_err_and}
use Rattle.rules.specs.Refusals.{refusal}
use Rattle.rules.specs.Walking.{walk_call}
use Rattle.rules.proofs.WalkSteps.{call-refused}
use Rattle.refusals.specs.declared.Refusal.{Refusal}
use Rattle.refusals.specs.Returned.{returned}
use Rattle.runner.specs.declared.WalkEnd.{WalkEnd}
use Rattle.runner.specs.Given.{given}
use Rattle.runner.proofs.walk.Goals as goal

refusing : (w p b cs : List ℕ) (n : ℕ) {x : Result WalkEnd Refusal} (r : Refusal) → x ≡ Err r → some (returned r) ≡ refusal w p b
    → given x ≡ walk_call w p b cs n
refusing w p b cs n r q e = rw q (sym (call-refused w p b cs n (returned r) (sym e)))

pub returns-in_err-new : goal.returns-in_err-new
returns-in_err-new c =
    let p = err_from_is_err_and c.from_residual.result c.from_residual.ensures.1 in
    refusing _ _ _ _ _ _ (rw p.2 at p.1) c.in_err-new.ensures.answer
