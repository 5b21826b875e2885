-- The marks of a body: what the label, placing and verdict calls answer, in one.
-- Assumes nothing.
use Rattle.std.specs.Prelude.{Bool, List, ℕ, Result, Ok, Err}
use Rattle.std.proofs.Math.Option.{Option}
use Rattle.rules.specs.Calls.{Answer, refused, answered, label_call, placing_call, verdict_call}
use Rattle.rows.specs.Found.{row_found}
use Rattle.refusals.specs.declared.Refusal.{Refusal}
use Rattle.refusals.specs.Returned.{returned}
use Rattle.marking.specs.declared.Marks.{Marks}

-- the three answers, or the first refusal of them
abbrev pub together : Answer ℕ → Answer (Option ℕ) → Answer Bool → Answer (ℕ × Option ℕ × Bool)
together (refused n i) x y = refused n i
together (answered count) (refused n i) y = refused n i
together (answered count) (answered row) (refused n i) = refused n i
together (answered count) (answered row) (answered verdict) = answered (count, row, verdict)

unfoldable pub marks_call : List ℕ → List ℕ → List ℕ → List ℕ → List ℕ → Answer (ℕ × Option ℕ × Bool)
marks_call w p b s t = together (label_call w p b s t).answer (placing_call w p b) (verdict_call w p b)

abbrev pub given : Result Marks Refusal → Answer (ℕ × Option ℕ × Bool)
given (Ok m) = answered (m.faults, row_found m.placed, m.terminating)
given (Err r) = refused (returned r).0 (returned r).1
