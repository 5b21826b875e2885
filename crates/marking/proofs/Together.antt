-- On a well-formed body the placing and verdict calls refuse nothing, so that the three answers stand together where the label call answers.
-- Assumes nothing.
use mathlib.Core.Path.{◌≡◌, sym, ◌∙◌, ap}
use mathlib.Core.Bool.{Bool}
use mathlib.Core.List.{List}
use mathlib.Core.Option.{Option, some}
use Prim.Native.Nat.{ℕ}
use Rattle.rules.specs.Refusals.{refusal, WellFormed}
use Rattle.rules.specs.Placing.{placing}
use Rattle.rules.specs.Verdict.{verdict}
use Rattle.rules.specs.Calls.{Answer, refused, answered, label_call, placing_call, verdict_call}
use Rattle.rules.proofs.Terminating.{verdict-is}
use Rattle.returns.specs.Search.{is_terminating_body}
use Rattle.label.proofs.CallRows.{call-refused}
use Rattle.marking.specs.Marks.{together, marks_call}

-- what the call answers, and the sheet and the bindings as it leaves them
abbrev pub Marked : (w p b s t : List ℕ) → Answer (ℕ × Option ℕ × Bool) → (s' t' : List ℕ) → Type 0
Marked w p b s t a s' t' = (a ≡ marks_call w p b s t) × ((s' ≡ (label_call w p b s t).sheet_words) × (t' ≡ (label_call w p b s t).binding_words))

module _ (w p b s t : List ℕ) where
  pub marks-refused : {n i : ℕ} → refused n i ≡ (label_call w p b s t).answer → refused n i ≡ marks_call w p b s t
  unfolding marks_call
  marks-refused e = ap (λ (a : Answer ℕ). together a (placing_call w p b) (verdict_call w p b)) e

  pub refusal-marked : (r : ℕ × ℕ) → some r ≡ refusal w p b → Marked w p b s t (refused r.0 r.1) s t
  refusal-marked r e = let c = call-refused w p b s t r e in (marks-refused c.0, c.1)

  module _ (wf : WellFormed w p b) where
    placing-answers : placing_call w p b ≡ answered (placing w)
    unfolding placing_call
    placing-answers = rw (wf, placing_call)

    verdict-answers : verdict_call w p b ≡ answered (verdict w p b)
    unfolding verdict_call
    verdict-answers = rw (wf, verdict_call)

    pub marks-answered : {n : ℕ} {o : Option ℕ} {v : Bool} → answered n ≡ (label_call w p b s t).answer → o ≡ placing w → v ≡ is_terminating_body w p b 0
        → answered (n, o, v) ≡ marks_call w p b s t
    unfolding marks_call is_terminating_body
    marks-answered {n} {o} {v} e f g =
        let h : v ≡ verdict w p b = g ∙ sym (verdict-is w p b) in
        rw (f, h, marks_call, ← e, placing-answers, verdict-answers)
