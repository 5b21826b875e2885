-- The second half of the handbook's law: where all labelled branches are lawful, the others well placed and the verdict is yes,
-- every state of every route is safe.
-- Row 0 is such a state as a route comes to, and each step leads to another, which is a stop or has a next state whichever way it chooses.
-- Assumes nothing.
use mathlib.Core.Path.{◌≡◌, refl, sym, ◌∙◌}
use mathlib.Core.Bool.{true}
use mathlib.Core.Logic.{inl, inr}
use mathlib.Core.List.{List, [], ◌∷◌}
use mathlib.Core.Option.{none, some}
use Prim.Native.Nat.{ℕ, suc, ◌+◌, ◌<◌}
use native.Mathlib.Omega.{arith}
use Rattle.rules.specs.Rows.{size}
use Rattle.rules.specs.Class.{class}
use Rattle.rules.specs.Refusals.{WellFormed}
use Rattle.rules.specs.Body.{Body}
use Rattle.rules.specs.Placing.{placing}
use Rattle.rules.specs.Verdict.{verdict}
use Rattle.rules.specs.Runner.{State, at, choices, step, Walk, done, go, Route}
use Rattle.rules.specs.Law.{AllLawful, Safe, All, RouteLaw}
use Rattle.rules.proofs.Test.{clash}
use Rattle.rules.proofs.Facts as facts
use Rattle.rules.proofs.SheetLaw.{sheet-law}
use Rattle.rules.proofs.Terminating.{verdict-is}
use Rattle.rules.proofs.Ends.{Ends}
use Rattle.rules.proofs.Onward.{is_ordinary, ordinary-row}
use Rattle.rules.proofs.RouteSteps.{RouteState, halted, standing, moves}

module _ {w p b : List ℕ} (body : Body w p b) where
  module _ (ends : Ends w p b 0) (lawful : AllLawful w p b) (placed : placing w ≡ none) where
    state-safe : {s : State} → RouteState w s → Safe w p b s
    unfolding choices step
    state-safe halted = record { goes_on = inl refl; inside = λ e. clash (cc) }
    state-safe (standing r h) =
        let m = moves body ends r h lawful placed (class w r) refl in
        record { goes_on = inr (m.0, λ c n. let (t, e, g) = m.1 c n in (t, e)); inside = λ e. clash (cc) }

    next-state : {s t : State} (c : ℕ) → RouteState w s → c < choices w p b s → step w p b s c ≡ some t → RouteState w t
    unfolding choices step
    next-state c halted n e = absurd (omega arith)
    next-state {t = t} c (standing r h) n e =
        let (u, d, g) = (moves body ends r h lawful placed (class w r) refl).1 c n in
        let i : u ≡ t = cc in
        rw i at g

    walk-safe : {s : State} {k : List State} → Walk w p b s k → RouteState w s → All (Safe w p b) (s ∷ k)
    walk-safe done g = (state-safe g, tt)
    walk-safe (go c n e r) g = (state-safe g, walk-safe r (next-state c g n e))

    pub routes-safe-from : is_ordinary (class w 0) ≡ true → (k : List State) → Route w p b k → All (Safe w p b) k
    routes-safe-from t [] r = absurd r
    routes-safe-from t (s ∷ k) (e, r) = walk-safe r (rw e (standing 0 (ordinary-row 0 body.some_rows t)))

pub routes-safe : (w p b : List ℕ) → WellFormed w p b → AllLawful w p b → verdict w p b ≡ true → placing w ≡ none
    → (l : List State) → Route w p b l → All (Safe w p b) l
routes-safe w p b wf lawful v placed =
    let body = facts.body w p b wf in
    routes-safe-from body (suc (size w 0 + size w 0), sym (verdict-is w p b) ∙ v) lawful placed (rw body.root_class)

-- the second half of the handbook's law: an empty sheet has all labels and labelled branches lawful
pub route-law : (w p b : List ℕ) → RouteLaw w p b
route-law w p b wf empty v placed = routes-safe w p b wf ((sheet-law w p b wf).0 empty) v placed
