-- The handbook's law applied to bodies, so that neither half holds of nothing: a loop with a labelled break out of a switch, a goto forward and one back,
-- fallthrough, select. What it says of each is written out here, without the names of specs/Law.antt for it: a weaker statement there doesn't give it.
-- Assumes nothing.
use mathlib.Core.Path.{◌≡◌, refl}
use mathlib.Core.List.{List, [], ◌∷◌, ◌++◌}
use mathlib.Core.Option.{some}
use Prim.Native.Nat.{ℕ, ◌<◌}
use Rattle.rules.specs.Runner.{State, at, stopped, brace, choices, step, Route}
use Rattle.rules.specs.Law.{AllLawful, Good}
use Rattle.rules.specs.Bodies.{pairs, bytes, break_from_switch, goto_and_back, fall_into_default, select_in_loop}
use Rattle.rules.proofs.Computed.{computed}
use Rattle.rules.proofs.SheetLaw.{sheet-law}
use Rattle.rules.proofs.RouteEnds.{never-brace, never_stuck, stops-lawfully}
use Rattle.rules.proofs.RunnerBodies.{by-choices}

-- all labels and labelled branches are lawful; on every route the runner is never at the closing brace, has a next state at each row whichever way it chooses,
-- and where the route can't be made longer it has stopped
abbrev Lawful-and-safe : List ℕ → Type 0
Lawful-and-safe w = AllLawful w pairs bytes
    × ((l k : List State) → Route w pairs bytes (l ++ brace ∷ k) → ⊥)
    × ((l k : List State) (r : ℕ) → Route w pairs bytes (l ++ at r ∷ k) → 0 < choices w pairs bytes (at r))
    × ((l k : List State) (r c : ℕ) → Route w pairs bytes (l ++ at r ∷ k) → c < choices w pairs bytes (at r)
    → (t : State) × (step w pairs bytes (at r) c ≡ some t))
    × ((l : List State) (s : State) → Route w pairs bytes (l ++ s ∷ []) → ((t : State) → Route w pairs bytes (l ++ s ∷ t ∷ []) → ⊥) → s ≡ stopped)

lawful-and-safe : (w : List ℕ) → Good w pairs bytes → Lawful-and-safe w
lawful-and-safe w g = (
  (sheet-law w pairs bytes g.well_formed).0 g.no_fault,
  never-brace w pairs bytes g,
  λ l k r h. (never_stuck w pairs bytes g l k r h).0,
  λ l k r c h. (never_stuck w pairs bytes g l k r h).1 c,
  stops-lawfully w pairs bytes g,
)

pub break-from-switch : Lawful-and-safe break_from_switch
unfolding computed
break-from-switch = lawful-and-safe break_from_switch (record { well_formed = refl; no_fault = refl; yes = refl; placed = refl })

pub goto-and-back : Lawful-and-safe goto_and_back
unfolding computed
goto-and-back = lawful-and-safe goto_and_back (record { well_formed = refl; no_fault = refl; yes = refl; placed = refl })

pub fall-into-default : Lawful-and-safe fall_into_default
unfolding computed
fall-into-default = lawful-and-safe fall_into_default (record { well_formed = refl; no_fault = refl; yes = refl; placed = refl })

pub select-in-loop : Lawful-and-safe select_in_loop
unfolding computed
select-in-loop = lawful-and-safe select_in_loop (record { well_formed = refl; no_fault = refl; yes = refl; placed = refl })

-- the switch of L: for { switch { case: break L; default: return } }; return has two ways, and the law gives a next state by each of them
pub both_ways : (c : ℕ) → c < 2 → (t : State) × (step break_from_switch pairs bytes (at 4) c ≡ some t)
unfolding computed
both_ways c h = break-from-switch.3 (at 0 ∷ at 1 ∷ at 2 ∷ at 3 ∷ []) [] 4 c (refl, by-choices break_from_switch (at 0) (0 ∷ 0 ∷ 0 ∷ 0 ∷ []) refl) h
