-- Walks on small bodies, by document 02's sentences. Each value is computed.
-- Assumes nothing.
use mathlib.Core.Path.{◌≡◌, refl}
use mathlib.Core.List.{List, [], ◌∷◌}
use Prim.Native.Nat.{ℕ}
use Rattle.rules.specs.Runner.{State, at, stopped, brace}
use Rattle.rules.specs.Calls.{refused, answered}
use Rattle.rules.specs.Walking.{walked, walk_call}
use Rattle.rules.specs.Bodies.{pairs, bytes, body12, break_from_switch, switch_goes_on, continue_outer, select_in_loop, empty_if, goto_nowhere, for_alone}
use Rattle.rules.specs.Bodies.{empty_switch, empty_select, empty_for, goto_past_end}
use Rattle.rules.proofs.Computed.{computed}

-- the walk of the body w by the choices cs, of n steps at most, comes to s after m steps and uses k choices
abbrev Walks : List ℕ → List ℕ → ℕ → State → ℕ → ℕ → Type 0
Walks w cs n s m k = walk_call w pairs bytes cs n ≡ answered (walked s m k)

-- it is refused with that number and index
abbrev Refuses : List ℕ → List ℕ → ℕ → ℕ → ℕ → Type 0
Refuses w cs n c i = walk_call w pairs bytes cs n ≡ refused c i

-- if {}: 1 is the body, 0 the other way
pub at-if : Walks empty_if (1 ∷ []) 2 (at 2) 2 1 × Walks empty_if (0 ∷ []) 2 brace 2 1
unfolding computed
at-if = (refl, refl)

-- the limit is looked at first: the choice 9 is refused only where the If would take it
pub limit-first : Walks empty_if (9 ∷ []) 0 (at 0) 0 0 × Walks empty_if (9 ∷ []) 1 (at 1) 1 0 × Refuses empty_if (9 ∷ []) 2 9 0
unfolding computed
limit-first = (refl, refl, refl)

-- a fork with no choices left; a walk that has ended stands still whatever is left of choices and limit
pub ends : Walks empty_if [] 7 (at 1) 1 0 × Walks empty_if (0 ∷ 9 ∷ []) 7 brace 2 1
unfolding computed
ends = (refl, refl)

-- a switch: the clause from 0, and the number of clauses goes on where there is no default
pub at-switch : Walks switch_goes_on (0 ∷ []) 9 stopped 4 1 × Walks switch_goes_on (1 ∷ []) 9 stopped 3 1 × Refuses switch_goes_on (2 ∷ []) 9 9 0
unfolding computed
at-switch = (refl, refl, refl)

-- with a default going on is out of range; the index is the choice's, not the choice
pub at_default : Walks break_from_switch (0 ∷ []) 9 stopped 8 1 × Walks break_from_switch (1 ∷ []) 9 stopped 7 1 × Refuses break_from_switch (2 ∷ []) 9 9 0
unfolding computed
at_default = (refl, refl, refl)

-- a switch without clauses takes the choice 0, a Select without clauses takes none and stops, a For without a condition takes none
pub without-clauses : Walks empty_switch (0 ∷ []) 9 brace 2 1 × Walks empty_switch [] 9 (at 1) 1 0 × Refuses empty_switch (1 ∷ []) 9 9 0
    × Walks empty_select (5 ∷ []) 9 stopped 2 0 × Walks empty_for (5 ∷ []) 9 (at 1) 9 0
unfolding computed
without-clauses = (refl, refl, refl, refl, refl)

-- a Select in a loop, by the second Comm and then by the first; a later choice out of range has its own index
pub at-select : Walks select_in_loop (1 ∷ 0 ∷ []) 99 stopped 10 2 × Refuses select_in_loop (1 ∷ 1 ∷ 2 ∷ []) 99 9 2
unfolding computed
at-select = (refl, refl)

-- a For with condition, by its body to the continue, then past it
pub at-loop : Walks continue_outer (1 ∷ 0 ∷ []) 10 (at 2) 10 2
unfolding computed
at-loop = refl

-- a label fault, a row badly placed, and bodies that are refused before either is looked for, the second with a label fault
pub refusals : Refuses goto_nowhere (9 ∷ []) 9 8 0 × Refuses body12 [] 0 8 0 × Refuses for_alone [] 0 5 0 × Refuses goto_past_end [] 0 5 0
unfolding computed
refusals = (refl, refl, refl, refl)
