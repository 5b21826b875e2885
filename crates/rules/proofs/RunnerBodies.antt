-- Routes on small bodies. Eight bodies have an empty sheet, verdict yes and good placing, and a whole route is given of each, so the route law is not empty.
-- Then, for each premise of the route law, a body that lacks only that one and a route of it that ends in a state which is not safe.
-- Each value is computed.
-- Assumes nothing.
use mathlib.Core.Path.{◌≡◌, refl}
use mathlib.Core.Bool.{Bool, true, false, ◌&&◌}
use mathlib.Core.Logic.{inl, inr}
use mathlib.Core.List.{List, [], ◌∷◌, ◌++◌}
use mathlib.Core.Option.{Option, none, some}
use Prim.Native.Nat.{ℕ, ◌<◌}
use lib.Dec.{ltb, lit<}
use lib.ListN.{get_or}
use borrow.Author.Tests.{ltb-true}
use Rattle.rules.specs.Refusals.{refusal}
use Rattle.rules.specs.Labels.{Fault, fault, sheet, bindings}
use Rattle.rules.specs.Placing.{placing}
use Rattle.rules.specs.Verdict.{verdict}
use Rattle.rules.specs.Runner.{State, at, stopped, brace, choices, step, Walk, done, go, Route}
use Rattle.rules.specs.Law.{Safe}
use Rattle.rules.specs.Bodies.{pairs, bytes, body2, body7, body9, body10, body12, break_from_switch, goto_and_back, fall_into_default, fall_in_type_switch}
use Rattle.rules.specs.Bodies.{select_in_loop, past_switch, switch_goes_on}
use Rattle.rules.specs.Bodies.{continue_outer, empty_default, break_of_two, continue_of_two, empty_if, goto_nowhere, for_alone}
use Rattle.rules.proofs.Computed.{computed}
use Rattle.rules.proofs.Test.{clash, and-true}
use Rattle.rules.proofs.Steps.{OneWay, goto-binding}

-- the four answers about a body: refusal, sheet, verdict, placing
abbrev Answers : List ℕ → Option (ℕ × ℕ) → List Fault → Bool → Option ℕ → Type 0
Answers w r l v o =
    (refusal w pairs bytes ≡ r) × (sheet w pairs bytes ≡ l) × (verdict w pairs bytes ≡ v) × (placing w ≡ o)

-- well-formed with an empty sheet, verdict yes and good placing
abbrev Good : List ℕ → Type 0
Good w = Answers w none [] true none

-- ---- a walk by a list of choices
module _ (w : List ℕ) where
  -- each choice is open where it is made, and leads on
  abbrev lead_on : State → List ℕ → Bool
  lead_on s [] = true
  lead_on s (c ∷ cs) = ltb c (choices w pairs bytes s) && elim (step w pairs bytes s c) [ none ↦ false | some t ↦ lead_on t cs ]

  -- the states that they lead to
  abbrev along : State → List ℕ → List State
  along s [] = []
  along s (c ∷ cs) = elim (step w pairs bytes s c) [ none ↦ [] | some t ↦ t ∷ along t cs ]

  first_step : (s : State) (c : ℕ) (cs : List ℕ) (o : Option State) → step w pairs bytes s c ≡ o → c < choices w pairs bytes s
      → elim o [ none ↦ false | some t ↦ lead_on t cs ] ≡ true → ((t : State) → lead_on t cs ≡ true → Walk w pairs bytes t (along t cs))
      → Walk w pairs bytes s (elim o [ none ↦ [] | some t ↦ t ∷ along t cs ])
  first_step s c cs none f h e rest = absurd (clash (cc))
  first_step s c cs (some t) f h e rest = go c h f (rest t e)

  pub by-choices : (s : State) (cs : List ℕ) → lead_on s cs ≡ true → Walk w pairs bytes s (along s cs)
  by-choices s [] e = done
  by-choices s (c ∷ cs) e =
      let x = and-true (ltb c (choices w pairs bytes s)) (elim (step w pairs bytes s c) [ none ↦ false | some t ↦ lead_on t cs ]) e in
      first_step s c cs (step w pairs bytes s c) refl (ltb-true c (choices w pairs bytes s) x.0) x.1 (λ t. by-choices t cs)

-- ---- routes of good bodies

-- L: for { switch { case: break L; default: return } }; return: out of the switch and the loop by the break, and on to the Return after the loop
pub break-route : Good break_from_switch × Route break_from_switch pairs bytes (at 0 ∷ at 1 ∷ at 2 ∷ at 3 ∷ at 4 ∷ at 6 ∷ at 7 ∷ at 10 ∷ stopped ∷ [])
unfolding computed
break-route = ((refl, refl, refl, refl), (refl, by-choices break_from_switch (at 0) (0 ∷ 0 ∷ 0 ∷ 0 ∷ 0 ∷ 0 ∷ 0 ∷ 0 ∷ []) refl))

-- the same body, by the default
pub return-route : Good break_from_switch × Route break_from_switch pairs bytes (at 0 ∷ at 1 ∷ at 2 ∷ at 3 ∷ at 4 ∷ at 8 ∷ at 9 ∷ stopped ∷ [])
unfolding computed
return-route = ((refl, refl, refl, refl), (refl, by-choices break_from_switch (at 0) (0 ∷ 0 ∷ 0 ∷ 0 ∷ 1 ∷ 0 ∷ 0 ∷ []) refl))

-- goto L; M: return; L: goto M: forward, back, and stopped
pub goto-route : Good goto_and_back × Route goto_and_back pairs bytes (at 0 ∷ at 1 ∷ at 4 ∷ at 5 ∷ at 2 ∷ at 3 ∷ stopped ∷ [])
unfolding computed
goto-route = ((refl, refl, refl, refl), (refl, by-choices goto_and_back (at 0) (0 ∷ 0 ∷ 0 ∷ 0 ∷ 0 ∷ 0 ∷ []) refl))

-- switch { case: fallthrough; default: return }: through the fallthrough into the next Case
pub fallthrough-route : Good fall_into_default × Route fall_into_default pairs bytes (at 0 ∷ at 1 ∷ at 3 ∷ at 4 ∷ at 5 ∷ at 6 ∷ stopped ∷ [])
unfolding computed
fallthrough-route = ((refl, refl, refl, refl), (refl, by-choices fall_into_default (at 0) (0 ∷ 0 ∷ 0 ∷ 0 ∷ 0 ∷ 0 ∷ []) refl))

-- in a type switch the runner goes there, too, though the fallthrough is badly placed
pub type-switch-route : Answers fall_in_type_switch none [] true (some 4)
    × Route fall_in_type_switch pairs bytes (at 0 ∷ at 1 ∷ at 3 ∷ at 4 ∷ at 5 ∷ at 6 ∷ stopped ∷ [])
unfolding computed
type-switch-route = ((refl, refl, refl, refl), (refl, by-choices fall_in_type_switch (at 0) (0 ∷ 0 ∷ 0 ∷ 0 ∷ 0 ∷ 0 ∷ []) refl))

-- for { select { comm: return; comm: } }: twice round the loop by the Comm without items, then by the first Comm to the Return
pub select-route : Good select_in_loop × Route select_in_loop pairs bytes
    (at 0 ∷ at 1 ∷ at 2 ∷ at 3 ∷ at 7 ∷ at 1 ∷ at 2 ∷ at 3 ∷ at 7 ∷ at 1 ∷ at 2 ∷ at 3 ∷ at 5 ∷ at 6 ∷ stopped ∷ [])
unfolding computed
select-route = ((refl, refl, refl, refl), (refl, by-choices select_in_loop (at 0) (0 ∷ 0 ∷ 0 ∷ 1 ∷ 0 ∷ 0 ∷ 0 ∷ 1 ∷ 0 ∷ 0 ∷ 0 ∷ 0 ∷ 0 ∷ 0 ∷ []) refl))

-- switch { case: default: return }; return: past the Case without items, after the switch and not into the next Case
pub past-switch-route : Good past_switch × Route past_switch pairs bytes (at 0 ∷ at 1 ∷ at 3 ∷ at 6 ∷ stopped ∷ [])
unfolding computed
past-switch-route = ((refl, refl, refl, refl), (refl, by-choices past_switch (at 0) (0 ∷ 0 ∷ 0 ∷ 0 ∷ []) refl))

-- switch { case: return }; return: without a default the switch goes on by the choice past its Cases
pub goes-on-route : Good switch_goes_on × Route switch_goes_on pairs bytes (at 0 ∷ at 1 ∷ at 5 ∷ stopped ∷ [])
unfolding computed
goes-on-route = ((refl, refl, refl, refl), (refl, by-choices switch_goes_on (at 0) (0 ∷ 1 ∷ 0 ∷ []) refl))

-- L: for { for c { continue L } }: by the continue to the outer loop again, then past the inner loop to it
pub continue-route : Good continue_outer
    × Route continue_outer pairs bytes (at 0 ∷ at 1 ∷ at 2 ∷ at 3 ∷ at 4 ∷ at 5 ∷ at 6 ∷ at 2 ∷ at 3 ∷ at 4 ∷ at 2 ∷ [])
unfolding computed
continue-route = ((refl, refl, refl, refl), (refl, by-choices continue_outer (at 0) (0 ∷ 0 ∷ 0 ∷ 0 ∷ 1 ∷ 0 ∷ 0 ∷ 0 ∷ 0 ∷ 0 ∷ []) refl))

-- select { comm: return; default: }; return: by the default, which has no items, after the Select
pub default-route : Good empty_default × Route empty_default pairs bytes (at 0 ∷ at 1 ∷ at 5 ∷ at 6 ∷ stopped ∷ [])
unfolding computed
default-route = ((refl, refl, refl, refl), (refl, by-choices empty_default (at 0) (0 ∷ 1 ∷ 0 ∷ 0 ∷ []) refl))

-- ---- a name that is declared twice

-- { L: return }; goto L; L: return: the goto goes to the second label, which it binds to, and not to the declared one
pub goto-binds : (step body9 pairs bytes (at 4) 0 ≡ some (at 5)) × (get_or (bindings body9 pairs bytes) 4 0 ≡ 6)
unfolding computed
goto-binds = (refl, refl)

-- goto L; { L: return }: the goto binds to no label, and is stuck
pub goto-unbound : (choices body7 pairs bytes (at 1) ≡ 1) × (step body7 pairs bytes (at 1) 0 ≡ none)
unfolding computed
goto-unbound = (refl, refl)

-- L: for { L: for { break L } }: the break leaves the inner loop, and so goes round the outer one; a continue goes to the inner one
pub innermost-left : (step break_of_two pairs bytes (at 7) 0 ≡ some (at 2)) × (step continue_of_two pairs bytes (at 7) 0 ≡ some (at 5))
unfolding computed
innermost-left = (refl, refl)

-- ---- L: for {}; for { break L }: the break is stuck, since the statement with that label has ended
pub ended_stuck : (choices body2 pairs bytes (at 6) ≡ 1) × (step body2 pairs bytes (at 6) 0 ≡ none)
unfolding computed
ended_stuck = (refl, refl)

-- ---- each premise of the route law is needed

pub brace-unsafe : (w : List ℕ) → Safe w pairs bytes brace → ⊥
brace-unsafe w s = s.inside refl

-- a row with a choice that leads nowhere
pub stuck-unsafe : (w : List ℕ) (r : ℕ) → 0 < choices w pairs bytes (at r) → step w pairs bytes (at r) 0 ≡ none → Safe w pairs bytes (at r) → ⊥
stuck-unsafe w r h e s = elim s.goes_on [
  | inl z ↦ absurd (clash (cc))
  | inr (k, f) ↦ let (t, z) = f 0 h in absurd (clash (cc))
]

-- the route by l comes to the closing brace, or to the row r, which is stuck
abbrev AtBrace : List ℕ → List State → Type 0
AtBrace w l = Route w pairs bytes (l ++ brace ∷ []) × (Safe w pairs bytes brace → ⊥)

abbrev StuckAt : List ℕ → List State → ℕ → Type 0
StuckAt w l r = Route w pairs bytes (l ++ at r ∷ []) × (Safe w pairs bytes (at r) → ⊥)

-- verdict yes: no items
pub verdict-needed : Answers body10 none [] false none × AtBrace body10 (at 0 ∷ [])
unfolding computed
verdict-needed = ((refl, refl, refl, refl), ((refl, by-choices body10 (at 0) (0 ∷ []) refl), brace-unsafe body10))

-- and if c {}, by the body and past it
pub verdict-needed-for-if : Answers empty_if none [] false none × AtBrace empty_if (at 0 ∷ at 1 ∷ at 2 ∷ [])
unfolding computed
verdict-needed-for-if = ((refl, refl, refl, refl), ((refl, by-choices empty_if (at 0) (0 ∷ 1 ∷ 0 ∷ []) refl), brace-unsafe empty_if))

-- an empty sheet: goto L
pub sheet-needed : Answers goto_nowhere none (fault goto_nowhere 8 1 ∷ []) true none × StuckAt goto_nowhere (at 0 ∷ []) 1
unfolding computed
sheet-needed = ((refl, refl, refl, refl), ((refl, by-choices goto_nowhere (at 0) (0 ∷ []) refl), stuck-unsafe goto_nowhere 1 (lit< tt) refl))

-- good placing: switch { default: fallthrough }
pub placing-needed : Answers body12 none [] true (some 4) × StuckAt body12 (at 0 ∷ at 1 ∷ at 3 ∷ []) 4
unfolding computed
placing-needed = ((refl, refl, refl, refl), ((refl, by-choices body12 (at 0) (0 ∷ 0 ∷ 0 ∷ []) refl), stuck-unsafe body12 4 (lit< tt) refl))

-- well-formed: a For without its Block
pub well-formed-needed : Answers for_alone (some (5, 0)) [] true none × AtBrace for_alone (at 0 ∷ at 1 ∷ [])
unfolding computed
well-formed-needed = ((refl, refl, refl, refl), ((refl, by-choices for_alone (at 0) (0 ∷ 0 ∷ []) refl), brace-unsafe for_alone))

-- ---- where a goto goes: to the row that its binding word names, and nowhere where the word is 0
goto-bound : OneWay goto_and_back pairs bytes 1 (some (at 4)) × OneWay goto_nowhere pairs bytes 1 none
unfolding computed
goto-bound = (goto-binding goto_and_back pairs bytes 1 refl, goto-binding goto_nowhere pairs bytes 1 refl)
