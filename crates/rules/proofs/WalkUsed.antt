-- The laws of the walk applied to bodies, so that none holds of nothing: a labelled break out of a switch in a loop, a Select in a loop, a labelled
-- continue, and if {}, whose verdict is no. What they say is written out here without the names of specs/Walking.antt for it: a weaker statement there
-- doesn't give it.
-- Assumes nothing.
use mathlib.Core.Path.{◌≡◌, refl}
use mathlib.Core.Bool.{true}
use mathlib.Core.Logic.{◌⊎◌, inl, inr, ◌≢◌}
use mathlib.Core.List.{List, [], ◌∷◌, ◌++◌}
use mathlib.Core.Option.{some}
use Prim.Native.Nat.{ℕ, ◌≤◌, ◌<◌}
use lib.Dec.{lit<}
use lib.ListN.{length, get_or, take}
use Rattle.rules.specs.Rows.{row_count}
use Rattle.rules.specs.Runner.{State, at, stopped, brace, choices, step, done, go, Route}
use Rattle.rules.specs.Calls.{refused, answered}
use Rattle.rules.specs.Law.{Good}
use Rattle.rules.specs.Walking.{walked, forks, walk_call, fork_choices, last_state, Faultless, Ended, at_stop, at_brace, at_limit, no_choice_left}
use Rattle.rules.specs.Bodies.{pairs, bytes, break_from_switch, continue_outer, select_in_loop, empty_if}
use Rattle.rules.proofs.Computed.{computed}
use Rattle.rules.proofs.Walking.{next-state, some-choice, walk-is-route, steps-within, walk_ends, out_of_range, route-is-walk, walk_inside}

-- ---- what is said of a body
module _ (w : List ℕ) where
  -- the walk: to s by m steps and the first k of cs
  abbrev Walks : List ℕ → ℕ → State → ℕ → ℕ → Type 0
  Walks cs n s m k = walk_call w pairs bytes cs n ≡ answered (walked s m k)

  -- a route of m steps to s whose choices at the forks are the first k of cs, which has as many
  abbrev Routes : List ℕ → State → ℕ → ℕ → Type 0
  Routes cs s m k =
      (l : List State) × (r : Route w pairs bytes (at 0 ∷ l))
      × (last_state (at 0) l ≡ s) × (length l ≡ m) × (fork_choices w pairs bytes r.1 ≡ take k cs) × (k ≤ length cs)

  -- the walk is a route, within the limit, and ends at a stop, the brace, the limit or a fork without a choice left
  abbrev Walks-right : Type 0
  Walks-right = (cs : List ℕ) (n : ℕ) (s : State) (m k : ℕ) → Walks cs n s m k
      → Routes cs s m k × (m ≤ n) × ((s ≡ stopped) ⊎ ((s ≡ brace) ⊎ ((m ≡ n) ⊎ ((forks w s ≡ true) × (k ≡ length cs)))))

  -- every route is a walk, by the choices that it makes and whatever follows them
  abbrev Routes-right : Type 0
  Routes-right = (l : List State) (r : Route w pairs bytes (at 0 ∷ l)) (ds : List ℕ)
      → Walks (fork_choices w pairs bytes r.1 ++ ds) (length l) (last_state (at 0) l) (length l) (length (fork_choices w pairs bytes r.1))

  -- a refusal 9 has the index of a choice that is met below the limit, by those before it, and is out of range there
  abbrev Refuses-right : Type 0
  Refuses-right = (cs : List ℕ) (n i : ℕ) → walk_call w pairs bytes cs n ≡ refused 9 i
      → (s : State) × (m : ℕ) × Routes cs s m i × (m < n) × (forks w s ≡ true) × (i < length cs) × (choices w pairs bytes s ≤ get_or cs i 0)

  -- the runner is stuck at no row
  abbrev Never-stuck : Type 0
  Never-stuck = ((r c : ℕ) → r < row_count w → c < choices w pairs bytes (at r) → (t : State) × (step w pairs bytes (at r) c ≡ some t))
      × ((l k : List State) (r : ℕ) → Route w pairs bytes (l ++ at r ∷ k) → (r < row_count w) × (0 < choices w pairs bytes (at r)))

  abbrev Shown : Type 0
  Shown = Walks-right × Routes-right × Refuses-right × Never-stuck

ways-to-end : (w cs : List ℕ) (n : ℕ) (s : State) (m k : ℕ) → Ended w pairs bytes cs n (walked s m k)
    → (s ≡ stopped) ⊎ ((s ≡ brace) ⊎ ((m ≡ n) ⊎ ((forks w s ≡ true) × (k ≡ length cs))))
ways-to-end w cs n s m k (at_stop e) = inl e
ways-to-end w cs n s m k (at_brace e) = inr (inl e)
ways-to-end w cs n s m k (at_limit e) = inr (inr (inl e))
ways-to-end w cs n s m k (no_choice_left f e) = inr (inr (inr (f, e)))

shown : (w : List ℕ) → Faultless w pairs bytes → Shown w
shown w g = (
  λ cs n s m k e.
      let (l, r) = walk-is-route w pairs bytes cs n (walked s m k) e in (
        (l, r.route, r.reaches, r.step_count, r.chosen, r.enough),
        steps-within w pairs bytes cs n (walked s m k) e,
        ways-to-end w cs n s m k (walk_ends w pairs bytes cs n (walked s m k) e),
      ),
  route-is-walk w pairs bytes g,
  λ cs n i e.
      let x = out_of_range w pairs bytes cs n i e in
      let r = x.so_far in
      (x.fork, x.steps, (x.states, r.route, r.reaches, r.step_count, r.chosen, r.enough), x.below_limit, x.met, x.given, x.out_of_range),
  (next-state w pairs bytes g, some-choice w pairs bytes g.well_formed),
)

-- with verdict yes the place is never the closing brace
abbrev Never-at-brace : List ℕ → Type 0
Never-at-brace w = (cs : List ℕ) (n : ℕ) (s : State) (m k : ℕ) → Walks w cs n s m k → s ≢ brace

never-at-brace : (w : List ℕ) → Good w pairs bytes → Never-at-brace w
never-at-brace w g cs n s m k e = walk_inside w pairs bytes g cs n (walked s m k) e

-- ---- bodies
pub break-from-switch : Shown break_from_switch × Never-at-brace break_from_switch
unfolding computed
break-from-switch = (
  shown break_from_switch (record { well_formed = refl; no_fault = refl; placed = refl }),
  never-at-brace break_from_switch (record { well_formed = refl; no_fault = refl; yes = refl; placed = refl }),
)

pub select-in-loop : Shown select_in_loop × Never-at-brace select_in_loop
unfolding computed
select-in-loop = (
  shown select_in_loop (record { well_formed = refl; no_fault = refl; placed = refl }),
  never-at-brace select_in_loop (record { well_formed = refl; no_fault = refl; yes = refl; placed = refl }),
)

pub continue-outer : Shown continue_outer × Never-at-brace continue_outer
unfolding computed
continue-outer = (
  shown continue_outer (record { well_formed = refl; no_fault = refl; placed = refl }),
  never-at-brace continue_outer (record { well_formed = refl; no_fault = refl; yes = refl; placed = refl }),
)

-- if {}: the verdict is no, and the walk by 0 comes to the closing brace; the first premise is met by it, and by the walk by 9 the second
pub empty-if : Shown empty_if × Walks empty_if (0 ∷ []) 7 brace 2 1 × Routes empty_if (0 ∷ []) brace 2 1
    × ((s : State) × (m : ℕ) × Routes empty_if (9 ∷ []) s m 0 × (m < 7) × (forks empty_if s ≡ true) × (0 < 1) × (choices empty_if pairs bytes s ≤ 9))
unfolding computed
empty-if =
    let x = shown empty_if (record { well_formed = refl; no_fault = refl; placed = refl }) in
    (x, refl, (x.0 (0 ∷ []) 7 brace 2 1 refl).0, x.2 (9 ∷ []) 7 0 refl)

-- once round the loop of select_in_loop by the second Comm, a route of five steps: it is the walk by 1, and by 1 and 9
pub round-the-loop : Walks select_in_loop (1 ∷ 9 ∷ []) 5 (at 1) 5 1
unfolding computed
round-the-loop =
    (shown select_in_loop (record { well_formed = refl; no_fault = refl; placed = refl })).1 (at 1 ∷ at 2 ∷ at 3 ∷ at 7 ∷ at 1 ∷ [])
    (refl, go 0 (lit< tt) refl (go 0 (lit< tt) refl (go 0 (lit< tt) refl (go 1 (lit< tt) refl (go 0 (lit< tt) refl done))))) (9 ∷ [])
