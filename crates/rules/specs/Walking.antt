-- Document 02, U2: a walk of the runner by given choices, up to a limit of steps. proofs/Walking.antt proves the statements at the end.
-- Assumes nothing.
use Rattle.std.specs.Prelude.{◌≡◌, Bool, true, false, ◌&&◌, ◌||◌, ◌≢◌, List, [], ◌∷◌, ◌++◌, ℕ, zero, suc, ◌≤◌, ◌<◌, ltb, length, get_or, take}
use Rattle.std.proofs.Math.Option.{none, some}
use Rattle.rules.specs.Rows.{row_count}
use Rattle.rules.specs.Class.{case_block, comm_block, if, if_else, switch, type_switch, select, for_cond, one_of, class}
use Rattle.rules.specs.Refusals.{WellFormed, refusal}
use Rattle.rules.specs.Labels.{is_some, sheet}
use Rattle.rules.specs.Placing.{placing}
use Rattle.rules.specs.Runner.{State, at, stopped, brace, clause_count, choices, step, Walk, done, go, Route}
use Rattle.rules.specs.Calls.{Answer, refused, answered}
use Rattle.rules.specs.Law.{Good}

-- ---- places as one word: 0 stopped, 1 the closing brace, 2 + a row
abbrev pub place_of : ℕ → State
place_of n = elim n [ zero ↦ stopped | suc m ↦ elim m [ zero ↦ brace | suc r ↦ at r ] ]

abbrev pub place_word : State → ℕ
place_word s = elim s [ at r ↦ suc (suc r) | stopped ↦ 0 | brace ↦ 1 ]

-- the place reached, the steps made and the choices used
pub record Walked : Type 0 where
  pub place : State
  pub steps : ℕ
  pub used : ℕ

abbrev pub walked : State → ℕ → ℕ → Walked
walked s m k = record { place = s; steps = m; used = k }

module _ (w : List ℕ) where
  -- a row where a choice is taken: If, For with condition, Range, a switch, a Select; an empty Select takes none
  unfoldable pub is_fork : ℕ → Bool
  is_fork r = one_of (if ∷ if_else ∷ for_cond ∷ switch ∷ type_switch ∷ []) (class w r) || (one_of (select ∷ []) (class w r) && ltb 0 (clause_count w r))

  abbrev pub forks : State → Bool
  forks s = elim s [ at r ↦ is_fork r | stopped ↦ false | brace ↦ false ]

module _ (w p b : List ℕ) where
  -- ---- the walk

  -- from s on, with n steps left of the limit, m made and k choices used: it ends at the limit, which is looked at first, at a stop or the closing brace,
  -- which have no step, or at a fork with no choices left; a choice out of range is refused when it is met
  unfoldable pub walk_on : List ℕ → ℕ → State → ℕ → ℕ → Answer Walked
  walk_on cs zero s m k = answered (walked s m k)
  walk_on cs (suc n) s m k = elim (forks w s) [
    | false ↦ elim (step w p b s 0) [ none ↦ answered (walked s m k) | some t ↦ walk_on cs n t (suc m) k ]
    | true ↦ elim (ltb k (length cs)) [
      | false ↦ answered (walked s m k)
      | true ↦ elim (ltb (get_or cs k 0) (choices w p b s)) [
        | false ↦ refused 9 k
        | true ↦ elim (step w p b s (get_or cs k 0)) [ none ↦ answered (walked s m k) | some t ↦ walk_on cs n t (suc m) (suc k) ]
      ]
    ]
  ]

  -- 8: sheet not empty or a row badly placed
  unfoldable pub is_faulty : Bool
  is_faulty = elim (sheet w p b) [ [] ↦ is_some (placing w) | f ∷ fs ↦ true ]

  -- the walk from row 0 by the choices cs, of n steps at most
  unfoldable pub walk_call : List ℕ → ℕ → Answer Walked
  walk_call cs n = elim (refusal w p b) [
    | some r ↦ refused r.0 r.1
    | none ↦ elim is_faulty [ true ↦ refused 8 0 | false ↦ walk_on cs n (at 0) 0 0 ]
  ]

  -- ---- walks as routes

  -- the choices that the runner makes at its forks, in order
  unfoldable pub fork_choices : {s : State} {l : List State} → Walk w p b s l → List ℕ
  fork_choices done = []
  fork_choices (go {s = s} c h e r) = elim (forks w s) [ true ↦ c ∷ fork_choices r | false ↦ fork_choices r ]

-- where the runner keeps: a row of the body but no Block of a switch or Select, a stop, the closing brace
abbrev pub Inside : List ℕ → State → Type 0
Inside w s = elim s [
  | at r ↦ (r < row_count w) × (one_of (case_block ∷ comm_block ∷ []) (class w r) ≡ false)
  | stopped ↦ Unit {0}
  | brace ↦ Unit {0}
]

-- the last of the states from s on
abbrev pub last_state : State → List State → State
last_state s [] = s
last_state s (t ∷ l) = last_state t l

-- a well-formed body with an empty sheet and good placing
pub record Faultless (w p b : List ℕ) : Type 0 where
  pub well_formed : WellFormed w p b
  pub no_fault : sheet w p b ≡ []
  pub placed : placing w ≡ none

module _ (w p b : List ℕ) where
  -- l is a route from row 0 on of n steps to s, whose choices at the forks are the first k of cs, in order
  pub record RouteTo (cs : List ℕ) (s : State) (n k : ℕ) (l : List State) : Type 0 where
    pub route : Route w p b (at 0 ∷ l)
    pub reaches : last_state (at 0) l ≡ s
    pub step_count : length l ≡ n
    pub enough : k ≤ length cs
    pub chosen : fork_choices w p b route.1 ≡ take k cs

  -- a walk is a route: its place is the last state, its steps are the runner's, and the choices that it uses are those made at the forks
  abbrev pub WalkIsRoute : Type 0
  WalkIsRoute = (cs : List ℕ) (n : ℕ) (x : Walked) → walk_call w p b cs n ≡ answered x
      → (l : List State) × RouteTo cs x.place x.steps x.used l

  -- and every route is a walk by the choices that it makes; choices past them are never looked at
  abbrev pub RouteIsWalk : Type 0
  RouteIsWalk = Faultless w p b → (l : List State) (r : Route w p b (at 0 ∷ l)) (ds : List ℕ)
      → walk_call w p b (fork_choices w p b r.1 ++ ds) (length l) ≡ answered (walked (last_state (at 0) l) (length l) (length (fork_choices w p b r.1)))

  -- the steps made never exceed the limit
  abbrev pub StepsWithin : Type 0
  StepsWithin = (cs : List ℕ) (n : ℕ) (x : Walked) → walk_call w p b cs n ≡ answered x → x.steps ≤ n

  -- the walk ends at a stop, the closing brace, the limit, or a fork with no choices left
  pub data Ended (cs : List ℕ) (n : ℕ) (x : Walked) : Type 0 where
    at_stop : x.place ≡ stopped → Ended cs n x
    at_brace : x.place ≡ brace → Ended cs n x
    at_limit : x.steps ≡ n → Ended cs n x
    no_choice_left : forks w x.place ≡ true → x.used ≡ length cs → Ended cs n x

  abbrev pub WalkEnds : Type 0
  WalkEnds = (cs : List ℕ) (n : ℕ) (x : Walked) → walk_call w p b cs n ≡ answered x → Ended cs n x

  -- 9: the choice i is met at a fork, below the limit, and out of range there
  pub record MetOutOfRange (cs : List ℕ) (n i : ℕ) : Type 0 where
    pub fork : State
    pub steps : ℕ
    pub states : List State
    pub so_far : RouteTo cs fork steps i states
    pub below_limit : steps < n
    pub met : forks w fork ≡ true
    pub given : i < length cs
    pub out_of_range : choices w p b fork ≤ get_or cs i 0

  abbrev pub OutOfRange : Type 0
  OutOfRange = (cs : List ℕ) (n i : ℕ) → walk_call w p b cs n ≡ refused 9 i → MetOutOfRange cs n i

  -- without a fault the runner has a next state at every row, whichever way it chooses, verdict or no
  abbrev pub NextState : Type 0
  NextState = Faultless w p b → (r c : ℕ) → r < row_count w → c < choices w p b (at r) → (t : State) × (step w p b (at r) c ≡ some t)

  -- and at each row of its route some choice is open
  abbrev pub SomeChoice : Type 0
  SomeChoice = WellFormed w p b → (l k : List State) (r : ℕ) → Route w p b (l ++ at r ∷ k) → (r < row_count w) × (0 < choices w p b (at r))

  -- with verdict yes the place is never the closing brace
  abbrev pub WalkInside : Type 0
  WalkInside = Good w p b → (cs : List ℕ) (n : ℕ) (x : Walked) → walk_call w p b cs n ≡ answered x → x.place ≢ brace
