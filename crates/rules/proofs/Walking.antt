-- The walk by given choices is a route of the defined runner, and every route is a walk by the choices that it makes at its forks.
-- One induction on the limit says all that a walk has done: it has made its steps, used the choices from the first on, and stands where no step is, at
-- the limit, or at a fork without a choice left or with one that is out of range. A route from row 0 keeps inside the body, so that no step is left
-- only at a stop or the closing brace.
-- Assumes nothing.
use mathlib.Core.Path.{◌≡◌, refl, sym, ◌∙◌, ap, subst}
use mathlib.Core.Bool.{true, false}
use mathlib.Core.List.{List, [], ◌∷◌, ◌++◌}
use mathlib.Core.Option.{Option, none, some}
use Prim.Native.Nat.{ℕ, zero, suc, ◌+◌, ◌≤◌, ◌<◌}
use native.Mathlib.Omega.{arith}
use native.Mathlib.Decide.{dec_lt}
use lib.ListN.{length, get_or, take, drop, drop_of_length-le}
use lib.Seq.{drop-cons}
use Rattle.rules.specs.Body.{Body}
use Rattle.rules.specs.Runner.{State, at, stopped, brace, choices, step, Walk, done, go, Route}
use Rattle.rules.specs.Calls.{Answer, refused, answered}
use Rattle.rules.specs.Walking.{Walked, walked, forks, walk_on, walk_call, fork_choices, last_state, Faultless, WalkIsRoute, RouteIsWalk}
use Rattle.rules.specs.Walking.{StepsWithin, Ended, at_stop, at_brace, at_limit, no_choice_left, WalkEnds, MetOutOfRange, OutOfRange, NextState}
use Rattle.rules.specs.Walking.{SomeChoice, WalkInside, Inside}
use Rattle.rules.proofs.Test.{case-of, clash}
use Rattle.rules.proofs.Facts as facts
use Rattle.rules.proofs.SheetLaw.{sheet-law}
use Rattle.rules.proofs.RouteEnds.{never-brace}
use Rattle.rules.proofs.Inside.{root-inside, step-inside, some-open, each-leads}
use Rattle.rules.proofs.WalkSteps.{one_choice, step-open, walk-limit, walk-ended, walk-goes, walk-no-choice, walk_refused, walk-stuck, walk-chooses}
use Rattle.rules.proofs.WalkSteps.{chose, chose_none, call-walks, call-answered, call-out-of-range}

module _ (w p b cs : List ℕ) where
  -- ---- what a walk has done

  -- from s to t, by `steps` steps and the first `used` of the choices from k on
  record Gone (s : State) (k : ℕ) (t : State) (steps used : ℕ) : Type 0 where
    states : List State
    walk : Walk w p b s states
    comes : last_state s states ≡ t
    counts : length states ≡ steps
    enough : k + used ≤ length cs
    makes : fork_choices w p b walk ≡ take used (drop k cs)

  nothing-done : (s : State) (k : ℕ) → k ≤ length cs → Gone s k s 0 0
  unfolding fork_choices
  nothing-done s k h = record { states = []; walk = done; comes = refl; counts = refl; enough = omega arith; makes = refl }

  -- one step before it, where there is no fork, and by the choice k at a fork
  went : (s t q : State) (k steps used : ℕ) → forks w s ≡ false → step w p b s 0 ≡ some t → Gone t k q steps used → Gone s k q (suc steps) used
  went s t q k steps used f e g =
      let h = step-open w p b s t 0 e in
      record {
        states = t ∷ g.states;
        walk = go 0 h e g.walk;
        comes = g.comes;
        counts = ap suc g.counts;
        enough = g.enough;
        makes = chose_none w p b s 0 h e g.walk f ∙ g.makes;
      }

  chosen : (s t q : State) (k steps used : ℕ) → forks w s ≡ true → k < length cs → get_or cs k 0 < choices w p b s → step w p b s (get_or cs k 0) ≡ some t
      → Gone t (suc k) q steps used → Gone s k q (suc steps) (suc used)
  chosen s t q k steps used f l h e g = record {
    states = t ∷ g.states;
    walk = go (get_or cs k 0) h e g.walk;
    comes = g.comes;
    counts = ap suc g.counts;
    enough = omega (arith, g.enough);
    makes =
        chose w p b s (get_or cs k 0) h e g.walk f ∙ ap (λ (x : List ℕ). get_or cs k 0 ∷ x) g.makes
        ∙ sym (ap (take (suc used)) (drop-cons cs k 0 l));
  }

  -- why it stands at t: no step is there; the choice there leads nowhere; the limit n; no choice is left
  data Stands (n : ℕ) (t : State) (steps used : ℕ) : Type 0 where
    no_step : forks w t ≡ false → step w p b t 0 ≡ none → Stands n t steps used
    no_way : (c : ℕ) → c < choices w p b t → step w p b t c ≡ none → Stands n t steps used
    limit : steps ≡ n → Stands n t steps used
    spent : forks w t ≡ true → used ≡ length cs → Stands n t steps used

  -- all of it, of an answer a of the walk from s on with m steps made and k choices used
  data Outcome (n : ℕ) (s : State) (m k : ℕ) (a : Answer Walked) : Type 0 where
    ended : (t : State) (steps used : ℕ) → a ≡ answered (walked t (m + steps) (k + used)) → steps ≤ n → Gone s k t steps used
        → Stands n t steps (k + used) → Outcome n s m k a
    barred : (t : State) (steps used : ℕ) → a ≡ refused 9 (k + used) → steps < n → Gone s k t steps used → forks w t ≡ true → k + used < length cs
        → choices w p b t ≤ get_or cs (k + used) 0 → Outcome n s m k a

  add-zero : (x : ℕ) → x + 0 ≡ x
  add-zero x = omega arith

  here : (n : ℕ) (s : State) (m k : ℕ) (a : Answer Walked) → k ≤ length cs → a ≡ answered (walked s m k) → Stands n s 0 k → Outcome n s m k a
  here n s m k a h e x = ended s 0 0 (rw (add-zero m, add-zero k) e) (omega arith) (nothing-done s k h) (rw (add-zero k) x)

  one_more : (x y : ℕ) → suc x + y ≡ x + suc y
  one_more x y = omega arith

  later-limit : (n : ℕ) (t : State) (steps used : ℕ) → Stands n t steps used → Stands (suc n) t (suc steps) used
  later-limit n t steps used (no_step f e) = no_step f e
  later-limit n t steps used (no_way c h e) = no_way c h e
  later-limit n t steps used (limit e) = limit (ap suc e)
  later-limit n t steps used (spent f e) = spent f e

  after-going : (n : ℕ) (s t : State) (m k : ℕ) (a : Answer Walked) → forks w s ≡ false → step w p b s 0 ≡ some t
      → Outcome n t (suc m) k a → Outcome (suc n) s m k a
  after-going n s t m k a f e (ended q steps used i h g x) =
      ended q (suc steps) used (i ∙ ap (λ (y : ℕ). answered (walked q y (k + used))) (one_more m steps)) (omega arith)
      (went s t q k steps used f e g) (later-limit n q steps (k + used) x)
  after-going n s t m k a f e (barred q steps used i h g x y z) = barred q (suc steps) used i (omega arith) (went s t q k steps used f e g) x y z

  after-choosing : (n : ℕ) (s t : State) (m k : ℕ) (a : Answer Walked) → forks w s ≡ true → k < length cs → get_or cs k 0 < choices w p b s
      → step w p b s (get_or cs k 0) ≡ some t → Outcome n t (suc m) (suc k) a → Outcome (suc n) s m k a
  after-choosing n s t m k a f l c e (ended q steps used i h g x) =
      ended q (suc steps) (suc used) (i ∙ (λ j. answered (walked q (one_more m steps j) (one_more k used j)))) (omega arith)
      (chosen s t q k steps used f l c e g) (rw (← one_more k used) (later-limit n q steps (suc k + used) x))
  after-choosing n s t m k a f l c e (barred q steps used i h g x y z) =
      barred q (suc steps) (suc used) (i ∙ ap (refused 9) (one_more k used)) (omega arith) (chosen s t q k steps used f l c e g) x
      (omega arith) (rw (← one_more k used) z)

  -- one turn, with what is known of the rest
  module _ (n : ℕ) (rest : (t : State) (m k : ℕ) → k ≤ length cs → Outcome n t m k (walk_on w p b cs n t m k)) (s : State) (m k : ℕ) (l : k ≤ length cs) where
    abbrev Turn : Type 0
    Turn = Outcome (suc n) s m k (walk_on w p b cs (suc n) s m k)

    at_row : forks w s ≡ false → (o : Option State) → step w p b s 0 ≡ o → Turn
    at_row f none e = here (suc n) s m k _ l (walk-ended w p b cs s m k n f e) (no_step f e)
    at_row f (some t) e = rw (walk-goes w p b cs s m k n t f e) (after-going n s t m k _ f e (rest t (suc m) k l))

    by-choice : forks w s ≡ true → (h : k < length cs) → (c : get_or cs k 0 < choices w p b s) → (o : Option State) → step w p b s (get_or cs k 0) ≡ o → Turn
    by-choice f h c none e = here (suc n) s m k _ l (walk-stuck w p b cs s m k n f h c e) (no_way (get_or cs k 0) c e)
    by-choice f h c (some t) e = rw (walk-chooses w p b cs s m k n f h c t e) (after-choosing n s t m k _ f h c e (rest t (suc m) (suc k) h))

    at_fork : forks w s ≡ true → Turn
    at_fork f = elim (dec_lt k (length cs)) [
      | no z ↦ here (suc n) s m k _ l (walk-no-choice w p b cs s m k n f (omega arith)) (spent f (omega arith))
      | yes h ↦ elim (dec_lt (get_or cs k 0) (choices w p b s)) [
        | no z ↦ barred s 0 0 (rw (add-zero k) (walk_refused w p b cs s m k n f h (omega arith))) (omega arith) (nothing-done s k l) f
            (omega arith) (rw (add-zero k) (omega arith))
        | yes c ↦ by-choice f h c (step w p b s (get_or cs k 0)) refl
      ]
    ]

    turn : Turn
    turn = case-of (forks w s) at_fork (λ f. at_row f (step w p b s 0) refl)

  outcome : (n : ℕ) (s : State) (m k : ℕ) → k ≤ length cs → Outcome n s m k (walk_on w p b cs n s m k)
  outcome zero s m k l = here 0 s m k _ l (walk-limit w p b cs s m k) (limit refl)
  outcome (suc n) s m k l = turn n (outcome n) s m k l

-- ---- inside the body
module _ {w p b : List ℕ} (body : Body w p b) where
  last-inside : {s : State} {l : List State} → Walk w p b s l → Inside w s → Inside w (last_state s l)
  last-inside done i = i
  last-inside (go {s = s} {t = t} c h e r) i = last-inside r (step-inside body s t c i e)

  state-inside : (s t : State) (l k : List State) → Walk w p b s (l ++ t ∷ k) → Inside w s → Inside w t
  state-inside s t [] k (go c h e r) i = step-inside body s t c i e
  state-inside s t (q ∷ l) k (go c h e r) i = state-inside q t l k r (step-inside body s q c i e)

  route-inside : (t : State) (l k : List State) → Route w p b (l ++ t ∷ k) → Inside w t
  route-inside t [] k (e, r) = rw e (root-inside body)
  route-inside t (q ∷ l) k (e, r) = state-inside q t l k r (rw e (root-inside body))

zero-add : (x : ℕ) → 0 + x ≡ x
zero-add x = omega arith

-- the last state at the end of the list
last-split : (s : State) (l : List State) → (k : List State) × (s ∷ l ≡ k ++ last_state s l ∷ [])
last-split s [] = ([], refl)
last-split s (t ∷ l) = let (k, e) = last-split t l in (s ∷ k, ap (λ (x : List State). s ∷ x) e)

module _ (w p b : List ℕ) where
  pub next-state : NextState w p b
  next-state g r c i h = each-leads (facts.body w p b g.well_formed) ((sheet-law w p b g.well_formed).0 g.no_fault) g.placed r i c h

  pub some-choice : SomeChoice w p b
  some-choice wf l k r h = let i = route-inside (facts.body w p b wf) (at r) l k h in (i.0, some-open w p b r i.1)

  -- ---- a walk is a route
  module _ (cs : List ℕ) (n : ℕ) where
    record Summary (x : Walked) : Type 0 where
      sound : Faultless w p b
      gone : Gone w p b cs (at 0) 0 x.place x.steps x.used
      within : x.steps ≤ n
      stands : Stands w p b cs n x.place x.steps x.used

    summary : (x : Walked) → walk_call w p b cs n ≡ answered x → Summary x
    summary x e = let (g, i) = call-answered w p b cs n x e in of-outcome g i (outcome w p b cs n (at 0) 0 0 (omega arith))
      where
        of-outcome : Faultless w p b → walk_on w p b cs n (at 0) 0 0 ≡ answered x → Outcome w p b cs n (at 0) 0 0 (walk_on w p b cs n (at 0) 0 0) → Summary x
        of-outcome g i (ended t steps used j h gone s) =
            let y : Stands w p b cs n t steps used = rw (zero-add used) at s in
            let v : walk_on w p b cs n (at 0) 0 0 ≡ answered (walked t steps used) = rw (zero-add steps, zero-add used) at j in
            let z : x ≡ walked t steps used = cc in
            rw z (record { sound = g; gone = gone; within = h; stands = y })
        of-outcome g i (barred t steps used j h gone f y l) = absurd (clash (cc))

  pub walk-is-route : WalkIsRoute w p b
  walk-is-route cs n x e =
      let g = (summary cs n x e).gone in
      (g.states, record { route = (refl, g.walk); reaches = g.comes; step_count = g.counts; enough = omega (arith, g.enough); chosen = g.makes })

  pub steps-within : StepsWithin w p b
  steps-within cs n x e = (summary cs n x e).within

  -- the place is a row of the body, a stop or the closing brace
  pub place_inside : (cs : List ℕ) (n : ℕ) (x : Walked) → walk_call w p b cs n ≡ answered x → Faultless w p b × Inside w x.place
  place_inside cs n x e =
      let s = summary cs n x e in
      let body = facts.body w p b s.sound.well_formed in
      (s.sound, subst (λ (q : State). Inside w q) s.gone.comes (last-inside body s.gone.walk (root-inside body)))

  pub walk_ends : WalkEnds w p b
  walk_ends cs n x e = let (g, i) = place_inside cs n x e in by_place g x.place refl i (summary cs n x e).stands
    where
      by_place : Faultless w p b → (q : State) → x.place ≡ q → Inside w q → Stands w p b cs n q x.steps x.used → Ended w p b cs n x
      by_place g q i y (limit f) = at_limit f
      by_place g q i y (spent f u) = no_choice_left (rw i f) u
      by_place g stopped i y (no_step f u) = at_stop i
      by_place g stopped i y (no_way c h u) = at_stop i
      by_place g brace i y (no_step f u) = at_brace i
      by_place g brace i y (no_way c h u) = at_brace i
      by_place g (at r) i y (no_step f u) = let (t, v) = next-state g r 0 y.0 (some-open w p b r y.1) in absurd (clash (cc))
      by_place g (at r) i y (no_way c h u) = let (t, v) = next-state g r c y.0 h in absurd (clash (cc))

  pub walk_inside : WalkInside w p b
  walk_inside g cs n x e i =
      let (l, r) = walk-is-route cs n x e in
      let (k, f) = last-split (at 0) l in
      let z : last_state (at 0) l ≡ brace = r.reaches ∙ i in
      let h : Route w p b (k ++ brace ∷ []) = rw (← z, ← f) r.route in
      never-brace w p b g k [] h

  -- ---- 9, a choice out of range when it is met

  pub out_of_range : OutOfRange w p b
  out_of_range cs n i e = of-outcome (outcome w p b cs n (at 0) 0 0 (omega arith))
    where
      walks : walk_on w p b cs n (at 0) 0 0 ≡ refused 9 i
      walks = call-out-of-range w p b cs n i e

      of-outcome : Outcome w p b cs n (at 0) 0 0 (walk_on w p b cs n (at 0) 0 0) → MetOutOfRange w p b cs n i
      of-outcome (ended t steps used j h g s) = absurd (let z = walks in clash (cc))
      of-outcome (barred t steps used j h g f y l) =
          let v : walk_on w p b cs n (at 0) 0 0 ≡ refused 9 used = rw (zero-add used) at j in
          let u = walks in
          let z : i ≡ used = cc in
          rw z (record {
            fork = t;
            steps = steps;
            states = g.states;
            so_far = record { route = (refl, g.walk); reaches = g.comes; step_count = g.counts; enough = omega (arith, g.enough); chosen = g.makes };
            below_limit = h;
            met = f;
            given = omega arith;
            out_of_range = rw (zero-add used) at l;
          })

  -- ---- a route is a walk

  -- of a route from s on, with m steps made and k choices used, where the choices from k on are those that it makes and then any others
  module _ (cs ds : List ℕ) where
    abbrev Walks : (s : State) (l : List State) → Walk w p b s l → ℕ → ℕ → Type 0
    Walks s l r m k = walk_on w p b cs (length l) s m k ≡ answered (walked (last_state s l) (m + length l) (k + length (fork_choices w p b r)))

    head_of : (k c : ℕ) (l : List ℕ) → drop k cs ≡ c ∷ l → (k < length cs) × (get_or cs k 0 ≡ c) × (drop (suc k) cs ≡ l)
    head_of k c l e = elim (dec_lt k (length cs)) [
      | no z ↦ absurd (let y = drop_of_length-le cs {i = k} (omega arith) in clash (cc))
      | yes h ↦ let y = drop-cons cs k 0 h in (h, cc, cc)
    ]

    walk-along : {s : State} {l : List State} (r : Walk w p b s l) (m k : ℕ) → drop k cs ≡ fork_choices w p b r ++ ds → Walks s l r m k
    unfolding fork_choices
    walk-along {s = s} done m k e = walk-limit w p b cs s m k ∙ rw (add-zero w p b cs m, add-zero w p b cs k)
    walk-along (go {s = s} {t = t} {l = l} c h i r) m k e = case-of (forks w s)
        (λ f.
        let y = chose w p b s c h i r f in
        let (a, g, d) = head_of k c (fork_choices w p b r ++ ds) (rw y at e) in
        walk-chooses w p b cs s m k (length l) f a (rw g h) t (rw g i)
        ∙ walk-along r (suc m) (suc k) d
        ∙ rw (y, one_more w p b cs m (length l), one_more w p b cs k (length (fork_choices w p b r))))
        (λ f.
        let y = chose_none w p b s c h i r f in
        let z = one_choice w p b s c f h in
        walk-goes w p b cs s m k (length l) t f (rw z at i)
        ∙ walk-along r (suc m) k (rw y at e)
        ∙ rw (y, one_more w p b cs m (length l)))

  pub route-is-walk : RouteIsWalk w p b
  route-is-walk g l (e, r) ds =
      let cs = fork_choices w p b r ++ ds in
      call-walks w p b cs (length l) g ∙ rw (zero-add (length l), zero-add (length (fork_choices w p b r))) at (walk-along cs ds r 0 0 refl)
