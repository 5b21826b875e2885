-- One turn of the walk's loop, in the code's own words: what is left of the walk, from the place in hand and with the steps and choices so far, is the
-- whole walk. Each way to go on or to end is one law of the definition.
-- Assumes nothing.
use mathlib.Core.Path.{◌≡◌, refl, sym, ◌∙◌, ap, subst}
use mathlib.Core.Bool.{Bool, true, false}
use mathlib.Core.List.{List}
use mathlib.Core.Option.{none, some}
use Prim.Native.Nat.{ℕ, zero, suc, ◌+◌, ◌-◌, ◌≤◌, ◌<◌}
use native.Mathlib.Omega.{arith}
use lib.ListN.{length, get_or}
use Rattle.rules.specs.Rows.{row_count}
use Rattle.rules.specs.Runner.{State, at, stopped, brace, choices, step}
use Rattle.rules.specs.Calls.{Answer, refused, answered}
use Rattle.rules.specs.Walking.{place_of, Walked, walked, is_fork, forks, walk_on, Faultless, Inside}
use Rattle.rules.proofs.Facts as facts
use Rattle.rules.proofs.Steps.{no-step-stopped, no-step-brace}
use Rattle.rules.proofs.Inside.{root-inside, step-inside, some-open}
use Rattle.rules.proofs.WalkSteps.{place-row, walk-limit, walk-ended, walk-goes, walk-no-choice, walk_refused, walk-chooses}
use Rattle.steps.specs.StepTable.{StepTable}
use Rattle.runner.specs.Rounds.{Skipped}
use Rattle.steps.proofs.Reading.{next-first, step_in, step_is}

-- what the loop keeps
pub record Turn (w p b cs : List ℕ) (limit place made used : ℕ) : Type 0 where
  pub within : made ≤ limit
  pub enough : used ≤ length cs
  pub inside : Inside w (place_of place)
  pub left : walk_on w p b cs (limit - made) (place_of place) made used ≡ walk_on w p b cs limit (at 0) 0 0

pub same_turn : {w p b cs : List ℕ} {limit : ℕ} (place q made m used : ℕ) → place ≡ q → made ≡ m → Turn w p b cs limit q m used
    → Turn w p b cs limit place made used
same_turn place q made m used e f x = rw (e, f) x

-- ---- a place that is a row
pub row_word : (place : ℕ) → 2 ≤ place → place ≡ suc (suc (place - 2))
row_word place h = omega arith

pub row_inside : (w : List ℕ) (place : ℕ) → 2 ≤ place → Inside w (place_of place) → Inside w (at (place - 2))
row_inside w place h = subst (λ (s : State). Inside w s) (ap place_of (row_word place h))

pub inside_row : (w : List ℕ) (place : ℕ) → Inside w (place_of place) → 2 ≤ place → place - 2 < row_count w
inside_row w place x h = (row_inside w place h x).0

-- ---- the steps of a row, as the table has them
module _ {w p b f t : List ℕ} (g : Faultless w p b) (table : StepTable w p b f t) (r : ℕ) (here : Inside w (at r)) where
  -- the place by choice c
  module _ (c : ℕ) (h : c < choices w p b (at r)) where
    pub place_in : get_or f r 0 + c < length t
    place_in = step_in table r here.0 c h

    pub place_is : step w p b (at r) c ≡ some (place_of (get_or t (get_or f r 0 + c) 0))
    place_is = step_is table r here.0 c h

    pub place_inside : Inside w (place_of (get_or t (get_or f r 0 + c) 0))
    place_inside = step-inside (facts.body w p b g.well_formed) (at r) _ c here place_is

  -- the first, which is there
  some-step : 0 < choices w p b (at r)
  some-step = some-open w p b r here.1

  plus_none : get_or f r 0 + 0 ≡ get_or f r 0
  plus_none = omega arith

  pub first-in : get_or f r 0 < length t
  first-in = rw plus_none at (place_in 0 some-step)

  pub first-is : step w p b (at r) 0 ≡ some (place_of (get_or t (get_or f r 0) 0))
  first-is = rw plus_none at (place_is 0 some-step)

  pub first-inside : Inside w (place_of (get_or t (get_or f r 0) 0))
  first-inside = step-inside (facts.body w p b g.well_formed) (at r) _ 0 here first-is

module _ {w p b : List ℕ} (g : Faultless w p b) (cs : List ℕ) (limit : ℕ) where
  abbrev pub Whole : Answer Walked → Type 0
  Whole a = a ≡ walk_on w p b cs limit (at 0) 0 0

  pub turn-start : Turn w p b cs limit 2 0 0
  turn-start = record {
    within = omega arith;
    enough = omega arith;
    inside = root-inside (facts.body w p b g.well_formed);
    left = ap (λ (n : ℕ). walk_on w p b cs n (at 0) 0 0) (let z : limit - 0 ≡ limit = omega arith in z);
  }

  module _ (place made used : ℕ) (x : Turn w p b cs limit place made used) where
    -- the limit
    pub turn-limit : limit ≤ made → Whole (answered (walked (place_of place) made used))
    turn-limit h =
        let z : limit - made ≡ 0 = omega arith in
        sym (walk-limit w p b cs (place_of place) made used) ∙ ap (λ (n : ℕ). walk_on w p b cs n (place_of place) made used) (sym z) ∙ x.left

    -- with more steps made and as much before it
    pub turn-skips : (later : ℕ) → Skipped w p b limit place made later → Turn w p b cs limit place later used
    turn-skips later y = record { within = y.upto; enough = x.enough; inside = x.inside; left = y.same cs used ∙ x.left }

    module _ (h : made < limit) where
      -- what is left, with a step of the limit left
      left-on : Whole (walk_on w p b cs (suc (limit - suc made)) (place_of place) made used)
      left-on =
          let z : suc (limit - suc made) ≡ limit - made = omega arith in
          ap (λ (n : ℕ). walk_on w p b cs n (place_of place) made used) z ∙ x.left

      -- a stop or the closing brace
      ended_at : (s : State) → place_of place ≡ s → forks w s ≡ false → step w p b s 0 ≡ none → Whole (answered (walked (place_of place) made used))
      ended_at s e f n = sym (walk-ended w p b cs (place_of place) made used (limit - suc made) (rw e f) (rw e n)) ∙ left-on

      by_word : (n : ℕ) → place ≡ n → n < 2 → Whole (answered (walked (place_of place) made used))
      by_word zero e l = ended_at stopped (ap place_of e) refl ((no-step-stopped w p b).1 0)
      by_word (suc zero) e l = ended_at brace (ap place_of e) refl ((no-step-brace w p b).1 0)
      by_word (suc (suc r)) e l = absurd (omega arith)

      pub turn-ended : place < 2 → Whole (answered (walked (place_of place) made used))
      turn-ended = by_word place refl

      -- a row
      module _ (r : ℕ) (e : place ≡ suc (suc r)) where
        row-place : place_of place ≡ at r
        row-place = place-row place r e

        pub here : Inside w (at r)
        here = subst (λ (s : State). Inside w s) row-place x.inside

        pub row_in : r < row_count w
        row_in = here.0

        forks-at : (v : Bool) → v ≡ is_fork w r → forks w (place_of place) ≡ v
        forks-at v i = rw row-place (sym i)

        module _ {f t : List ℕ} (table : StepTable w p b f t) where
          -- no fork: the one step
          module _ (i : false ≡ is_fork w r) where
            pub turn-goes : Turn w p b cs limit (get_or t (get_or f r 0) 0) (suc made) used
            turn-goes =
                let q = get_or t (get_or f r 0) 0 in
                let s = first-is g table r here in
                record {
                  within = h;
                  enough = x.enough;
                  inside = first-inside g table r here;
                  left =
                      sym (walk-goes w p b cs (place_of place) made used (limit - suc made) (place_of q) (forks-at false i) (rw row-place s))
                      ∙ left-on;
                }

          -- a fork
          module _ (i : true ≡ is_fork w r) where
            pub turn-no-choice : length cs ≤ used → Whole (answered (walked (place_of place) made used))
            turn-no-choice n = sym (walk-no-choice w p b cs (place_of place) made used (limit - suc made) (forks-at true i) n) ∙ left-on

            module _ (m : used < length cs) where
              pub turn-refused : get_or f (suc r) 0 - get_or f r 0 ≤ get_or cs used 0 → Whole (refused 9 used)
              turn-refused o =
                  let z : choices w p b (at r) ≤ get_or cs used 0 = omega (arith, next-first table r row_in) in
                  sym (walk_refused w p b cs (place_of place) made used (limit - suc made) (forks-at true i) m (rw row-place z)) ∙ left-on

              module _ (o : get_or cs used 0 < get_or f (suc r) 0 - get_or f r 0) where
                in-range : get_or cs used 0 < choices w p b (at r)
                in-range = omega (arith, next-first table r row_in)

                pub chosen-in : get_or f r 0 + get_or cs used 0 < length t
                chosen-in = place_in g table r here (get_or cs used 0) in-range

                pub turn-chooses : Turn w p b cs limit (get_or t (get_or f r 0 + get_or cs used 0) 0) (suc made) (suc used)
                turn-chooses =
                    let q = get_or t (get_or f r 0 + get_or cs used 0) 0 in
                    let s = place_is g table r here (get_or cs used 0) in-range in
                    record {
                      within = h;
                      enough = m;
                      inside = place_inside g table r here (get_or cs used 0) in-range;
                      left =
                          sym (walk-chooses w p b cs (place_of place) made used (limit - suc made) (forks-at true i) m (rw row-place in-range)
                          (place_of q) (rw row-place s)) ∙ left-on;
                    }
