-- What is written for a row leads where its choices do: for each way in which rows go, the words written are the places of its steps.
-- Assumes nothing.
use mathlib.Core.Path.{◌≡◌, refl, sym, ◌∙◌, ap}
use mathlib.Core.Bool.{Bool, true, false}
use mathlib.Core.List.{List}
use mathlib.Core.Option.{some}
use Prim.Native.Nat.{ℕ, suc, ◌+◌, ◌≤◌, ◌<◌}
use native.Mathlib.Omega.{arith}
use native.Mathlib.Numerals.{add-one}
use native.Mathlib.Decide.{ℕ_discrete}
use lib.ListN.{length, get_or, set}
use lib.Seq.{get_or-set_same, get_or-set_other}
use Rattle.rules.specs.Class.{select, is_switch, class}
use Rattle.rules.specs.Runner.{State, at, after, item_at, clause_count, choices, step}
use Rattle.rules.specs.Walking.{place_of}
use Rattle.rules.proofs.WalkSteps.{place-row}
use Rattle.rules.proofs.Steps.{OneWay, TwoWays, switch-takes, switch-with-default, switch-without-default, select-takes, select-choices}
use Rattle.rules.proofs.Steps.{select-without-clauses}
use Rattle.steps.specs.Written.{ClausesWritten, TwoWritten, RowWritten, OnlyStep}

-- ---- places
pub place-below : (r x : ℕ) → x ≡ r + 3 → place_of x ≡ at (suc r)
place-below r x e = place-row x (suc r) (omega arith)

module _ (w p b : List ℕ) (r : ℕ) where
  pub only-way : {s : State} (x : ℕ) → OneWay w p b r (some s) → place_of x ≡ s → OnlyStep w p b r x
  only-way x o e = (o.0, o.1 0 ∙ ap some (sym e))

  -- ---- none, and two
  module _ (old : List ℕ) (first : ℕ) where
    pub row-none : choices w p b (at r) ≡ 0 → RowWritten w p b old old r first first
    row-none z = record { ends = omega arith; steps = λ c h. absurd (omega arith); kept = λ j h. refl }

  module _ {old new : List ℕ} {first end' : ℕ} where
    pub row-two : {s : State} {other : ℕ} → TwoWays w p b r (at (suc r)) s → place_of other ≡ s → TwoWritten old new r other first end'
        → RowWritten w p b old new r first end'
    row-two {s} {other} t e y = record {
      ends = omega (arith, t.0, y.ends);
      steps = λ c h. elim (ℕ_discrete c 0) [
        | yes z ↦
            let k : first + 0 ≡ first = omega arith in
            rw (z, k) (t.2 ∙ ap some (sym e) ∙ ap (λ (x : ℕ). some (place_of x)) (sym y.without_body))
        | no z ↦
            let u : c ≡ 1 = omega (arith, t.0) in
            rw (u, add-one first) (t.1 ∙ ap (λ (x : ℕ). some (place_of x)) (sym y.with_body))
      ];
      kept = y.kept;
    }

    -- ---- a step for each clause
    module _ {default : Bool} (y : ClausesWritten w old new r first end' default) where
      clause-places : ((c : ℕ) → c < clause_count w r → step w p b (at r) c ≡ some (at (item_at w (suc (suc r)) c)))
          → (c : ℕ) → c < clause_count w r → step w p b (at r) c ≡ some (place_of (get_or new (first + c) 0))
      clause-places takes c h = takes c h ∙ ap (λ (x : ℕ). some (place_of x)) (sym (y.clauses c h))

      no_more : ((c : ℕ) → c < clause_count w r → step w p b (at r) c ≡ some (at (item_at w (suc (suc r)) c)))
          → choices w p b (at r) ≡ clause_count w r → RowWritten w p b old new r first end'
      no_more takes n = record { ends = omega (arith, y.ends); steps = λ c h. clause-places takes c (omega arith); kept = y.kept }

      -- and one more
      one_more : ((c : ℕ) → c < clause_count w r → step w p b (at r) c ≡ some (at (item_at w (suc (suc r)) c))) → {s : State}
          → (choices w p b (at r) ≡ suc (clause_count w r)) × (step w p b (at r) (clause_count w r) ≡ some s)
          → (x : ℕ) → place_of x ≡ s → end' < length new → RowWritten w p b old (set new end' x) r first (end' + 1)
      one_more takes n x e l = record {
        ends = omega (arith, y.ends, n.0);
        steps = λ c h. elim (ℕ_discrete c (clause_count w r)) [
          | yes z ↦
              let k : first + clause_count w r ≡ end' = omega (arith, y.ends) in
              rw (z, k) (n.1 ∙ ap some (sym e) ∙ ap (λ (v : ℕ). some (place_of v)) (sym (get_or-set_same new end' x 0 l)))
          | no z ↦
              clause-places takes c (omega (arith, n.0))
              ∙ ap (λ (v : ℕ). some (place_of v)) (sym (get_or-set_other new end' (first + c) x 0 (λ k. omega (arith, y.ends))))
        ];
        kept = λ j h. get_or-set_other new end' j x 0 (λ k. omega (arith, y.ends)) ∙ y.kept j h;
      }

      -- ---- a switch
      module _ (t : is_switch (class w r) ≡ true) where
        pub switch-whole : default ≡ true → RowWritten w p b old new r first end'
        switch-whole d = no_more (switch-takes w p b r t) (switch-with-default w p b r t (sym y.defaults ∙ d))

        pub switch-on : (x : ℕ) → default ≡ false → place_of x ≡ after w r → end' < length new → RowWritten w p b old (set new end' x) r first (end' + 1)
        switch-on x d e l = one_more (switch-takes w p b r t) (switch-without-default w p b r t (sym y.defaults ∙ d)) x e l

        pub on_room : default ≡ false → first + choices w p b (at r) ≤ length new → end' < length new
        on_room d l = omega (arith, y.ends, (switch-without-default w p b r t (sym y.defaults ∙ d)).0)

      -- ---- a Select
      module _ (k : class w r ≡ select) where
        pub select-whole : first < end' → RowWritten w p b old new r first end'
        select-whole l = no_more (select-takes w p b r k) (select-choices w p b r k (omega (arith, y.ends)))

        pub stop-room : end' ≤ first → first + choices w p b (at r) ≤ length new → first < length new
        stop-room h l = omega (arith, y.ends, (select-without-clauses w p b r k (omega (arith, y.ends))).0)

        pub select-stops : end' ≤ first → first < length new → RowWritten w p b old (set new first 0) r first (first + 1)
        select-stops h l =
            let n : clause_count w r ≡ 0 = omega (arith, y.ends) in
            let o = select-without-clauses w p b r k n in
            let e : end' ≡ first = omega (arith, y.ends) in
            rw e at (one_more (select-takes w p b r k) (omega (arith, o.0), o.1 (clause_count w r)) 0 refl (omega arith))
