-- A round without a fork leaves the walk where it was, with its steps made; so do any number of them. What is left of the limit after whole rounds is
-- the remainder.
-- Assumes nothing.
use mathlib.Core.Path.{◌≡◌, refl, sym, ◌∙◌, ap}
use mathlib.Core.Bool.{false}
use mathlib.Core.List.{List}
use Prim.Native.Nat.{ℕ, zero, suc, ◌+◌, ◌-◌, ◌*◌, ◌/◌, ◌%◌, ◌≤◌}
use native.Mathlib.Omega.{arith}
use native.Mathlib.Nat.{zero-mul, suc-mul, mod-le, div-add-mod'}
use lib.ListN.{get_or}
use Rattle.rules.specs.Runner.{State, at}
use Rattle.rules.specs.Walking.{place_of, is_fork, walk_on, Faultless, Inside}
use Rattle.rules.proofs.WalkSteps.{walk-goes}
use Rattle.steps.specs.StepTable.{StepTable}
use Rattle.runner.specs.Rounds.{Goes, Skipped}
use Rattle.runner.proofs.Turns.{first-is}

module _ (w p b : List ℕ) where
  -- the same walk at equal numbers
  same-walk : (cs : List ℕ) (s : State) (n n' m m' k : ℕ) → n ≡ n' → m ≡ m' → walk_on w p b cs n s m k ≡ walk_on w p b cs n' s m' k
  same-walk cs s n n' m m' k e f = λ i. walk_on w p b cs (e i) s (f i) k

  pub goes-start : (place : ℕ) → Goes w p b place 0 place
  goes-start place cs n m k = same-walk cs (place_of place) (0 + n) n m (m + 0) k (omega arith) (omega arith)

  -- one step more, from a row without a fork
  module _ {f t : List ℕ} (g : Faultless w p b) (table : StepTable w p b f t) (from steps place r : ℕ) (e : place ≡ suc (suc r)) (here : Inside w (at r)) where
    pub goes-more : Goes w p b from steps place → false ≡ is_fork w r → Goes w p b from (steps + 1) (get_or t (get_or f r 0) 0)
    goes-more x i cs n m k =
        let q = get_or t (get_or f r 0) 0 in
        let s = ap place_of e in
        same-walk cs (place_of from) (steps + 1 + n) (steps + suc n) m m k (omega arith) refl
        ∙ x cs (suc n) m k
        ∙ walk-goes w p b cs (place_of place) (m + steps) k n (place_of q) (rw s (sym i)) (rw s (first-is g table r here))
        ∙ same-walk cs (place_of q) n n (suc (m + steps)) (m + (steps + 1)) k refl (omega arith)

  -- ---- whole rounds
  module _ (place round : ℕ) (x : Goes w p b place round place) where
    rounds : (q : ℕ) → Goes w p b place (q * round) place
    rounds zero = rw (zero-mul round) (goes-start place)
    rounds (suc q) = λ cs n m k.
        let e = suc-mul q round in
        same-walk cs (place_of place) (suc q * round + n) (round + (q * round + n)) m m k (omega arith) refl
        ∙ x cs (q * round + n) m k
        ∙ rounds q cs n (m + round) k
        ∙ same-walk cs (place_of place) n n (m + round + q * round) (m + suc q * round) k refl (omega arith)

    pub skipped : (limit made : ℕ) → made ≤ limit → Skipped w p b limit place made (limit - (limit - made) % round)
    skipped limit made h =
        let d = limit - made in
        let e = div-add-mod' d round in
        let v = mod-le d round in
        record {
          from = omega arith;
          upto = omega arith;
          same = λ cs k.
              same-walk cs (place_of place) (limit - (limit - d % round)) (d % round) (limit - d % round) (made + d / round * round) k
              (omega arith) (omega arith)
              ∙ sym (rounds (d / round) cs (d % round) made k)
              ∙ same-walk cs (place_of place) (d / round * round + d % round) d made made k e refl;
        }
