-- The walk by given choices, one law for each way that it can go on or end: nobody else opens these definitions. And forks: where there is none, one
-- choice is open at most.
-- Assumes nothing.
use mathlib.Core.Path.{◌≡◌, refl, ◌∙◌}
use mathlib.Core.Bool.{Bool, true, false, ◌||◌, not, or-true}
use mathlib.Core.Logic.{◌≢◌}
use mathlib.Core.List.{List, [], ◌∷◌}
use mathlib.Core.Option.{Option, none, some}
use Prim.Native.Nat.{ℕ, zero, suc, ◌≤◌, ◌<◌}
use native.Mathlib.Omega.{arith}
use lib.Dec.{ltb, leb, eqb}
use lib.ListN.{length, get_or}
use borrow.Author.Tests.{lt-ltb, le-ltb, leb-true, eq-eqb}
use Rattle.rules.specs.Scan.{lowest}
use Rattle.rules.specs.Class.{Class, empty, case_block, comm_block, if}
use Rattle.rules.specs.Class.{if_else, switch, type_switch, select, for_cond, one_of, class}
use Rattle.rules.specs.Refusals.{WellFormed, causes, first_cause, refusal}
use Rattle.rules.specs.Labels.{Fault, is_some, sheet}
use Rattle.rules.specs.Placing.{placing}
use Rattle.rules.specs.Runner.{State, at, stopped, brace, clause_count, choices_as, choices, step, Walk, go}
use Rattle.rules.specs.Calls.{Answer, refused, answered}
use Rattle.rules.specs.Walking.{place_of, Walked, walked, is_fork, forks, walk_on, is_faulty, walk_call, fork_choices, Faultless}
use Rattle.rules.proofs.Test.{case-of, clash}
use Rattle.rules.proofs.Every.{every, is_one}
use Rattle.rules.proofs.ClassRules.{is_clause_block, by_one, class-rule}
use Rattle.rules.proofs.Inside.{some-open}

-- ---- the place of a row is 2 + its number
pub place-row : (x r : ℕ) → x ≡ suc (suc r) → place_of x ≡ at r
place-row x r e = rw e

-- ---- forks
module _ (w p b : List ℕ) (r : ℕ) where
  comms-one : (n : ℕ) → ltb 0 n ≡ false → elim n [ zero ↦ 1 | suc m ↦ suc m ] ≤ 1
  comms-one zero f = omega arith
  comms-one (suc m) f = absurd (let z = lt-ltb 0 (suc m) (omega arith) in clash (cc))

  others-one : (k : Class) → one_of (if ∷ if_else ∷ for_cond ∷ switch ∷ type_switch ∷ []) k ≡ false → one_of (select ∷ []) k ≡ false → choices_as w p b k r ≤ 1
  unfolding every lowest
  others-one k n o = leb-true (choices_as w p b k r) 1
      (class-rule (λ k. not (one_of (if ∷ if_else ∷ for_cond ∷ switch ∷ type_switch ∷ []) k || one_of (select ∷ []) k)) (λ k. leb (choices_as w p b k r) 1)
      refl k (rw (n, o)))

  one-as : (k : Class) → class w r ≡ k → is_fork w r ≡ false → choices_as w p b k r ≤ 1
  unfolding is_fork
  one-as k e f = case-of (one_of (if ∷ if_else ∷ for_cond ∷ switch ∷ type_switch ∷ []) k)
      (λ t. absurd (let z : true ≡ false = rw (e, is_fork, t) at f in clash (cc)))
      (λ n. case-of (one_of (select ∷ []) k)
      (λ t. let z : class w r ≡ select = e ∙ is_one k select t in rw (is_one k select t) (comms-one (clause_count w r) (rw (z, is_fork) at f)))
      (others-one k n))

  clauses-stuck : (c : ℕ) → is_clause_block (class w r) ≡ true → step w p b (at r) c ≡ none
  unfolding step
  clauses-stuck c t = by_one _ (case_block ∷ comm_block ∷ []) (class w r) t (λ e. rw e) (λ e. rw e)

module _ (w p b : List ℕ) where
  -- where there is no fork, one choice is open at most
  pub one_choice : (s : State) (c : ℕ) → forks w s ≡ false → c < choices w p b s → c ≡ 0
  unfolding choices
  one_choice (at r) c f h = let m = one-as w p b r (class w r) refl f in omega arith
  one_choice stopped c f h = absurd (omega arith)
  one_choice brace c f h = absurd (omega arith)

  -- where there is a step, some choice is open
  pub step-open : (s t : State) (c : ℕ) → step w p b s c ≡ some t → 0 < choices w p b s
  unfolding step
  step-open (at r) t c e = case-of (is_clause_block (class w r))
      (λ z. absurd (let n = clauses-stuck w p b r c z in clash (cc)))
      (λ z. some-open w p b r z)
  step-open stopped t c e = absurd (clash (cc))
  step-open brace t c e = absurd (clash (cc))

-- ---- the walk from s on, with m steps made and k choices used
module _ (w p b cs : List ℕ) (s : State) (m k : ℕ) where
  abbrev Here : Answer Walked → Type 0
  Here a = a ≡ answered (walked s m k)

  pub walk-limit : Here (walk_on w p b cs 0 s m k)
  unfolding walk_on
  walk-limit = refl

  module _ (n : ℕ) where
    pub walk-ended : forks w s ≡ false → step w p b s 0 ≡ none → Here (walk_on w p b cs (suc n) s m k)
    unfolding walk_on
    walk-ended f e = rw (f, walk_on, e)

    pub walk-goes : (t : State) → forks w s ≡ false → step w p b s 0 ≡ some t → walk_on w p b cs (suc n) s m k ≡ walk_on w p b cs n t (suc m) k
    unfolding walk_on
    walk-goes t f e = rw (f, walk_on, e)

    pub walk-no-choice : forks w s ≡ true → length cs ≤ k → Here (walk_on w p b cs (suc n) s m k)
    unfolding walk_on
    walk-no-choice f h = rw (f, walk_on, le-ltb k (length cs) h)

    pub walk_refused : forks w s ≡ true → k < length cs → choices w p b s ≤ get_or cs k 0 → walk_on w p b cs (suc n) s m k ≡ refused 9 k
    unfolding walk_on
    walk_refused f h l = rw (f, walk_on, lt-ltb k (length cs) h, le-ltb (get_or cs k 0) (choices w p b s) l)

    module _ (f : forks w s ≡ true) (h : k < length cs) (l : get_or cs k 0 < choices w p b s) where
      pub walk-stuck : step w p b s (get_or cs k 0) ≡ none → Here (walk_on w p b cs (suc n) s m k)
      unfolding walk_on
      walk-stuck e = rw (f, walk_on, lt-ltb k (length cs) h, lt-ltb (get_or cs k 0) (choices w p b s) l, e)

      pub walk-chooses : (t : State) → step w p b s (get_or cs k 0) ≡ some t → walk_on w p b cs (suc n) s m k ≡ walk_on w p b cs n t (suc m) (suc k)
      unfolding walk_on
      walk-chooses t e = rw (f, walk_on, lt-ltb k (length cs) h, lt-ltb (get_or cs k 0) (choices w p b s) l, e)

-- ---- the choices made at forks
module _ (w p b : List ℕ) (s : State) {t : State} {l : List State} (c : ℕ) (h : c < choices w p b s) (e : step w p b s c ≡ some t) (r : Walk w p b t l) where
  pub chose : forks w s ≡ true → fork_choices w p b (go c h e r) ≡ c ∷ fork_choices w p b r
  unfolding fork_choices
  chose f = rw (f, fork_choices)

  pub chose_none : forks w s ≡ false → fork_choices w p b (go c h e r) ≡ fork_choices w p b r
  unfolding fork_choices
  chose_none f = rw (f, fork_choices)

-- ---- no cause of a refusal has the number 9
has_number : ℕ → List (ℕ × Option ℕ) → Bool
has_number n [] = false
has_number n (c ∷ cs) = eqb c.0 n || has_number n cs

first-number : (l : List (ℕ × Option ℕ)) (r : ℕ × ℕ) → first_cause l ≡ some r → has_number r.0 l ≡ true
unfolding first_cause has_number
first-number [] r e = absurd (clash (cc))
first-number ((n, none) ∷ l) r e = rw (first-number l r e, or-true (eqb n r.0))
first-number ((n, some i) ∷ l) r e = let z : (n, i) ≡ r = cc in rw (← z, eq-eqb n n refl)

not-nine : (w p b : List ℕ) (r : ℕ × ℕ) → refusal w p b ≡ some r → r.0 ≡ 9 → ⊥
unfolding refusal has_number
not-nine w p b r e z = let h = first-number (causes w p b) r e in let y : false ≡ true = rw z at h in clash (cc)

-- ---- the call: refusals 1 to 6 and 10, then 8, then the walk
module _ (w p b : List ℕ) where
  -- 8: a row on the sheet, else a row badly placed
  pub faulty-sheet : length (sheet w p b) ≢ 0 → is_faulty w p b ≡ true
  unfolding is_faulty
  faulty-sheet n = by-sheet (sheet w p b) refl n
    where
      by-sheet : (l : List Fault) → sheet w p b ≡ l → length l ≢ 0 → is_faulty w p b ≡ true
      by-sheet [] e n = absurd (n refl)
      by-sheet (f ∷ l) e n = rw (e, is_faulty)

  pub faulty-placing : length (sheet w p b) ≡ 0 → is_faulty w p b ≡ is_some (placing w)
  unfolding is_faulty
  faulty-placing z = by-sheet (sheet w p b) refl z
    where
      by-sheet : (l : List Fault) → sheet w p b ≡ l → length l ≡ 0 → is_faulty w p b ≡ is_some (placing w)
      by-sheet [] e z = rw (e, is_faulty)
      by-sheet (f ∷ l) e z = absurd (clash (cc))

  pub faultless : WellFormed w p b → is_faulty w p b ≡ false → Faultless w p b
  unfolding is_faulty
  faultless wf f =
      let none = empty (sheet w p b) refl f in
      record { well_formed = wf; no_fault = none; placed = well (placing w) (rw (none, is_faulty) at f) }
    where
      empty : (l : List Fault) → sheet w p b ≡ l → is_faulty w p b ≡ false → l ≡ []
      empty [] e f = refl
      empty (x ∷ l) e f = absurd (let z : true ≡ false = rw (e, is_faulty) at f in clash (cc))

      well : (o : Option ℕ) → is_some o ≡ false → o ≡ none
      well none f = refl
      well (some r) f = absurd (clash (cc))

  pub not-faulty : Faultless w p b → is_faulty w p b ≡ false
  unfolding is_faulty
  not-faulty g = rw (g.no_fault, is_faulty, g.placed)

  module _ (cs : List ℕ) (n : ℕ) where
    pub call-refused : (r : ℕ × ℕ) → refusal w p b ≡ some r → walk_call w p b cs n ≡ refused r.0 r.1
    unfolding walk_call
    call-refused r e = rw (e, walk_call)

    pub call-faulty : WellFormed w p b → is_faulty w p b ≡ true → walk_call w p b cs n ≡ refused 8 0
    unfolding walk_call
    call-faulty wf t = rw (wf, walk_call, t)

    pub call-walks : Faultless w p b → walk_call w p b cs n ≡ walk_on w p b cs n (at 0) 0 0
    unfolding walk_call
    call-walks g = rw (g.well_formed, walk_call, not-faulty g)

    -- an answer is a walk's
    pub call-answered : (x : Walked) → walk_call w p b cs n ≡ answered x → Faultless w p b × (walk_on w p b cs n (at 0) 0 0 ≡ answered x)
    call-answered x e = by-refusal (refusal w p b) refl
      where
        by-fault : WellFormed w p b → Faultless w p b × (walk_on w p b cs n (at 0) 0 0 ≡ answered x)
        by-fault wf = case-of (is_faulty w p b)
            (λ t. absurd (let z = call-faulty wf t in clash (cc)))
            (λ f. let g = faultless wf f in let z = call-walks g in (g, cc))

        by-refusal : (o : Option (ℕ × ℕ)) → refusal w p b ≡ o → Faultless w p b × (walk_on w p b cs n (at 0) 0 0 ≡ answered x)
        by-refusal none f = by-fault f
        by-refusal (some r) f = absurd (let z = call-refused r f in clash (cc))

    -- so is a 9, which no cause before the walk has for its number
    pub call-out-of-range : (i : ℕ) → walk_call w p b cs n ≡ refused 9 i → walk_on w p b cs n (at 0) 0 0 ≡ refused 9 i
    call-out-of-range i e = by-refusal (refusal w p b) refl
      where
        by-fault : WellFormed w p b → walk_on w p b cs n (at 0) 0 0 ≡ refused 9 i
        by-fault wf = case-of (is_faulty w p b)
            (λ t. absurd (let z = call-faulty wf t in clash (cc)))
            (λ f. let z = call-walks (faultless wf f) in cc)

        by-refusal : (o : Option (ℕ × ℕ)) → refusal w p b ≡ o → walk_on w p b cs n (at 0) 0 0 ≡ refused 9 i
        by-refusal none f = by-fault f
        by-refusal (some r) f = absurd (let z = call-refused r f in let y : r.0 ≡ 9 = cc in not-nine w p b r f y)
