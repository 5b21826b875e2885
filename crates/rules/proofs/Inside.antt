-- The runner keeps inside a well-formed body: a step from one of its rows leads to one of its rows, to a stop or to the closing brace, and never to the
-- Block of a switch or Select, where no choice is open. Going on climbs to a parent and comes to a loop or to an item of a list; other steps lead to
-- children or to where branches go. And without a fault no row lacks a step: only branches could, and each of them has its destination.
-- Assumes nothing.
use mathlib.Core.Path.{◌≡◌, refl}
use mathlib.Core.Bool.{true, false, ◌||◌, not}
use mathlib.Core.Logic.{⊎_elim}
use mathlib.Core.List.{List, [], ◌∷◌}
use mathlib.Core.Option.{Option, none, some}
use Prim.Native.Nat.{ℕ, zero, suc, ◌<◌}
use native.Mathlib.Omega.{arith}
use native.Mathlib.Decide.{ℕ_discrete, dec_lt}
use lib.Dec.{ltb}
use borrow.Author.Tests.{ltb-true, not-true}
use Rattle.rules.specs.Scan.{lowest}
use Rattle.rules.specs.Rows.{row_count, size, end, here, later, Child}
use Rattle.rules.specs.Class.{Class, plain, declaration, empty, labeled, stop, break, continue, goto, fallthrough, block, case_block, comm_block, if}
use Rattle.rules.specs.Class.{if_else, case, default_case, comm, default_comm, switch, type_switch, select, for, for_cond}
use Rattle.rules.specs.Class.{one_of, is_switch, is_loop, is_case, class}
use Rattle.rules.specs.Scope.{is_list, next_case}
use Rattle.rules.specs.Body.{Body, fits}
use Rattle.rules.specs.Placing.{placing}
use Rattle.rules.specs.Verdict.{has_default}
use Rattle.rules.specs.Runner.{State, at, stopped, brace, pick, item_at, item_count, clause_count, after, break_to, continue_to, goto_to, choices_as, enter}
use Rattle.rules.specs.Runner.{clause, step_as, choices, step}
use Rattle.rules.specs.Law.{AllLawful}
use Rattle.rules.specs.Walking.{Inside}
use Rattle.rules.proofs.Test.{case-of, case-found, clash, or-true}
use Rattle.rules.proofs.Every.{every, is_one}
use Rattle.rules.proofs.Shape.{opens}
use Rattle.rules.proofs.Nesting.{item-next}
use Rattle.rules.proofs.ClassRules.{is_clause_block, by_one, class-rule, child-rule, only-opened, opens-holds}
use Rattle.rules.proofs.Going.{clause-count, item-at, default-clause, after-root, after-in-loop, after-in-list, after_last, after-in-other}
use Rattle.rules.proofs.Final.{child-in, parent_in}
use Rattle.rules.proofs.Onward.{loop-ordinary, ordinary-row, list-opens}
use Rattle.rules.proofs.Destinations.{break-to, continue-to, goto-to, next-case-row, breaks, continues, gotos, falls}

-- nowhere, or there
abbrev InsideNext : List ℕ → Option State → Type 0
InsideNext w o = elim o [ none ↦ Unit {0} | some s ↦ Inside w s ]

-- ---- rules of the classes

-- the Block of a switch or Select opens none
opened-closed : (q c : Class) → opens q ≡ true → fits q c ≡ true → opens c ≡ false
unfolding every lowest
opened-closed q c t u = not-true (opens c) (child-rule opens (λ c. not (opens c)) refl q c t u)

case_row : (c : Class) → is_case c ≡ true → is_clause_block c ≡ false
unfolding every lowest
case_row c t = not-true (is_clause_block c) (class-rule is_case (λ c. not (is_clause_block c)) refl c t)

pick-inside : (w : List ℕ) (c : ℕ) (x y : State) → Inside w x → Inside w y → Inside w (pick c x y)
pick-inside w zero x y f g = g
pick-inside w (suc c) x y f g = f

module _ {w p b : List ℕ} (body : Body w p b) where
  -- ---- rows of the body
  pub root-inside : Inside w (at 0)
  root-inside = (body.some_rows, rw body.root_class)

  child-inside : (r s : ℕ) → r < row_count w → opens (class w r) ≡ false → Child w r s → Inside w (at s)
  child-inside r s i o c = (child-in body r i c, only-opened (class w r) (class w s) o (body.child_fits r s i c))

  loop-inside : (k : ℕ) → k < row_count w → is_loop (class w k) ≡ true → Inside w (at k)
  loop-inside k i t = let x = ordinary-row k i (loop-ordinary (class w k) t) in (x.row, x.not-clauses)

  -- the clauses of a switch or Select are children of its Block
  clause-inside : (r c : ℕ) → r < row_count w → opens (class w r) ≡ true → c < clause_count w r → Inside w (at (item_at w (suc (suc r)) c))
  clause-inside r c i t h =
      let (g, e) = body.one_block r i (opens-holds (class w r) t) in
      let k = child-in body r i (here g) in
      let n : c < item_count w (size w r) (end w r) (suc (suc r)) = rw clause-count at h in
      let s = item_at w (suc (suc r)) c in
      let q : Child w (suc r) s = rw e (item-at w (size w r) (end w r) (suc (suc r)) c n) in
      child-inside (suc r) s k (opened-closed (class w r) (class w (suc r)) t (body.child_fits r (suc r) i (here g))) q

  -- ---- going on
  climbs : (f s : ℕ) → s < f → s < row_count w → Inside w (after w s)
  climbs zero s m i = absurd (omega arith)
  climbs (suc f) s m i = elim (ℕ_discrete s 0) [
    | yes e ↦ rw (e, after-root w) tt
    | no o ↦
        let (k, j, lt, c) = parent_in body s i (omega arith) in
        let on = climbs f k (omega arith) j in
        case-of (is_loop (class w k))
        (λ t. rw (after-in-loop body k s j c t) (loop-inside k j t))
        (λ t. case-of (is_list (class w k))
        (λ x. elim (dec_lt (end w s) (end w k)) [
          | yes h ↦ rw (after-in-list body k s j c t x h) (child-inside k (end w s) j (list-opens (class w k) x) (item-next c h))
          | no h ↦ rw (after_last body k s j c t x (omega arith)) on
        ])
        (λ x. rw (after-in-other body k s j c t x) on))
  ]

  pub after-inside : (s : ℕ) → s < row_count w → Inside w (after w s)
  after-inside s = climbs (suc s) s (omega arith)

  -- ---- one step
  module _ (r : ℕ) (i : r < row_count w) where
    first-inside : (s : ℕ) → opens (class w r) ≡ false → Child w r s → Inside w (at s)
    first-inside s = child-inside r s i

    enter-inside : opens (class w r) ≡ false → Inside w (enter w p b r)
    enter-inside o = case-of (ltb 1 (size w r))
        (λ t. rw (t, enter) (first-inside (suc r) o (here (omega (arith, ltb-true 1 (size w r) t)))))
        (λ t. rw (t, enter) (after-inside r i))

    taken-inside : (c : ℕ) (y : State) → opens (class w r) ≡ true → Inside w y → Inside w (clause w p b r c y)
    taken-inside c y t g = case-of (ltb c (clause_count w r))
        (λ z. rw (z, clause) (clause-inside r c i t (ltb-true c (clause_count w r) z)))
        (λ z. rw (z, clause) g)

    leads-inside : (k : Class) (c : ℕ) → class w r ≡ k → InsideNext w (step_as w p b k r c)
    leads-inside plain c e = after-inside r i
    leads-inside declaration c e = after-inside r i
    leads-inside empty c e = after-inside r i
    leads-inside labeled c e = first-inside (suc r) (rw e) (here (body.one_statement r i (rw e)).0)
    leads-inside stop c e = tt
    leads-inside break c e = case-found (break_to w p b r)
        (λ s f. let m = (break-to w p b r s f).0 in rw f (after-inside s (omega arith)))
        (λ f. rw f tt)
    leads-inside continue c e = case-found (continue_to w p b r)
        (λ s f. let x = continue-to w p b r s f in rw f (loop-inside s (omega (arith, x.before)) x.passes))
        (λ f. rw f tt)
    leads-inside goto c e = case-found (goto_to w p b r)
        (λ s f. let (m, z) = goto-to w p b r s f in rw f (m, rw z))
        (λ f. rw f tt)
    leads-inside fallthrough c e = case-found (next_case w r)
        (λ s f. let (m, t) = next-case-row body r s i f in rw f (m, case_row (class w s) t))
        (λ f. rw f tt)
    leads-inside block c e = enter-inside (rw e)
    leads-inside case_block c e = tt
    leads-inside comm_block c e = tt
    leads-inside if c e = pick-inside w c (at (suc r)) (after w r) (first-inside (suc r) (rw e) (here (body.one_block r i (rw e)).0)) (after-inside r i)
    leads-inside if_else c e =
        let (h, x, g, y) = body.two_parts r i (rw e) in
        pick-inside w c (at (suc r)) (at (end w (suc r))) (first-inside (suc r) (rw e) (here h)) (first-inside (end w (suc r)) (rw e) (later h (here g)))
    leads-inside case c e = enter-inside (rw e)
    leads-inside default_case c e = enter-inside (rw e)
    leads-inside comm c e = enter-inside (rw e)
    leads-inside default_comm c e = enter-inside (rw e)
    leads-inside switch c e = taken-inside c (after w r) (rw e) (after-inside r i)
    leads-inside type_switch c e = taken-inside c (after w r) (rw e) (after-inside r i)
    leads-inside select c e = taken-inside c stopped (rw e) tt
    leads-inside for c e = first-inside (suc r) (rw e) (here (body.one_block r i (rw e)).0)
    leads-inside for_cond c e = pick-inside w c (at (suc r)) (after w r) (first-inside (suc r) (rw e) (here (body.one_block r i (rw e)).0)) (after-inside r i)

  pub step-inside : (s t : State) (c : ℕ) → Inside w s → step w p b s c ≡ some t → Inside w t
  unfolding step
  step-inside (at r) t c i e = let x = leads-inside r i.0 (class w r) c refl in rw e at x
  step-inside stopped t c i e = absurd (clash (cc))
  step-inside brace t c i e = absurd (clash (cc))

-- ---- some choice is open
module _ (w p b : List ℕ) (r : ℕ) where
  pub clauses-open : 0 < choices_as w p b switch r
  clauses-open = case-of (has_default w r)
      (λ z. rw (z, choices_as) (omega (arith, default-clause w r z)))
      (λ z. rw (z, choices_as) (omega arith))

  pub comms-open : 0 < choices_as w p b select r
  comms-open = some-or-one (clause_count w r)
    where
      some-or-one : (n : ℕ) → 0 < elim n [ zero ↦ 1 | suc m ↦ suc m ]
      some-or-one zero = omega arith
      some-or-one (suc m) = omega arith

  others-open : (k : Class) → is_clause_block k ≡ false → opens k ≡ false → 0 < choices_as w p b k r
  unfolding every lowest
  others-open k n o = ltb-true 0 (choices_as w p b k r)
      (class-rule (λ k. not (is_clause_block k || opens k)) (λ k. ltb 0 (choices_as w p b k r)) refl k (rw (n, o)))

  opens_as : (k : Class) → is_clause_block k ≡ false → 0 < choices_as w p b k r
  opens_as k n = case-of (opens k)
      (λ t. ⊎_elim
      (λ u. by_one _ (switch ∷ type_switch ∷ []) k u (λ e. rw e clauses-open) (λ e. rw e clauses-open))
      (λ u. rw (is_one k select u) comms-open)
      (or-true (is_switch k) (one_of (select ∷ []) k) t))
      (others-open k n)

  pub some-open : is_clause_block (class w r) ≡ false → 0 < choices w p b (at r)
  unfolding choices
  some-open = opens_as (class w r)

-- ---- and leads somewhere
module _ {w p b : List ℕ} (body : Body w p b) (lawful : AllLawful w p b) (placed : placing w ≡ none) (r : ℕ) (i : r < row_count w) where
  abbrev Leads : Option State → Type 0
  Leads o = (t : State) × (o ≡ some t)

  leads-as : (k : Class) (c : ℕ) → class w r ≡ k → c < choices_as w p b k r → Leads (step_as w p b k r c)
  leads-as plain c e h = (_, refl)
  leads-as declaration c e h = (_, refl)
  leads-as empty c e h = (_, refl)
  leads-as labeled c e h = (_, refl)
  leads-as stop c e h = (_, refl)
  leads-as break c e h = let (s, f) = breaks body lawful placed r i e in rw f (_, refl)
  leads-as continue c e h = let (s, f) = continues body lawful placed r i e in rw f (_, refl)
  leads-as goto c e h = let (s, f) = gotos body lawful placed r i e in rw f (_, refl)
  leads-as fallthrough c e h = let (s, f) = falls body lawful placed r i e in rw f (_, refl)
  leads-as block c e h = (_, refl)
  leads-as case_block c e h = absurd (omega arith)
  leads-as comm_block c e h = absurd (omega arith)
  leads-as if c e h = (_, refl)
  leads-as if_else c e h = (_, refl)
  leads-as case c e h = (_, refl)
  leads-as default_case c e h = (_, refl)
  leads-as comm c e h = (_, refl)
  leads-as default_comm c e h = (_, refl)
  leads-as switch c e h = (_, refl)
  leads-as type_switch c e h = (_, refl)
  leads-as select c e h = (_, refl)
  leads-as for c e h = (_, refl)
  leads-as for_cond c e h = (_, refl)

  pub each-leads : (c : ℕ) → c < choices w p b (at r) → (t : State) × (step w p b (at r) c ≡ some t)
  unfolding choices step
  each-leads c h = leads-as (class w r) c refl h
