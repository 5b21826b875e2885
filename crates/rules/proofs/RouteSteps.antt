-- One step: at a row that a route comes to, some choice is open, and each leads to a stop or to another such row.
-- Whoever goes on after a row has that row not final: a plain row, an If without else, a loop with a condition and a switch without default
-- are not terminating, nor is what a break leaves, since the break refers to it.
-- Assumes nothing.
use mathlib.Core.Path.{◌≡◌, refl}
use mathlib.Core.Bool.{true, false}
use mathlib.Core.List.{List, [], ◌∷◌}
use mathlib.Core.Option.{Option, none, some}
use Prim.Native.Nat.{ℕ, zero, suc, ◌<◌}
use native.Mathlib.Omega.{arith}
use lib.Dec.{ltb}
use borrow.Author.Tests.{ltb-true, ltb-false}
use Rattle.rules.specs.Scan.{lowest}
use Rattle.rules.specs.Rows.{row_count, size, end, here, later, Child}
use Rattle.rules.specs.Class.{Class, plain, declaration, empty, labeled, stop, break, continue, goto, fallthrough, block, case_block, comm_block, if}
use Rattle.rules.specs.Class.{if_else, case, default_case, comm, default_comm, switch, type_switch, select, for, for_cond, one_of, is_switch, class}
use Rattle.rules.specs.Refusals.{holding, body as one}
use Rattle.rules.specs.Body.{Body, fits}
use Rattle.rules.specs.Scope.{is_list, next_case}
use Rattle.rules.specs.Placing.{placing}
use Rattle.rules.specs.Verdict.{has_default}
use Rattle.rules.specs.Runner.{State, at, stopped, pick, item_at, item_count, clause_count, after, break_to, continue_to, goto_to, choices_as, enter, clause}
use Rattle.rules.specs.Runner.{step_as}
use Rattle.rules.specs.Law.{AllLawful}
use Rattle.rules.proofs.Test.{case-of, clash}
use Rattle.rules.proofs.Every.{every}
use Rattle.rules.proofs.Shape.{opens}
use Rattle.rules.proofs.ClassRules.{is_clause_block, is_never, child-rule, only-opened, opens-holds}
use Rattle.rules.proofs.Terminating.{refers-inside, no-break}
use Rattle.rules.proofs.Going.{clause-count, item-at}
use Rattle.rules.proofs.Ends.{Ends, empty-ends, all-empty-ends, never_ends, labeled-ends, statements-end, switch-ends, breakable-ends}
use Rattle.rules.proofs.Final.{Final, child-in, final-parent, not-final}
use Rattle.rules.proofs.Onward.{RouteRow, list-opens, is_ordinary, loop-ordinary, ordinary-row, empty-first, goes_on}
use Rattle.rules.proofs.Inside.{clauses-open, comms-open}
use Rattle.rules.proofs.Destinations.{break-to, continue-to, goto-to, next-case-row, breaks, continues, gotos, falls}

-- ---- rules of the classes
part-ordinary : (q c : Class) → one_of (if ∷ if_else ∷ for ∷ for_cond ∷ []) q ≡ true → fits q c ≡ true → is_ordinary c ≡ true
unfolding every lowest
part-ordinary = child-rule (one_of (if ∷ if_else ∷ for ∷ for_cond ∷ [])) is_ordinary refl

opened-block : (q c : Class) → opens q ≡ true → fits q c ≡ true → is_clause_block c ≡ true
unfolding every lowest
opened-block = child-rule opens is_clause_block refl

clause-ordinary : (q c : Class) → is_clause_block q ≡ true → fits q c ≡ true → is_ordinary c ≡ true
unfolding every lowest
clause-ordinary = child-rule is_clause_block is_ordinary refl

-- a state that a route comes to
pub data RouteState (w : List ℕ) : State → Type 0 where
  halted : RouteState w stopped
  standing : (r : ℕ) → RouteRow w r → RouteState w (at r)

-- n choices are open, and each leads to such a state
abbrev pub Leads : List ℕ → ℕ → (ℕ → Option State) → Type 0
Leads w n f = (0 < n) × ((c : ℕ) → c < n → (t : State) × (f c ≡ some t) × RouteState w t)

one_way : {w : List ℕ} {t : State} → RouteState w t → Leads w 1 (λ c. some t)
one_way {t = t} g = (omega arith, λ c h. (t, refl, g))

two_ways : {w : List ℕ} {x y : State} → RouteState w x → RouteState w y → Leads w 2 (λ c. some (pick c x y))
two_ways {w} {x} {y} f g = (omega arith, λ c h. (pick c x y, refl, picked c))
  where
    picked : (c : ℕ) → RouteState w (pick c x y)
    picked zero = g
    picked (suc c) = f

module _ {w p b : List ℕ} (body : Body w p b) (ends : Ends w p b 0) where
  -- going on after a row that is not final
  on : (s : ℕ) → s < row_count w → (Final w s → ⊥) → RouteState w (after w s)
  on s i u = let (t, e, r) = goes_on body s i u in rw e (standing t r)

  past : (s : ℕ) → s < row_count w → (class w s ≡ empty → ⊥) → (Ends w p b s → ⊥) → RouteState w (after w s)
  past s i n m = on s i (not-final body s ends n m)

  ordinary : (s : ℕ) → s < row_count w → is_ordinary (class w s) ≡ true → RouteState w (at s)
  ordinary s i t = standing s (ordinary-row s i t)

  module _ (r : ℕ) (known : RouteRow w r) where
    inside : r < row_count w
    inside = known.row

    past-never : is_never (class w r) ≡ true → (class w r ≡ empty → ⊥) → RouteState w (after w r)
    past-never t n = past r inside n (never_ends w p b r t)

    -- a child of an If or loop
    part : (s : ℕ) → one_of (if ∷ if_else ∷ for ∷ for_cond ∷ []) (class w r) ≡ true → Child w r s → RouteState w (at s)
    part s t c = ordinary s (child-in body r inside c) (part-ordinary (class w r) (class w s) t (body.child_fits r s inside c))

    -- the first child, where it is not both Empty and final
    first : suc r < end w r → opens (class w r) ≡ false → (class w (suc r) ≡ empty → Final w (suc r) → ⊥) → RouteState w (at (suc r))
    first h o u = standing (suc r) (record {
      row = child-in body r inside (here h);
      not-clauses = only-opened (class w r) (class w (suc r)) o (body.child_fits r (suc r) inside (here h));
      not_last = u;
    })

    statement-of : class w r ≡ labeled → RouteState w (at (suc r))
    statement-of e =
        let h = (body.one_statement r inside (rw e)).0 in
        first h (rw e) (λ x d.
        let f = (final-parent body r d (omega arith) inside (here h)).0 in
        not-final body r ends (λ y. clash (cc)) (λ t. empty-ends w p b (suc r) x (labeled-ends w p b r e t)) f)

    -- a list
    entered : is_list (class w r) ≡ true → opens (class w r) ≡ false → (class w r ≡ empty → ⊥) → RouteState w (enter w p b r)
    entered t o n = case-of (ltb 1 (size w r))
        (λ z.
        let g = ltb-true 1 (size w r) z in
        let h : suc r < end w r = omega arith in
        rw (z, enter) (first h o (λ x d.
        let (f, y, a) = final-parent body r d (omega arith) inside (here h) in
        let k = empty-first body (suc r) (end w r) (child-in body r inside (here h)) x (a t) in
        not-final body r ends n (λ u. all-empty-ends w p b (end w r) (suc r) k (statements-end w p b r t u)) f)))
        (λ z.
        let g = ltb-false 1 (size w r) z in
        rw (z, enter) (past r inside n (λ u. all-empty-ends w p b (end w r) (suc r) (λ k a x. absurd (omega arith)) (statements-end w p b r t u))))

    -- a clause of a switch or Select
    clause-of : (c : ℕ) → opens (class w r) ≡ true → c < clause_count w r → RouteState w (at (item_at w (suc (suc r)) c))
    clause-of c t h =
        let (g, e) = body.one_block r inside (opens-holds (class w r) t) in
        let k = child-in body r inside (here g) in
        let n : c < item_count w (size w r) (end w r) (suc (suc r)) = rw clause-count at h in
        let s = item_at w (suc (suc r)) c in
        let q : Child w (suc r) s = rw e (item-at w (size w r) (end w r) (suc (suc r)) c n) in
        let x = opened-block (class w r) (class w (suc r)) t (body.child_fits r (suc r) inside (here g)) in
        ordinary s (child-in body (suc r) k q) (clause-ordinary (class w (suc r)) (class w s) x (body.child_fits (suc r) s (k) q))

    -- a switch: with a default each choice is a clause, without one it is not terminating
    switched : (c : ℕ) → is_switch (class w r) ≡ true → c < elim (has_default w r) [ true ↦ clause_count w r | false ↦ suc (clause_count w r) ]
        → RouteState w (clause w p b r c (after w r))
    switched c t h = case-of (ltb c (clause_count w r))
        (λ z. rw (z, clause) (clause-of c (rw t) (ltb-true c (clause_count w r) z)))
        (λ z. rw (z, clause) (past r inside (λ e. let y : false ≡ true = rw e at t in clash (cc)) (λ u.
        let n : c < clause_count w r = rw (switch-ends w p b r t u).0 at h in
        omega (arith, ltb-false c (clause_count w r) z))))

    selected : (c : ℕ) → class w r ≡ select → RouteState w (clause w p b r c stopped)
    selected c e = case-of (ltb c (clause_count w r))
        (λ z. rw (z, clause) (clause-of c (rw e) (ltb-true c (clause_count w r) z)))
        (λ z. rw (z, clause) halted)

    -- ---- branches
    broken : (s : ℕ) → class w r ≡ break → break_to w p b r ≡ some s → RouteState w (after w s)
    broken s e f =
        let (h, t) = break-to w p b r s f in
        let a = refers-inside w p b r s t in
        past s (omega arith) (λ x. let z : false ≡ true = rw x at a.passes in clash (cc))
        (λ u. no-break w p b s r (breakable-ends w p b s a.passes u) a.reaches e t)

    continued : (s : ℕ) → continue_to w p b r ≡ some s → RouteState w (at s)
    continued s f =
        let a = continue-to w p b r s f in
        ordinary s (omega (arith, a.before)) (loop-ordinary (class w s) a.passes)

    gone : (s : ℕ) → goto_to w p b r ≡ some s → RouteState w (at s)
    gone s f = let (a, e) = goto-to w p b r s f in ordinary s a (rw e)

    fallen : (s : ℕ) → next_case w r ≡ some s → RouteState w (at s)
    fallen s f = let (a, t) = next-case-row body r s inside f in ordinary s a (clause-ordinary case_block (class w s) refl t)

    -- ---- the step, by the class of the row
    listed : is_list (class w r) ≡ true → Leads w 1 (λ c. some (enter w p b r))
    listed t = one_way (entered t (list-opens (class w r) t) (λ x. let z : false ≡ true = rw x at t in clash (cc)))

    first_part : holding (class w r) ≡ one → one_of (if ∷ if_else ∷ for ∷ for_cond ∷ []) (class w r) ≡ true → RouteState w (at (suc r))
    first_part h t = part (suc r) t (here (body.one_block r inside h).0)

    module _ (lawful : AllLawful w p b) (placed : placing w ≡ none) where
      pub moves : (k : Class) → class w r ≡ k → Leads w (choices_as w p b k r) (step_as w p b k r)
      moves plain e = one_way (past-never (rw e) (λ x. clash (cc)))
      moves declaration e = one_way (past-never (rw e) (λ x. clash (cc)))
      moves empty e = one_way (on r inside (known.not_last e))
      moves labeled e = one_way (statement-of e)
      moves stop e = one_way halted
      moves break e = let (s, f) = breaks body lawful placed r inside e in rw f (one_way (broken s e f))
      moves continue e = let (s, f) = continues body lawful placed r inside e in rw f (one_way (continued s f))
      moves goto e = let (s, f) = gotos body lawful placed r inside e in rw f (one_way (gone s f))
      moves fallthrough e = let (s, f) = falls body lawful placed r inside e in rw f (one_way (fallen s f))
      moves block e = listed (rw e)
      moves case_block e = absurd (let z : true ≡ false = rw e at known.not-clauses in clash (cc))
      moves comm_block e = absurd (let z : true ≡ false = rw e at known.not-clauses in clash (cc))
      moves if e = two_ways (first_part (rw e) (rw e)) (past-never (rw e) (λ x. clash (cc)))
      moves if_else e =
          let (h, x, g, y) = body.two_parts r inside (rw e) in
          two_ways (part (suc r) (rw e) (here h)) (part (end w (suc r)) (rw e) (later h (here g)))
      moves case e = listed (rw e)
      moves default_case e = listed (rw e)
      moves comm e = listed (rw e)
      moves default_comm e = listed (rw e)
      moves switch e = (clauses-open w p b r, λ c h. (clause w p b r c (after w r), refl, switched c (rw e) h))
      moves type_switch e = (clauses-open w p b r, λ c h. (clause w p b r c (after w r), refl, switched c (rw e) h))
      moves select e = (comms-open w p b r, λ c h. (clause w p b r c stopped, refl, selected c e))
      moves for e = one_way (first_part (rw e) (rw e))
      moves for_cond e = two_ways (first_part (rw e) (rw e)) (past-never (rw e) (λ x. clash (cc)))
