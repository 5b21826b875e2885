-- The verdict's rules without a number of steps: what makes a statement of each class terminating, a list, and the clauses of a switch or Select.
-- Each is its rule with one step taken, and the steps that are left are enough.
-- Assumes nothing.
use mathlib.Core.Path.{◌≡◌, refl, sym, ◌∙◌, ap}
use mathlib.Core.Bool.{Bool, true, false, ◌&&◌, ◌||◌, not}
use mathlib.Core.Logic.{◌⊎◌, inl, inr, ⊎_elim}
use mathlib.Core.List.{List, [], ◌∷◌}
use Prim.Native.Nat.{ℕ, suc, ◌+◌, ◌-◌, ◌*◌, ◌≤◌, ◌<◌}
use native.Mathlib.Omega.{arith}
use native.Mathlib.Decide.{dec_lt}
use borrow.Author.Tests.{not-true}
use Rattle.rules.specs.Scan.{lowest}
use Rattle.rules.specs.Rows.{row_count, size, end, Item, here, later}
use Rattle.rules.specs.Class.{Class, empty, labeled, if_else, select, for, one_of, is_switch, class}
use Rattle.rules.specs.Scope.{is_list, only_empty}
use Rattle.rules.specs.Labels.{is_class}
use Rattle.rules.specs.Verdict.{has_default, has_own_break, terminating, terminating_list, terminating_clauses}
use Rattle.rules.specs.Body.{Body, fits}
use Rattle.rules.proofs.Test.{case-of, or-true}
use Rattle.rules.proofs.Every.{every, is_one}
use Rattle.rules.proofs.Shape.{opens}
use Rattle.rules.proofs.ClassRules.{is_clause_block, is_never, is_always, opens-holds, class-rule, child-rule}
use Rattle.rules.proofs.Nesting.{item-before, item_from}
use Rattle.rules.proofs.Around.{only-empty, all-empty}
use Rattle.rules.proofs.Terminating.{terminating-never, terminating-always, terminating-labeled, terminating-statements, terminating-clauses}
use Rattle.rules.proofs.Terminating.{terminating-if_else, terminating-switch, terminating-select, terminating-for, list-none, list-last, list-more}
use Rattle.rules.proofs.Terminating.{clauses-none, clauses-more}
use Rattle.breaks.specs.Leaves.{Closed}
use Rattle.returns.specs.Search.{Last, is_terminating_body, is_terminating_list}
use Rattle.breaks.proofs.Ranges.{closed-below, closed-rest}
use Rattle.returns.proofs.Enough.{enough}

-- every clause from c on, before e, is terminating
unfoldable pub clauses_end : List ℕ → List ℕ → List ℕ → ℕ → ℕ → Bool
clauses_end w p b e c = terminating_clauses w p b (suc ((e - c) + (e - c))) e c

-- a switch is as a Select that has a default
switch-or-select : (c : Class) → opens c ≡ true → (is_switch c ≡ true) ⊎ (c ≡ select)
switch-or-select c t = ⊎_elim (λ u. inl u) (λ u. inr (is_one c select u)) (or-true (is_switch c) (one_of (select ∷ []) c) t)

switch-no-select : (c : Class) → is_switch c ≡ true → one_of (select ∷ []) c ≡ false
unfolding every lowest
switch-no-select c t = not-true (one_of (select ∷ []) c) (class-rule is_switch (λ c. not (one_of (select ∷ []) c)) refl c t)

pub opens-block : (q c : Class) → opens q ≡ true → fits q c ≡ true → is_clause_block c ≡ true
unfolding every lowest
opens-block = child-rule opens is_clause_block refl

never-always : (c : Class) → is_never c ≡ true → is_always c ≡ false
unfolding every lowest
never-always c t = not-true (is_always c) (class-rule is_never (λ c. not (is_always c)) refl c t)

module _ {w p b : List ℕ} (body : Body w p b) where
  -- ---- any number of steps that is enough
  at_row : (f r : ℕ) → r < row_count w → 2 * size w r ≤ f → terminating w p b f r ≡ is_terminating_body w p b r
  unfolding is_terminating_body
  at_row f r h x = (enough body f).row (suc (size w r + size w r)) r h x (omega arith)

  at_list : (f e c : ℕ) → Closed w c e → 2 * (e - c) + 1 ≤ f → terminating_list w p b f e c ≡ is_terminating_list w p b e c
  unfolding is_terminating_list
  at_list f e c a x = (enough body f).list (suc ((e - c) + (e - c))) e c a x (omega arith)

  at-clauses : (f e c : ℕ) → Closed w c e → 2 * (e - c) + 1 ≤ f → terminating_clauses w p b f e c ≡ clauses_end w p b e c
  unfolding clauses_end
  at-clauses f e c a x = (enough body f).clauses (suc ((e - c) + (e - c))) e c a x (omega arith)

  -- ---- a row
  module _ (r : ℕ) (h : r < row_count w) where
    -- with a step taken
    taken : (f : ℕ) → 2 * size w r ≤ suc f → is_terminating_body w p b r ≡ terminating w p b (suc f) r
    taken f x = sym (at_row (suc f) r h x)

    pub row_settled : is_never (class w r) || is_always (class w r) ≡ true → is_terminating_body w p b r ≡ is_always (class w r)
    row_settled t = let s = size w r in let x : 2 * s ≤ suc (2 * s) = omega arith in ⊎_elim
        (λ n. taken (2 * s) x ∙ terminating-never w p b (suc (2 * s)) r n ∙ sym (never-always (class w r) n))
        (λ a. taken (2 * s) x ∙ terminating-always w p b (2 * s) r a ∙ sym a)
        (or-true (is_never (class w r)) (is_always (class w r)) t)

    pub row_list : is_list (class w r) ≡ true → is_terminating_body w p b r ≡ is_terminating_list w p b (end w r) (suc r)
    row_list t =
        let n = body.sized.some_rows r h in
        let s = size w r + size w r in
        taken s (omega arith) ∙ terminating-statements w p b s r t ∙ at_list s (end w r) (suc r) (closed-below body r h) (omega arith)

    pub row-labeled : class w r ≡ labeled → is_terminating_body w p b r ≡ is_terminating_body w p b (suc r)
    row-labeled e =
        let s = size w r + size w r in
        let (l, q) = body.one_statement r h (rw e) in
        let m = body.sized.within r h in
        taken s (omega arith) ∙ terminating-labeled w p b s r e ∙ at_row s (suc r) (omega arith) (omega arith)

    pub row-if_else : class w r ≡ if_else → is_terminating_body w p b r ≡ (is_terminating_body w p b (suc r) && is_terminating_body w p b (end w (suc r)))
    row-if_else e =
        let s = size w r + size w r in
        let (l, i, k, q) = body.two_parts r h (rw e) in
        let m = body.sized.within r h in
        let n = body.sized.some_rows (suc r) (omega arith) in
        let first = at_row s (suc r) (omega arith) (omega arith) in
        let second = at_row s (end w (suc r)) (omega arith) (omega arith) in
        taken s (omega arith) ∙ terminating-if_else w p b s r e ∙ rw (first, second)

    pub row-for : class w r ≡ for → is_terminating_body w p b r ≡ not (has_own_break w p b r)
    row-for e = let s = size w r + size w r in taken s (omega arith) ∙ terminating-for w p b s r e

    -- a switch or Select, by its clauses: a switch needs a default
    pub row_opens : opens (class w r) ≡ true
        → is_terminating_body w p b r ≡ (((is_class w select r || has_default w r) && not (has_own_break w p b r)) && clauses_end w p b (end w r) (suc (suc r)))
    row_opens t =
        let s = size w r + size w r in
        let (l, q) = body.one_block r h (opens-holds (class w r) t) in
        let m = body.sized.within r h in
        let n : suc r < row_count w = omega arith in
        let f : ℕ = s - 1 in
        let z : s ≡ suc f = omega arith in
        let k = opens-block (class w r) (class w (suc r)) t (body.child_fits r (suc r) h (here l)) in
        let inner : terminating w p b s (suc r) ≡ clauses_end w p b (end w r) (suc (suc r)) =
        ap (λ (x : ℕ). terminating w p b x (suc r)) z ∙ terminating-clauses w p b f (suc r) k
        ∙ at-clauses f (end w (suc r)) (suc (suc r)) (closed-below body (suc r) n) (omega arith)
        ∙ ap (λ (x : ℕ). clauses_end w p b x (suc (suc r))) q in
        taken s (omega arith) ∙ ⊎_elim
        (λ u. terminating-switch w p b s r u ∙ rw (inner, switch-no-select (class w r) u))
        (λ e. terminating-select w p b s r e ∙ rw (inner, e))
        (switch-or-select (class w r) t)

  -- ---- a list
  pub list-empty : (e c : ℕ) → Closed w c e → only_empty w c e ≡ true → is_terminating_list w p b e c ≡ false
  list-empty e c a t = elim (dec_lt c e) [
    | no n ↦ sym (at_list _ e c a (omega arith)) ∙ list-none w p b (suc (2 * (e - c))) e c (omega arith)
    | yes l ↦
        let f : ℕ = 2 * (e - c) in
        let i = only-empty w c e t in
        let rest = all-empty w (end w c) e (λ k m n. i k (omega arith) n) in
        let only : class w c ≡ empty = i c (omega arith) l in
        sym (at_list (suc f) e c a (omega arith)) ∙ list-last w p b f e c l rest ∙ terminating-never w p b f c (rw only)
  ]

  -- the item s is the last that is no Empty
  module _ {e s : ℕ} (full : class w s ≡ empty → ⊥) (rest : only_empty w (end w s) e ≡ true) where
    list-by-item : {c : ℕ} → Item w e c s → Closed w c e → is_terminating_list w p b e c ≡ is_terminating_body w p b s
    list-by-item {c} (here l) a =
        let f : ℕ = 2 * (e - c) in
        let h : c < row_count w = omega (arith, a.within) in
        let n = (closed-rest body a l).order in
        sym (at_list (suc f) e c a (omega arith)) ∙ list-last w p b f e c l rest ∙ at_row f c h (omega arith)
    list-by-item {c} (later l i) a =
        let f : ℕ = 2 * (e - c) in
        let h : c < row_count w = omega (arith, a.within) in
        let n = body.sized.some_rows c h in
        let m = closed-rest body a l in
        let more : only_empty w (end w c) e ≡ false =
        case-of (only_empty w (end w c) e) (λ t. absurd (full (only-empty w (end w c) e t s (item_from i) (item-before i)))) (λ t. t) in
        sym (at_list (suc f) e c a (omega arith)) ∙ list-more w p b f e c l more ∙ at_list f e (end w c) m (omega arith) ∙ list-by-item i m

  pub last-answer : {c e s : ℕ} → Closed w c e → Last w c e s → {t : Bool} → t ≡ is_terminating_body w p b s → t ≡ is_terminating_list w p b e c
  last-answer a l q = q ∙ sym (list-by-item l.no_empty l.rest l.item a)

  -- ---- the clauses
  pub clauses-ended : (e c : ℕ) → e ≤ c → clauses_end w p b e c ≡ true
  unfolding clauses_end
  clauses-ended e c l = clauses-none w p b ((e - c) + (e - c)) e c l

  pub clauses-next : (e c : ℕ) → Closed w c e → c < e → is_list (class w c) ≡ true
      → clauses_end w p b e c ≡ (is_terminating_list w p b (end w c) (suc c) && clauses_end w p b e (end w c))
  clauses-next e c a l t =
      let f : ℕ = 2 * (e - c) in
      let h : c < row_count w = omega (arith, a.within) in
      let n = body.sized.some_rows c h in
      let m = closed-rest body a l in
      let o = m.order in
      sym (at-clauses (suc f) e c a (omega arith)) ∙ clauses-more w p b f e c l
      ∙ rw (at_row f c h (omega arith), row_list c h t, at-clauses f e (end w c) m (omega arith))
