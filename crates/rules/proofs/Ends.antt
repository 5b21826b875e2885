-- What a terminating row says of what stands below it, and of its breaks: the rules of the verdict, read downward, with any number of steps.
-- Assumes nothing.
use mathlib.Core.Path.{◌≡◌, sym, ◌∙◌}
use mathlib.Core.Bool.{true, false, ◌&&◌, not}
use mathlib.Core.List.{List, [], ◌∷◌}
use Prim.Native.Nat.{ℕ, zero, suc}
use native.Mathlib.Omega.{arith}
use native.Mathlib.Decide.{dec_lt}
use borrow.Author.Tests.{not-true}
use Rattle.rules.specs.Rows.{end, Item, here, later}
use Rattle.rules.specs.Class.{empty, labeled, if_else, switch, type_switch, select, for, for_cond, is_switch, is_breakable, class}
use Rattle.rules.specs.Scope.{is_list, only_empty}
use Rattle.rules.specs.Verdict.{has_default, has_own_break, terminating, terminating_list, terminating_clauses}
use Rattle.rules.proofs.Test.{case-of, clash, and-true}
use Rattle.rules.proofs.Nesting.{item-before, item_from}
use Rattle.rules.proofs.ClassRules.{is_clause_block, is_never, by_one, breakable-one}
use Rattle.rules.proofs.Around.{AllEmpty, only-empty, all-empty}
use Rattle.rules.proofs.Terminating.{terminating-zero, terminating-never, terminating-labeled, terminating-statements, terminating-clauses}
use Rattle.rules.proofs.Terminating.{terminating-if_else, terminating-switch, terminating-select, terminating-for, list-zero, list-none, list-last}
use Rattle.rules.proofs.Terminating.{list-more, clauses-zero, clauses-more}

-- ---- lists and clauses
module _ (w p b : List ℕ) where
  -- terminating with some number of steps
  abbrev pub Ends : ℕ → Type 0
  Ends r = (f : ℕ) × (terminating w p b f r ≡ true)

  abbrev pub ListEnds : ℕ → ℕ → Type 0
  ListEnds e c = (f : ℕ) × (terminating_list w p b f e c ≡ true)

  abbrev pub ClausesEnd : ℕ → ℕ → Type 0
  ClausesEnd e c = (f : ℕ) × (terminating_clauses w p b f e c ≡ true)

  pub never_ends : (r : ℕ) → is_never (class w r) ≡ true → Ends r → ⊥
  never_ends r n (f, t) = let z = terminating-never w p b f r n in clash (cc)

  -- Empty rows end nothing
  pub empty-ends : (c : ℕ) → class w c ≡ empty → Ends c → ⊥
  empty-ends c e = never_ends c (rw e)

  pub all-empty-ends : (e c : ℕ) → AllEmpty w c e → ListEnds e c → ⊥
  all-empty-ends e c a (f, t) = by-steps f t
    where
      by-steps : (f : ℕ) → terminating_list w p b f e c ≡ true → ⊥
      by-steps zero t = let z = list-zero w p b e c in clash (cc)
      by-steps (suc f) t = elim (dec_lt c e) [
        | no n ↦ let z = list-none w p b (suc f) e c (omega arith) in clash (cc)
        | yes y ↦
            let l = list-last w p b f e c y (all-empty w (end w c) e (λ k h m. a k (omega arith) m)) in
            empty-ends c (a c (omega arith) y) (f, sym l ∙ t)
      ]

  -- of a terminating list, the last item that is not Empty is terminating
  pub last-ends : (f : ℕ) {e c s : ℕ} → Item w e c s → (class w s ≡ empty → ⊥) → AllEmpty w (end w s) e → terminating_list w p b f e c ≡ true → Ends s
  last-ends zero {e} {c} i n a t = absurd (let z = list-zero w p b e c in clash (cc))
  last-ends (suc f) {e} {c} (here l) n a t = (f, sym (list-last w p b f e c l (all-empty w (end w c) e a)) ∙ t)
  last-ends (suc f) {e} {c} {s} (later l i) n a t = case-of (only_empty w (end w c) e)
      (λ u. absurd (n (only-empty w (end w c) e u s (item_from i) (item-before i))))
      (λ u. last-ends f i n a (sym (list-more w p b f e c l u) ∙ t))

  -- and each of the clauses
  pub clause-ends : (f : ℕ) {e c s : ℕ} → Item w e c s → terminating_clauses w p b f e c ≡ true → Ends s
  clause-ends zero {e} {c} i t = absurd (let z = clauses-zero w p b e c in clash (cc))
  clause-ends (suc f) {e} {c} (here l) t =
      (f, (and-true (terminating w p b f c) (terminating_clauses w p b f e (end w c)) (sym (clauses-more w p b f e c l) ∙ t)).0)
  clause-ends (suc f) {e} {c} (later l i) t =
      clause-ends f i (and-true (terminating w p b f c) (terminating_clauses w p b f e (end w c)) (sym (clauses-more w p b f e c l) ∙ t)).1

  -- ---- what a terminating row says of its children and breaks
  step_left : (r : ℕ) → Ends r → (f : ℕ) × (terminating w p b (suc f) r ≡ true)
  step_left r (f, t) = by-steps f t
    where
      by-steps : (f : ℕ) → terminating w p b f r ≡ true → (f : ℕ) × (terminating w p b (suc f) r ≡ true)
      by-steps zero t = absurd (let z = terminating-zero w p b r in clash (cc))
      by-steps (suc f) t = (f, t)

  pub labeled-ends : (r : ℕ) → class w r ≡ labeled → Ends r → Ends (suc r)
  labeled-ends r e t = let (f, u) = step_left r t in (f, sym (terminating-labeled w p b f r e) ∙ u)

  pub statements-end : (r : ℕ) → is_list (class w r) ≡ true → Ends r → ListEnds (end w r) (suc r)
  statements-end r e t = let (f, u) = step_left r t in (f, sym (terminating-statements w p b f r e) ∙ u)

  pub clauses-end : (r : ℕ) → is_clause_block (class w r) ≡ true → Ends r → ClausesEnd (end w r) (suc r)
  clauses-end r e t = let (f, u) = step_left r t in (f, sym (terminating-clauses w p b f r e) ∙ u)

  pub if_else-ends : (r : ℕ) → class w r ≡ if_else → Ends r → Ends (suc r) × Ends (end w (suc r))
  if_else-ends r e t =
      let (f, u) = step_left r t in
      let x = and-true (terminating w p b f (suc r)) (terminating w p b f (end w (suc r))) (sym (terminating-if_else w p b f r e) ∙ u) in
      ((f, x.0), (f, x.1))

  pub switch-ends : (r : ℕ) → is_switch (class w r) ≡ true → Ends r → (has_default w r ≡ true) × (has_own_break w p b r ≡ false) × Ends (suc r)
  switch-ends r e t =
      let (f, u) = step_left r t in
      let x = and-true (has_default w r && not (has_own_break w p b r)) (terminating w p b f (suc r)) (sym (terminating-switch w p b f r e) ∙ u) in
      let y = and-true (has_default w r) (not (has_own_break w p b r)) x.0 in
      (y.0, not-true (has_own_break w p b r) y.1, (f, x.1))

  pub select-ends : (r : ℕ) → class w r ≡ select → Ends r → (has_own_break w p b r ≡ false) × Ends (suc r)
  select-ends r e t =
      let (f, u) = step_left r t in
      let x = and-true (not (has_own_break w p b r)) (terminating w p b f (suc r)) (sym (terminating-select w p b f r e) ∙ u) in
      (not-true (has_own_break w p b r) x.0, (f, x.1))

  pub for-ends : (r : ℕ) → class w r ≡ for → Ends r → has_own_break w p b r ≡ false
  for-ends r e t = let (f, u) = step_left r t in not-true (has_own_break w p b r) (sym (terminating-for w p b f r e) ∙ u)

  -- no break refers to a terminating row
  pub breakable-ends : (r : ℕ) → is_breakable (class w r) ≡ true → Ends r → has_own_break w p b r ≡ false
  breakable-ends r e t = by_one _ (switch ∷ type_switch ∷ select ∷ for ∷ for_cond ∷ []) (class w r) (breakable-one (class w r) e)
      (λ c. (switch-ends r (rw c) t).1) (λ c. (switch-ends r (rw c) t).1) (λ c. (select-ends r c t).0) (λ c. for-ends r c t) (λ c. absurd (never_ends r (rw c) t))
