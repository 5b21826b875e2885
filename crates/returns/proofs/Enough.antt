-- Steps enough: twice the rows of a statement, and one more than twice the rows of a list or of clauses, answer as any higher number of steps does.
-- A statement passes at least one row on to what stands below it, and a list or the clauses at least one with each item; so by induction on the steps.
-- Assumes nothing.
use mathlib.Core.Path.{◌≡◌, sym, ◌∙◌, ap}
use mathlib.Core.Bool.{Bool, ◌&&◌, not}
use mathlib.Core.List.{List}
use Prim.Native.Nat.{ℕ, zero, suc, ◌+◌, ◌-◌, ◌*◌, ◌≤◌, ◌<◌}
use native.Mathlib.Omega.{arith}
use native.Mathlib.Decide.{dec_lt}
use Rattle.rules.specs.Rows.{row_count, size, end}
use Rattle.rules.specs.Class.{class}
use Rattle.rules.specs.Scope.{only_empty}
use Rattle.rules.specs.Verdict.{any_default, has_default, has_own_break, terminating, terminating_list, terminating_clauses}
use Rattle.rules.specs.Body.{Body, OneChild, TwoChildren}
use Rattle.rules.proofs.Test.{case-of}
use Rattle.rules.proofs.ClassRules.{opens-holds, by-rule}
use Rattle.rules.proofs.Terminating.{any-default-more, any-default-none, terminating-never, terminating-always, terminating-labeled, terminating-statements}
use Rattle.rules.proofs.Terminating.{terminating-clauses, terminating-if_else, terminating-switch, terminating-select, terminating-for, list-none, list-last}
use Rattle.rules.proofs.Terminating.{list-more, clauses-none, clauses-more}
use Rattle.breaks.specs.Leaves.{Closed}
use Rattle.breaks.proofs.Ranges.{closed-below, closed-rest}

module _ {w p b : List ℕ} (body : Body w p b) where
  -- f steps answer as g do, where both are enough
  pub record Enough (f : ℕ) : Type 0 where
    pub row : (g r : ℕ) → r < row_count w → 2 * size w r ≤ f → 2 * size w r ≤ g → terminating w p b f r ≡ terminating w p b g r
    pub list : (g e c : ℕ) → Closed w c e → 2 * (e - c) + 1 ≤ f → 2 * (e - c) + 1 ≤ g → terminating_list w p b f e c ≡ terminating_list w p b g e c
    pub clauses : (g e c : ℕ) → Closed w c e → 2 * (e - c) + 1 ≤ f → 2 * (e - c) + 1 ≤ g
        → terminating_clauses w p b f e c ≡ terminating_clauses w p b g e c

  -- with one step taken
  module _ (f : ℕ) (m : Enough f) (g : ℕ) where
    -- the one child of a row, and the two parts of an If
    module _ (r : ℕ) (h : r < row_count w) (x : 2 * size w r ≤ suc f) (y : 2 * size w r ≤ suc g) where
      one : OneChild w r → terminating w p b f (suc r) ≡ terminating w p b g (suc r)
      one (l, e) = let n = body.sized.within r h in m.row g (suc r) (omega arith) (omega arith) (omega arith)

      two : TwoChildren w r → (terminating w p b f (suc r) && terminating w p b f (end w (suc r)))
          ≡ (terminating w p b g (suc r) && terminating w p b g (end w (suc r)))
      two (l, e, k, q) =
          let n = body.sized.within r h in
          let first = m.row g (suc r) (omega arith) (omega arith) (omega arith) in
          let i = body.sized.some_rows (suc r) (omega arith) in
          let second = m.row g (end w (suc r)) (omega arith) (omega arith) (omega arith) in
          rw (first, second)

    row_step : (r : ℕ) → r < row_count w → 2 * size w r ≤ suc f → 2 * size w r ≤ suc g → terminating w p b (suc f) r ≡ terminating w p b (suc g) r
    row_step r h x y =
        let n = body.sized.some_rows r h in
        let fill = one r h x y in
        let xf : 2 * (end w r - suc r) + 1 ≤ f = omega arith in
        let yg : 2 * (end w r - suc r) + 1 ≤ g = omega arith in
        by-rule (class w r)
        (λ t. terminating-never w p b (suc f) r t ∙ sym (terminating-never w p b (suc g) r t))
        (λ t. terminating-always w p b f r t ∙ sym (terminating-always w p b g r t))
        (λ t. terminating-statements w p b f r t ∙ m.list g (end w r) (suc r) (closed-below body r h) xf yg
        ∙ sym (terminating-statements w p b g r t))
        (λ t. terminating-clauses w p b f r t ∙ m.clauses g (end w r) (suc r) (closed-below body r h) xf yg
        ∙ sym (terminating-clauses w p b g r t))
        (λ t. terminating-switch w p b f r t ∙ ap (λ (x : Bool). (has_default w r && not (has_own_break w p b r)) && x)
        (fill (body.one_block r h (opens-holds (class w r) (rw t))))
        ∙ sym (terminating-switch w p b g r t))
        (λ e. terminating-labeled w p b f r e ∙ fill (body.one_statement r h (rw e)) ∙ sym (terminating-labeled w p b g r e))
        (λ e. terminating-if_else w p b f r e ∙ two r h x y (body.two_parts r h (rw e)) ∙ sym (terminating-if_else w p b g r e))
        (λ e. terminating-select w p b f r e ∙ ap (λ (x : Bool). not (has_own_break w p b r) && x) (fill (body.one_block r h (rw e)))
        ∙ sym (terminating-select w p b g r e))
        (λ e. terminating-for w p b f r e ∙ sym (terminating-for w p b g r e))

    -- the first item of a list leaves fewer rows, and is itself no longer than the list
    list-step : (e c : ℕ) → Closed w c e → 2 * (e - c) + 1 ≤ suc f → 2 * (e - c) + 1 ≤ suc g
        → terminating_list w p b (suc f) e c ≡ terminating_list w p b (suc g) e c
    list-step e c a x y = elim (dec_lt c e) [
      | no n ↦ list-none w p b (suc f) e c (omega arith) ∙ sym (list-none w p b (suc g) e c (omega arith))
      | yes l ↦
          let h : c < row_count w = omega (arith, a.within) in
          let i = body.sized.some_rows c h in
          let k = (closed-rest body a l).order in
          case-of (only_empty w (end w c) e)
          (λ t. list-last w p b f e c l t ∙ m.row g c h (omega arith) (omega arith) ∙ sym (list-last w p b g e c l t))
          (λ t. list-more w p b f e c l t ∙ m.list g e (end w c) (closed-rest body a l) (omega arith) (omega arith)
          ∙ sym (list-more w p b g e c l t))
    ]

    clauses-step : (e c : ℕ) → Closed w c e → 2 * (e - c) + 1 ≤ suc f → 2 * (e - c) + 1 ≤ suc g
        → terminating_clauses w p b (suc f) e c ≡ terminating_clauses w p b (suc g) e c
    clauses-step e c a x y = elim (dec_lt c e) [
      | no n ↦ clauses-none w p b f e c (omega arith) ∙ sym (clauses-none w p b g e c (omega arith))
      | yes l ↦
          let h : c < row_count w = omega (arith, a.within) in
          let i = body.sized.some_rows c h in
          let k = (closed-rest body a l).order in
          let first = m.row g c h (omega arith) (omega arith) in
          let rest = m.clauses g e (end w c) (closed-rest body a l) (omega arith) (omega arith) in
          clauses-more w p b f e c l ∙ rw (first, rest) (sym (clauses-more w p b g e c l))
    ]

  pub enough : (f : ℕ) → Enough f
  enough zero = record {
    row = λ g r h x y. absurd (omega (arith, body.sized.some_rows r h));
    list = λ g e c a x y. absurd (omega arith);
    clauses = λ g e c a x y. absurd (omega arith);
  }
  enough (suc f) = let m = enough f in record { row = row_more m; list = list-more-of m; clauses = clauses-more-of m }
    where
      row_more : Enough f → (g r : ℕ) → r < row_count w → 2 * size w r ≤ suc f → 2 * size w r ≤ g → terminating w p b (suc f) r ≡ terminating w p b g r
      row_more m zero r h x y = absurd (omega (arith, body.sized.some_rows r h))
      row_more m (suc g) r h x y = row_step f m g r h x y

      list-more-of : Enough f → (g e c : ℕ) → Closed w c e → 2 * (e - c) + 1 ≤ suc f → 2 * (e - c) + 1 ≤ g
          → terminating_list w p b (suc f) e c ≡ terminating_list w p b g e c
      list-more-of m zero e c a x y = absurd (omega arith)
      list-more-of m (suc g) e c a x y = list-step f m g e c a x y

      clauses-more-of : Enough f → (g e c : ℕ) → Closed w c e → 2 * (e - c) + 1 ≤ suc f → 2 * (e - c) + 1 ≤ g
          → terminating_clauses w p b (suc f) e c ≡ terminating_clauses w p b g e c
      clauses-more-of m zero e c a x y = absurd (omega arith)
      clauses-more-of m (suc g) e c a x y = clauses-step f m g e c a x y

-- ---- a step for each row is enough to look for a default
module _ {w p b : List ℕ} (body : Body w p b) where
  no_default : (f g e c : ℕ) → e ≤ c → any_default w f e c ≡ any_default w g e c
  no_default f g e c l = any-default-none w f e c l ∙ sym (any-default-none w g e c l)

  pub enough-defaults : (f g e c : ℕ) → Closed w c e → e - c ≤ f → e - c ≤ g → any_default w f e c ≡ any_default w g e c
  enough-defaults zero g e c a x y = no_default zero g e c (omega arith)
  enough-defaults (suc f) zero e c a x y = no_default (suc f) zero e c (omega arith)
  enough-defaults (suc f) (suc g) e c a x y = elim (dec_lt c e) [
    | no n ↦ no_default (suc f) (suc g) e c (omega arith)
    | yes l ↦
        let i = body.sized.some_rows c (omega (arith, a.within)) in
        let rest = enough-defaults f g e (end w c) (closed-rest body a l) (omega arith) (omega arith) in
        any-default-more w f e c l ∙ rw rest (sym (any-default-more w g e c l))
  ]
