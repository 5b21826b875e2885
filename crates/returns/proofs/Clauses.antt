-- The clauses of a switch or Select, one after another: what is left of them, with the default found so far, answers as the whole row does.
-- A clause is itself no break and holds none, so the breaks that leave it are those that leave its list.
-- Assumes nothing.
use mathlib.Core.Path.{◌≡◌, refl, sym, ◌∙◌, ap}
use mathlib.Core.Bool.{Bool, true, false, ◌&&◌, ◌||◌, not, and-false}
use mathlib.Core.List.{List, [], ◌∷◌}
use Prim.Native.Nat.{ℕ, suc, ◌-◌, ◌≤◌, ◌<◌}
use native.Mathlib.Omega.{arith}
use lib.Dec.{eqb}
use borrow.Author.Tests.{not-true}
use Rattle.rules.specs.Scan.{lowest}
use Rattle.rules.specs.Rows.{row_count, kind, detail, size, end, Item, here}
use Rattle.rules.specs.Class.{Class, break, block, case_block, comm_block, select, one_of, is_breakable, is_case, is_comm, is_default, class_of, base}
use Rattle.rules.specs.Class.{detail_allowed, class}
use Rattle.rules.specs.Scope.{is_list}
use Rattle.rules.specs.Labels.{is_class}
use Rattle.rules.specs.Verdict.{any_default, has_default, has_own_break}
use Rattle.rules.specs.Body.{Body}
use Rattle.rules.proofs.Every.{every, implies, implied, same, same-eq}
use Rattle.rules.proofs.Details.{of-allowed}
use Rattle.rules.proofs.Shape.{opens}
use Rattle.rules.proofs.ClassRules.{is_clause_block, class-rule, child-rule, opens-holds}
use Rattle.rules.proofs.RowNames.{base-class}
use Rattle.rules.proofs.Terminating.{any-default-more, any-default-none, has-default}
use Rattle.breaks.specs.Leaves.{label_number, Closed, any_leaves}
use Rattle.returns.specs.Search.{is_terminating_body, is_terminating_list}
use Rattle.breaks.proofs.Ranges.{closed-below, closed-rest, closed-item}
use Rattle.returns.proofs.Enough.{enough-defaults}
use Rattle.returns.proofs.ByClass.{clauses_end, opens-block, row_opens, clauses-ended, clauses-next}
use Rattle.breaks.proofs.Leaving.{any-apart, any_none, any_below}
use Rattle.breaks.proofs.Referring.{has-break-below}

-- a Case or a Comm
abbrev pub is_clause : Class → Bool
is_clause c = is_case c || is_comm c

pub clause-list : (c : Class) → is_clause c ≡ true → is_list c ≡ true
unfolding every lowest
clause-list = class-rule is_clause is_list refl

or_assoc : (x y z : Bool) → (x || y) || z ≡ x || (y || z)
or_assoc true y z = refl
or_assoc false y z = refl

nothing_left : (x : Bool) → ((x || false) && true) && true ≡ x
nothing_left true = refl
nothing_left false = refl

-- what is left of the clauses from c on, before e: a default, or one found before; no break that leaves them; and each terminating
abbrev pub left : List ℕ → List ℕ → List ℕ → ℕ → ℕ → ℕ → Bool → Bool
left w p b e label c found =
    ((found || any_default w (e - c) e c) && not (any_leaves w p b c e label true)) && clauses_end w p b e c

module _ {w p b : List ℕ} (body : Body w p b) where
  -- a default clause has detail 1
  pub clause-default : (c : ℕ) → c < row_count w → is_clause (class w c) ≡ true → eqb (detail w c) 1 ≡ is_default (class w c)
  unfolding every lowest detail_allowed class_of base
  clause-default c h t =
      let no_block = not-true (one_of (block ∷ case_block ∷ comm_block ∷ []) (class w c))
      (class-rule is_clause (λ c. not (one_of (block ∷ case_block ∷ comm_block ∷ []) c)) refl (class w c) t) in
      let e : base w c ≡ class w c = base-class w c (class w c) refl no_block in
      rw (← e) (same-eq (eqb (detail w c) 1) (is_default (base w c)) (implied (is_clause (base w c)) (same (eqb (detail w c) 1) (is_default (base w c)))
      (of-allowed (λ k d. implies (is_clause (class_of k d)) (same (eqb d 1) (is_default (class_of k d)))) refl (kind w c) (detail w c) (body.details c h))
      (rw e t)))

  pub left_ended : (e label c : ℕ) (found : Bool) → e ≤ c → left w p b e label c found ≡ found
  left_ended e label c found l =
      rw (any-default-none w (e - c) e c l, any_none w p b c e label true l, clauses-ended body e c l) (nothing_left found)

  -- ---- the clause c, and what is left after it
  module _ {e c : ℕ} (label : ℕ) (found : Bool) (a : Closed w c e) (l : c < e) (t : is_clause (class w c) ≡ true) where
    row : c < row_count w
    row = omega (arith, a.within)

    default-next : any_default w (e - c) e c ≡ (is_default (class w c) || any_default w (e - end w c) e (end w c))
    default-next =
        let f : ℕ = e - c - 1 in
        let z : e - c ≡ suc f = omega arith in
        let n = body.sized.some_rows c row in
        ap (λ (x : ℕ). any_default w x e c) z ∙ any-default-more w f e c l
        ∙ ap (λ (x : Bool). is_default (class w c) || x) (enough-defaults body f (e - end w c) e (end w c) (closed-rest body a l) (omega arith) (omega arith))

    leaves-next : any_leaves w p b c e label true ≡ (any_leaves w p b (suc c) (end w c) label true || any_leaves w p b (end w c) e label true)
    unfolding every lowest
    leaves-next =
        let no-break = not-true (is_class w break c) (class-rule is_clause (λ c. not (one_of (break ∷ []) c)) refl (class w c) t) in
        let no-hold = not-true (is_breakable (class w c)) (class-rule is_clause (λ c. not (is_breakable c)) refl (class w c) t) in
        let m = closed-item body c row in
        any-apart w p b c (end w c) e label true m.order (closed-rest body a l).order m.ends
        ∙ ap (λ (x : Bool). x || any_leaves w p b (end w c) e label true) (any_below w p b c label true no-break no-hold)

    clause-next : clauses_end w p b e c ≡ (is_terminating_list w p b (end w c) (suc c) && clauses_end w p b e (end w c))
    clause-next = clauses-next body e c a l (clause-list (class w c) t)

    -- its list is not terminating
    pub left_open : is_terminating_list w p b (end w c) (suc c) ≡ false → left w p b e label c found ≡ false
    left_open n = rw (clause-next, n, and-false)

    -- a break leaves it
    pub left-broken : any_leaves w p b (suc c) (end w c) label true ≡ true → left w p b e label c found ≡ false
    left-broken y = rw (leaves-next, y, and-false)

    pub left-next : is_terminating_list w p b (end w c) (suc c) ≡ true → any_leaves w p b (suc c) (end w c) label true ≡ false
        → left w p b e label (end w c) (found || is_default (class w c)) ≡ left w p b e label c found
    left-next y n = rw (default-next, leaves-next, clause-next, y, n, or_assoc found (is_default (class w c)) (any_default w (e - end w c) e (end w c)))

  -- ---- a switch or Select: its one child is the Block of its clauses
  module _ (r : ℕ) (h : r < row_count w) (t : opens (class w r) ≡ true) where
    fill : (suc r < row_count w) × (end w (suc r) ≡ end w r) × (is_clause_block (class w (suc r)) ≡ true)
    fill =
        let (l, q) = body.one_block r h (opens-holds (class w r) t) in
        (omega (arith, body.sized.within r h), q, opens-block (class w r) (class w (suc r)) t (body.child_fits r (suc r) h (here l)))

    pub clauses-closed : Closed w (suc (suc r)) (end w r)
    clauses-closed = let (m, q, k) = fill in rw (← q) (closed-below body (suc r) m)

    pub clause-of : (c : ℕ) → Item w (end w r) (suc (suc r)) c → is_clause (class w c) ≡ true
    unfolding every lowest
    clause-of c i =
        let (m, q, k) = fill in
        child-rule is_clause_block is_clause refl (class w (suc r)) (class w c) k (body.child_fits (suc r) c m (rw q i))

    break-below : has_own_break w p b r ≡ any_leaves w p b (suc (suc r)) (end w r) (label_number w r) true
    unfolding every lowest
    break-below =
        let (m, q, k) = fill in
        let no-break = not-true (is_class w break (suc r)) (class-rule is_clause_block (λ c. not (one_of (break ∷ []) c)) refl (class w (suc r)) k) in
        let no-hold = not-true (is_breakable (class w (suc r))) (class-rule is_clause_block (λ c. not (is_breakable c)) refl (class w (suc r)) k) in
        has-break-below body r h (class-rule opens is_breakable refl (class w r) t)
        ∙ rw (← q) (any_below w p b (suc r) (label_number w r) true no-break no-hold)

    default_below : has_default w r ≡ any_default w (end w r - suc (suc r)) (end w r) (suc (suc r))
    default_below = has-default w r ∙ enough-defaults body (size w r) (end w r - suc (suc r)) (end w r) (suc (suc r)) clauses-closed (omega arith) (omega arith)

    pub left-start : left w p b (end w r) (label_number w r) (suc (suc r)) (is_class w select r) ≡ is_terminating_body w p b r
    left-start = sym (row_opens body r h t ∙ rw (default_below, break-below))
