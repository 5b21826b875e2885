-- The rows that a route comes to: of the body, no Block of a switch or Select, and no final Empty row.
-- Going on after a row that is not final comes to such a row: each row passed on the way up is not final either, so row 0 is never passed,
-- and were the next item a final Empty row, then the row before it would be final.
-- Assumes nothing.
use mathlib.Core.Path.{◌≡◌, refl, ◌∙◌}
use mathlib.Core.Bool.{Bool, true, false, ◌||◌, not}
use mathlib.Core.List.{List, [], ◌∷◌}
use Prim.Native.Nat.{ℕ, zero, suc, ◌<◌}
use native.Mathlib.Omega.{arith}
use native.Mathlib.Decide.{ℕ_discrete, dec_lt}
use borrow.Author.Tests.{not-true}
use Rattle.rules.specs.Scan.{lowest}
use Rattle.rules.specs.Rows.{row_count, end, Child}
use Rattle.rules.specs.Class.{Class, empty, one_of, is_loop, class}
use Rattle.rules.specs.Scope.{is_list}
use Rattle.rules.specs.Body.{Body}
use Rattle.rules.specs.Runner.{at, after}
use Rattle.rules.proofs.Test.{case-of, clash}
use Rattle.rules.proofs.Nesting.{item_from, item-next}
use Rattle.rules.proofs.Shape.{opens}
use Rattle.rules.proofs.Every.{every}
use Rattle.rules.proofs.ClassRules.{is_clause_block, class-rule, only-opened}
use Rattle.rules.proofs.Around.{AllEmpty}
use Rattle.rules.proofs.Going.{after-in-loop, after-in-list, after_last, after-in-other}
use Rattle.rules.proofs.Final.{Final, whole, below, child-in, parent_in, final-parent}

pub record RouteRow (w : List ℕ) (r : ℕ) : Type 0 where
  pub row : r < row_count w
  pub not-clauses : is_clause_block (class w r) ≡ false
  pub not_last : class w r ≡ empty → Final w r → ⊥

pub list-opens : (c : Class) → is_list c ≡ true → opens c ≡ false
unfolding every lowest
list-opens c t = not-true (opens c) (class-rule is_list (λ c. not (opens c)) refl c t)

-- neither Empty nor the Block of a switch or Select
abbrev pub is_ordinary : Class → Bool
is_ordinary c = not (one_of (empty ∷ []) c || is_clause_block c)

pub loop-ordinary : (c : Class) → is_loop c ≡ true → is_ordinary c ≡ true
unfolding every lowest
loop-ordinary = class-rule is_loop is_ordinary refl

ordinary-block : (c : Class) → is_ordinary c ≡ true → is_clause_block c ≡ false
unfolding every lowest
ordinary-block c t = not-true (is_clause_block c) (class-rule is_ordinary (λ c. not (is_clause_block c)) refl c t)

pub ordinary-row : {w : List ℕ} (r : ℕ) → r < row_count w → is_ordinary (class w r) ≡ true → RouteRow w r
ordinary-row {w} r i t = record {
  row = i;
  not-clauses = ordinary-block (class w r) t;
  not_last = λ e d. let z : false ≡ true = rw e at t in clash (cc);
}

-- Empty, and only Empty after it
pub empty-first : {w p b : List ℕ} → Body w p b → (c e : ℕ) → c < row_count w → class w c ≡ empty → AllEmpty w (end w c) e → AllEmpty w c e
empty-first body c e m x a k h n = elim (ℕ_discrete c k) [
  | yes i ↦ rw (← i) x
  | no o ↦ a k (omega (arith, body.leaf c m (rw x))) n
]

module _ {w p b : List ℕ} (body : Body w p b) where
  -- the next item of a list: were it Empty and final, then s would be final
  next_row : (k s : ℕ) → k < row_count w → Child w k s → is_list (class w k) ≡ true → end w s < end w k → (Final w s → ⊥) → RouteRow w (end w s)
  next_row k s i c t h u =
      let n = item-next c h in
      let q = child-in body k i n in
      record {
        row = q;
        not-clauses = only-opened (class w k) (class w (end w s)) (list-opens (class w k) t) (body.child_fits k (end w s) i n);
        not_last = λ e d.
            let (f, x, y) = final-parent body k d (omega (arith, item_from n)) i n in
            u (below k f c x (λ z. empty-first body (end w s) (end w k) q e (y z)));
      }

  abbrev pub GoesOn : ℕ → Type 0
  GoesOn s = (t : ℕ) × (after w s ≡ at t) × RouteRow w t

  same_after : (k s : ℕ) → after w s ≡ after w k → GoesOn k → GoesOn s
  same_after k s e (t, f, r) = (t, e ∙ f, r)

  steps : (f s : ℕ) → s < f → s < row_count w → (Final w s → ⊥) → GoesOn s
  steps zero s m i u = absurd (omega arith)
  steps (suc f) s m i u = elim (ℕ_discrete s 0) [
    | yes e ↦ absurd (u (rw e whole))
    | no o ↦
        let (k, j, lt, c) = parent_in body s i (omega arith) in
        let on = steps f k (omega arith) j in
        case-of (is_loop (class w k))
        (λ t. (k, after-in-loop body k s j c t, ordinary-row k j (loop-ordinary (class w k) t)))
        (λ t. case-of (is_list (class w k))
        (λ x. elim (dec_lt (end w s) (end w k)) [
          | yes h ↦ (end w s, after-in-list body k s j c t x h, next_row k s j c x h u)
          | no h ↦ same_after k s (after_last body k s j c t x (omega arith)) (on (λ d. u (below k d c t (λ _ q a z. absurd (omega arith)))))
        ])
        (λ x. same_after k s (after-in-other body k s j c t x) (on (λ d. u (below k d c t (λ z. absurd (clash (cc))))))))
  ]

  pub goes_on : (s : ℕ) → s < row_count w → (Final w s → ⊥) → GoesOn s
  goes_on s = steps (suc s) s (omega arith)
