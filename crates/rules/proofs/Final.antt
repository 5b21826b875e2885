-- A final row is one after which going on comes to the closing brace: row 0; an item of a final list that only Empty rows follow;
-- a child of another final row that is no loop.
-- Where row 0 is terminating, each final row is Empty or terminating: the rules of the verdict, read downward, ask it of just these rows.
-- Assumes nothing.
use mathlib.Core.Path.{◌≡◌, refl}
use mathlib.Core.Bool.{true, false}
use mathlib.Core.Logic.{◌⊎◌, inl, inr, ⊎_elim}
use mathlib.Core.List.{List, [], ◌∷◌}
use Prim.Native.Nat.{ℕ, suc, ◌<◌}
use native.Mathlib.Omega.{arith}
use Rattle.rules.specs.Rows.{row_count, end, Item, here, later, Child}
use Rattle.rules.specs.Class.{empty, one_of, is_loop, class}
use Rattle.rules.specs.Scope.{is_list}
use Rattle.rules.specs.Body.{Body}
use Rattle.rules.specs.Verdict.{terminating_list}
use Rattle.rules.proofs.Every.{is_one}
use Rattle.rules.proofs.Test.{case-of, clash}
use Rattle.rules.proofs.Nesting.{item-before, item_from}
use Rattle.rules.proofs.ClassRules.{always-leaf, opens-holds, by-rule}
use Rattle.rules.proofs.Around.{AllEmpty}
use Rattle.rules.proofs.Ends.{Ends, last-ends, clause-ends, never_ends, labeled-ends, statements-end, clauses-end, if_else-ends, switch-ends, select-ends}

pub data Final (w : List ℕ) : ℕ → Type 0 where
  whole : Final w 0
  below : {s : ℕ} → (k : ℕ) → Final w k → Child w k s → is_loop (class w k) ≡ false
      → (is_list (class w k) ≡ true → AllEmpty w (end w s) (end w k)) → Final w s

-- an only item, and one of two
pub only_item : {w : List ℕ} {e c s : ℕ} → end w c ≡ e → Item w e c s → s ≡ c
only_item h (here l) = refl
only_item h (later l i) = absurd (omega (arith, item-before i, item_from i))

pub one_of_two : {w : List ℕ} {e c s : ℕ} → end w (end w c) ≡ e → Item w e c s → (s ≡ c) ⊎ (s ≡ end w c)
one_of_two h (here l) = inl refl
one_of_two h (later l i) = inr (only_item h i)

-- ---- rows
module _ {w p b : List ℕ} (body : Body w p b) where
  pub child-in : {s : ℕ} (k : ℕ) → k < row_count w → Child w k s → s < row_count w
  child-in k i c = omega (arith, item-before c, body.sized.within k i)

  -- each row but row 0 has its parent
  pub parent_in : (s : ℕ) → s < row_count w → 0 < s → (k : ℕ) × (k < row_count w) × (k < s) × Child w k s
  parent_in s i h = let (k, e, m, c) = body.parent_child s h i in (k, omega arith, m, c)

  same-parent : (j k s : ℕ) → j < row_count w → k < row_count w → Child w j s → Child w k s → j ≡ k
  same-parent j k s m n c d = let e = body.child_parent j s m c in let f = body.child_parent k s n d in cc

  -- ---- final rows
  pub final-in : {s : ℕ} → Final w s → s < row_count w
  final-in whole = body.some_rows
  final-in (below k d c x y) = child-in k (final-in d) c

  -- the parent of a final row
  pub final-parent : {s : ℕ} (k : ℕ) → Final w s → 0 < s → k < row_count w → Child w k s
      → Final w k × (is_loop (class w k) ≡ false) × (is_list (class w k) ≡ true → AllEmpty w (end w s) (end w k))
  final-parent k whole h m c = absurd (omega arith)
  final-parent k (below {s = s} j d e x y) h m c = let i : j ≡ k = same-parent j k s (final-in d) m e c in rw (← i) (d, x, y)

  -- ---- final rows are Empty or terminating
  abbrev EmptyOrEnds : ℕ → Type 0
  EmptyOrEnds s = (class w s ≡ empty) ⊎ Ends w p b s

  only_child : {s : ℕ} (k : ℕ) → end w (suc k) ≡ end w k → Child w k s → Ends w p b (suc k) → EmptyOrEnds s
  only_child k e c t = rw (only_item e c) (inr t)

  last-or-empty : {s : ℕ} (k : ℕ) → Child w k s → AllEmpty w (end w s) (end w k) → (f : ℕ)
      → terminating_list w p b f (end w k) (suc k) ≡ true → EmptyOrEnds s
  last-or-empty {s} k c a f t = case-of (one_of (empty ∷ []) (class w s))
      (λ u. inl (is_one (class w s) empty u))
      (λ u. inr (last-ends w p b f c (λ e. let z : true ≡ false = rw e at u in clash (cc)) a t))

  child-ends : {s : ℕ} (k : ℕ) → k < row_count w → Child w k s → is_loop (class w k) ≡ false → (is_list (class w k) ≡ true → AllEmpty w (end w s) (end w k))
      → Ends w p b k → EmptyOrEnds s
  child-ends {s} k m c x y t = by-rule (class w k)
      (λ n. absurd (never_ends w p b k n t))
      (λ n. absurd (always-leaf (class w k) (class w s) n (body.child_fits k s m c)))
      (λ n. let (f, u) = statements-end w p b k n t in last-or-empty k c (y n) f u)
      (λ n. let (f, u) = clauses-end w p b k n t in inr (clause-ends w p b f c u))
      (λ n. only_child k (body.one_block k m (opens-holds (class w k) (rw n))).1 c (switch-ends w p b k n t).2)
      (λ e. only_child k (body.one_statement k m (rw e)).1 c (labeled-ends w p b k e t))
      (λ e.
      let u = if_else-ends w p b k e t in
      ⊎_elim (λ i. rw i (inr u.0)) (λ i. rw i (inr u.1)) (one_of_two (body.two_parts k m (rw e)).3 c))
      (λ e. only_child k (body.one_block k m (rw e)).1 c (select-ends w p b k e t).1)
      (λ e. absurd (let z : true ≡ false = rw e at x in clash (cc)))

  pub final-ends : Ends w p b 0 → {s : ℕ} → Final w s → EmptyOrEnds s
  final-ends t whole = inr t
  final-ends t (below {s = s} k d c x y) =
      let m = final-in d in
      ⊎_elim (λ e. absurd (empty_leaf k m e c)) (λ u. child-ends k m c x y u) (final-ends t d)
    where
      empty_leaf : (k : ℕ) → k < row_count w → class w k ≡ empty → Child w k s → ⊥
      empty_leaf k m e c = let z : false ≡ true = rw e at (body.child_fits k s m c) in clash (cc)

  -- so a final row that is not Empty is terminating
  pub not-final : (s : ℕ) → Ends w p b 0 → (class w s ≡ empty → ⊥) → (Ends w p b s → ⊥) → Final w s → ⊥
  not-final s t n m d = ⊎_elim n m (final-ends t d)
