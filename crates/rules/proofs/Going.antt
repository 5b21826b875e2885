-- Going on, by the parent of a row: past row 0 the closing brace, past a loop's body the loop, in a list the next item or past the list,
-- else past the parent.
-- The scan upward comes to the parent first, since no row between reaches past the row. And the clauses by number. Nobody else opens these definitions.
-- Assumes nothing.
use mathlib.Core.Path.{◌≡◌, refl, ◌∙◌}
use mathlib.Core.Bool.{true, false}
use mathlib.Core.List.{List}
use Prim.Native.Nat.{ℕ, zero, suc, ◌≤◌, ◌<◌}
use native.Mathlib.Omega.{arith}
use native.Mathlib.Decide.{ℕ_discrete, dec_lt}
use borrow.Author.Tests.{lt-ltb, le-ltb}
use Rattle.rules.specs.Rows.{row_count, size, end, Item, here, later, Child}
use Rattle.rules.specs.Class.{is_loop, class}
use Rattle.rules.specs.Scope.{is_list, around}
use Rattle.rules.specs.Body.{Body}
use Rattle.rules.specs.Verdict.{any_default, has_default}
use Rattle.rules.specs.Runner.{at, brace, item_at, item_count, clause_count, climb, after}
use Rattle.rules.proofs.Test.{case-of, clash}
use Rattle.rules.proofs.Nesting.{item-before, item_from, ends-before}
use Rattle.rules.proofs.Around.{around-true, true-around}
use Rattle.rules.proofs.Terminating.{any-default-zero, any-default-none, has-default}

-- ---- clauses by number
module _ (w : List ℕ) where
  pub item-at-first : (c : ℕ) → item_at w c 0 ≡ c
  unfolding item_at
  item-at-first c = refl

  pub item-at-later : (c i : ℕ) → item_at w c (suc i) ≡ item_at w (end w c) i
  unfolding item_at
  item-at-later c i = refl

  pub item-count-more : (f e c : ℕ) → c < e → item_count w (suc f) e c ≡ suc (item_count w f e (end w c))
  unfolding item_count
  item-count-more f e c l = rw (lt-ltb c e l, item_count)

  pub item-count-zero : (e c : ℕ) → item_count w 0 e c ≡ 0
  unfolding item_count
  item-count-zero e c = refl

  pub item-count-none : (f e c : ℕ) → e ≤ c → item_count w f e c ≡ 0
  unfolding item_count
  item-count-none zero e c l = refl
  item-count-none (suc f) e c l = rw (le-ltb c e l, item_count)

  pub clause-count : (r : ℕ) → clause_count w r ≡ item_count w (size w r) (end w r) (suc (suc r))
  unfolding clause_count
  clause-count r = refl

  -- each number below the count is that of an item
  pub item-at : (f e c i : ℕ) → i < item_count w f e c → Item w e c (item_at w c i)
  item-at zero e c i l = absurd (omega (arith, item-count-zero e c))
  item-at (suc f) e c zero l = elim (dec_lt c e) [
    | no z ↦ absurd (omega (arith, item-count-none (suc f) e c (omega arith)))
    | yes y ↦ rw item-at-first (here y)
  ]
  item-at (suc f) e c (suc i) l = elim (dec_lt c e) [
    | no z ↦ absurd (omega (arith, item-count-none (suc f) e c (omega arith)))
    | yes y ↦ rw item-at-later (later y (item-at f e (end w c) i (omega (arith, item-count-more f e c y))))
  ]

  -- with a default there is a clause
  pub default-counts : (f e c : ℕ) → any_default w f e c ≡ true → 0 < item_count w f e c
  default-counts zero e c t = absurd (let z = any-default-zero w e c in clash (cc))
  default-counts (suc f) e c t = elim (dec_lt c e) [
    | no z ↦ absurd (let n = any-default-none w (suc f) e c (omega arith) in clash (cc))
    | yes y ↦ omega (arith, item-count-more f e c y)
  ]

  pub default-clause : (r : ℕ) → has_default w r ≡ true → 0 < clause_count w r
  default-clause r t = rw clause-count (default-counts (size w r) (end w r) (suc (suc r)) (rw has-default at t))

module _ (w : List ℕ) where
  -- ---- the scan upward
  climb-past : (k s : ℕ) → around w s k ≡ false → climb w (suc k) s ≡ climb w k s
  unfolding climb
  climb-past k s f = rw (f, climb)

  -- down to the closest row around s
  climb-to : (n k s : ℕ) → k < n → ((q : ℕ) → k < q → q < n → around w s q ≡ false) → climb w n s ≡ climb w (suc k) s
  climb-to zero k s l z = absurd (omega arith)
  climb-to (suc n) k s l z = elim (ℕ_discrete k n) [
    | yes e ↦ rw e
    | no o ↦ climb-past n s (z n (omega arith) (omega arith)) ∙ climb-to n k s (omega arith) (λ q h m. z q h (omega arith))
  ]

  -- or to none
  climb-out : (n s : ℕ) → ((q : ℕ) → q < n → around w s q ≡ false) → climb w n s ≡ brace
  unfolding climb
  climb-out zero s z = refl
  climb-out (suc n) s z = rw (z n (omega arith), climb) (climb-out n s (λ q l. z q (omega arith)))

  pub after-root : after w 0 ≡ brace
  unfolding after
  after-root = climb-out 0 0 (λ q l. absurd (omega arith))

  -- where k is the closest row around s
  found-around : (k s : ℕ) → around w s k ≡ true → is_loop (class w k) ≡ true → climb w (suc k) s ≡ at k
  unfolding climb
  found-around k s a t = rw (a, climb, t)

  found-next : (k s : ℕ) → around w s k ≡ true → is_loop (class w k) ≡ false → is_list (class w k) ≡ true → end w s < end w k
      → climb w (suc k) s ≡ at (end w s)
  unfolding climb
  found-next k s a t u l = rw (a, climb, t, u, lt-ltb (end w s) (end w k) l)

  found-last : (k s : ℕ) → around w s k ≡ true → is_loop (class w k) ≡ false → is_list (class w k) ≡ true → end w k ≤ end w s
      → climb w (suc k) s ≡ after w k
  unfolding climb after
  found-last k s a t u l = rw (a, climb, t, u, le-ltb (end w s) (end w k) l)

  found_up : (k s : ℕ) → around w s k ≡ true → is_loop (class w k) ≡ false → is_list (class w k) ≡ false → climb w (suc k) s ≡ after w k
  unfolding climb after
  found_up k s a t u = rw (a, climb, t, u)

-- ---- by the parent
module _ {w p b : List ℕ} (body : Body w p b) (k s : ℕ) (l : k < row_count w) (i : Child w k s) where
  to-parent : after w s ≡ climb w (suc k) s
  unfolding after
  to-parent = climb-to w s k s (item_from i)
      (λ q m n. not-around q m n)
    where
      not-around : (q : ℕ) → k < q → q < s → around w s q ≡ false
      not-around q m n = case-of (around w s q)
          (λ t. absurd (omega (arith, around-true w s q t, ends-before body.sized body.child_within (body.sized.within k l) i q m n)))
          (λ f. f)

  around-parent : around w s k ≡ true
  around-parent = true-around w s k (item-before i)

  pub after-in-loop : is_loop (class w k) ≡ true → after w s ≡ at k
  after-in-loop t = to-parent ∙ found-around w k s around-parent t

  pub after-in-list : is_loop (class w k) ≡ false → is_list (class w k) ≡ true → end w s < end w k → after w s ≡ at (end w s)
  after-in-list t u m = to-parent ∙ found-next w k s around-parent t u m

  pub after_last : is_loop (class w k) ≡ false → is_list (class w k) ≡ true → end w k ≤ end w s → after w s ≡ after w k
  after_last t u m = to-parent ∙ found-last w k s around-parent t u m

  pub after-in-other : is_loop (class w k) ≡ false → is_list (class w k) ≡ false → after w s ≡ after w k
  after-in-other t u = to-parent ∙ found_up w k s around-parent t u
