-- Forks by the words of a row: kinds 13, 15, 16 and 20, 19 with a condition, and 18 with anything below its Block.
-- Assumes nothing.
use mathlib.Core.Path.{◌≡◌, refl, sym, ◌∙◌, ap}
use mathlib.Core.Bool.{Bool, true, false, ◌||◌, ◌&&◌}
use mathlib.Core.List.{List, [], ◌∷◌}
use Prim.Native.Nat.{ℕ, zero, suc, ◌≤◌, ◌<◌}
use native.Mathlib.Omega.{arith}
use native.Mathlib.Decide.{dec_lt}
use lib.Dec.{ltb, eqb}
use borrow.Author.Tests.{lt-ltb, le-ltb, ne_eqb}
use Rattle.rules.specs.Scan.{lowest}
use Rattle.rules.specs.Rows.{row_count, kind, detail, size, end}
use Rattle.rules.specs.Class.{Class, if, if_else, switch, type_switch, select, for_cond, one_of, detail_allowed, class_of, base, class}
use Rattle.rules.specs.Body.{Body}
use Rattle.rules.specs.Runner.{item_count, clause_count}
use Rattle.rules.specs.Walking.{is_fork}
use Rattle.rules.proofs.Test.{case-of}
use Rattle.rules.proofs.Every.{every, same, same-eq, is_one}
use Rattle.rules.proofs.Details.{of-allowed}
use Rattle.rules.proofs.ByKind.{among, NoneOf}
use Rattle.rules.proofs.Lists.{own-words}
use Rattle.rules.proofs.Going.{clause-count, item-count-more, item-count-none}

abbrev is_plain_fork : Class → Bool
is_plain_fork = one_of (if ∷ if_else ∷ for_cond ∷ switch ∷ type_switch ∷ [])

abbrev is_select : Class → Bool
is_select = one_of (select ∷ [])

-- ---- by kind and detail
abbrev fork_kind : ℕ → ℕ → Bool
fork_kind k d = among (13 ∷ 15 ∷ 16 ∷ 20 ∷ []) k || (eqb k 19 && eqb d 1)

kind-fork : (k d : ℕ) → detail_allowed k d ≡ true → is_plain_fork (class_of k d) ≡ fork_kind k d
unfolding every lowest detail_allowed class_of
kind-fork k d t = same-eq (is_plain_fork (class_of k d)) (fork_kind k d) (of-allowed (λ k d. same (is_plain_fork (class_of k d)) (fork_kind k d)) refl k d t)

kind-select : (k d : ℕ) → detail_allowed k d ≡ true → is_select (class_of k d) ≡ eqb k 18
unfolding every lowest detail_allowed class_of
kind-select k d t = same-eq (is_select (class_of k d)) (eqb k 18) (of-allowed (λ k d. same (is_select (class_of k d)) (eqb k 18)) refl k d t)

module _ {w p b : List ℕ} (body : Body w p b) (r : ℕ) (l : r < row_count w) where
  own-fork : is_plain_fork (class w r) ≡ fork_kind (kind w r) (detail w r)
  unfolding every lowest base
  own-fork = own-words is_plain_fork refl w r ∙ kind-fork (kind w r) (detail w r) (body.details r l)

  own-select : is_select (class w r) ≡ eqb (kind w r) 18
  unfolding every lowest base
  own-select = own-words is_select refl w r ∙ kind-select (kind w r) (detail w r) (body.details r l)

  -- a Select has a clause where there is anything below its Block
  clause-size : class w r ≡ select → ltb 0 (clause_count w r) ≡ ltb 2 (size w r)
  clause-size e = elim (dec_lt 2 (size w r)) [
    | yes h ↦ rw (lt-ltb 2 (size w r) h) (lt-ltb 0 (clause_count w r) (some-clause h))
    | no h ↦ rw (le-ltb 2 (size w r) (omega arith)) (le-ltb 0 (clause_count w r) (no-clause (omega arith)))
  ]
    where
      some-clause : 2 < size w r → 0 < clause_count w r
      some-clause h = omega (arith, clause-count w r, more (size w r) refl h)
        where
          more : (n : ℕ) → size w r ≡ n → 2 < n → 0 < item_count w n (end w r) (suc (suc r))
          more zero e h = absurd (omega arith)
          more (suc n) e h = omega (arith, item-count-more w n (end w r) (suc (suc r)) (omega arith))

      no-clause : size w r ≤ 2 → clause_count w r ≤ 0
      no-clause h = omega (arith, clause-count w r, item-count-none w (size w r) (end w r) (suc (suc r)) (omega arith))

  -- the test by words
  abbrev fork_at : ℕ → Bool
  fork_at k = fork_kind k (detail w r) || (eqb k 18 && ltb 2 (size w r))

  fork-words : fork_at (kind w r) ≡ is_fork w r
  unfolding is_fork
  fork-words = case-of (is_select (class w r))
      (λ t. let e = is_one (class w r) select t in rw (← own-fork, ← own-select, ← clause-size e, is_fork))
      (λ f. rw (← own-fork, ← own-select, f, is_fork))

  -- ---- as the code's match knows the kind
  pub fork-arm : (n : ℕ) → n ≡ kind w r → fork_at n ≡ is_fork w r
  fork-arm n e = ap fork_at e ∙ fork-words

  pub fork-rest : {k : ℕ} → k ≡ kind w r → NoneOf (20 ∷ 19 ∷ 18 ∷ 16 ∷ 15 ∷ 13 ∷ []) k → false ≡ is_fork w r
  fork-rest {k} e (((((((u, a), b), c), d), f), g)) =
      sym (rw (ne_eqb k 13 a, ne_eqb k 15 b, ne_eqb k 16 c, ne_eqb k 18 d, ne_eqb k 19 f, ne_eqb k 20 g)) ∙ ap fork_at e ∙ fork-words
