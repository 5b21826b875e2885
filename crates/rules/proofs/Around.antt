-- The notions that look upward, as facts about rows: the rows around a row, the innermost of a class, nothing but Empty, the next Case.
-- Each is what its scan found or did not find.
-- Assumes nothing.
use mathlib.Core.Path.{◌≡◌}
use mathlib.Core.Bool.{Bool, true, false, ◌&&◌, not}
use mathlib.Core.Option.{none, some}
use mathlib.Core.List.{List, [], ◌∷◌}
use Prim.Native.Nat.{ℕ, ◌≤◌, ◌<◌}
use lib.Dec.{ltb, leb}
use borrow.Author.Tests.{ltb-true, leb-true, lt-ltb, le-leb, not-false}
use Rattle.rules.specs.Scan.{lowest}
use Rattle.rules.specs.Rows.{end}
use Rattle.rules.specs.Class.{Class, empty, case_block, one_of, is_case, class}
use Rattle.rules.specs.Scope.{around, innermost, list_of, only_empty, next_case}
use Rattle.rules.proofs.Every.{is_one}
use Rattle.rules.proofs.Test.{case-of, case-found, clash, and-true, true-and}
use Rattle.rules.proofs.Scan.{lowest-none, none-lowest, highest-found, highest-last, highest-none}

-- each row from c on, before e, is Empty
abbrev pub AllEmpty : List ℕ → ℕ → ℕ → Type 0
AllEmpty w c e = (k : ℕ) → c ≤ k → k < e → class w k ≡ empty

module _ (w : List ℕ) where
  -- ---- around
  pub around-true : (r k : ℕ) → around w r k ≡ true → r < end w k
  around-true r k t = ltb-true r (end w k) t

  pub true-around : (r k : ℕ) → r < end w k → around w r k ≡ true
  true-around r k l = lt-ltb r (end w k) l

  -- ---- the innermost of a class
  pub record Innermost (P : Class → Bool) (r k : ℕ) : Type 0 where
    pub before : k < r
    pub reaches : r < end w k
    pub passes : P (class w k) ≡ true

  pub innermost-found : (P : Class → Bool) (r k : ℕ) → innermost w P r ≡ some k → Innermost P r k
  unfolding innermost
  innermost-found P r k e =
      let f = highest-found (λ k. around w r k && P (class w k)) r k e in
      let a = and-true (around w r k) (P (class w k)) f.1 in
      record { before = f.0; reaches = around-true r k a.0; passes = a.1 }

  -- a row further in of that class does not reach past r
  pub innermost-last : (P : Class → Bool) (r k q : ℕ) → innermost w P r ≡ some k → k < q → Innermost P r q → ⊥
  unfolding innermost
  innermost-last P r k q e l i =
      let f = highest-last (λ k. around w r k && P (class w k)) r k q e l i.before in
      let t = true-and (around w r q) (P (class w q)) (true-around r q i.reaches) i.passes in
      clash (cc)

  pub innermost-none : (P : Class → Bool) (r q : ℕ) → innermost w P r ≡ none → Innermost P r q → ⊥
  unfolding innermost
  innermost-none P r q e i =
      let f = highest-none (λ k. around w r k && P (class w k)) r q e i.before in
      let t = true-and (around w r q) (P (class w q)) (true-around r q i.reaches) i.passes in
      clash (cc)

  -- ---- nothing but Empty
  pub only-empty : (c e : ℕ) → only_empty w c e ≡ true → AllEmpty w c e
  unfolding only_empty
  only-empty c e t k h l = case-found (lowest (λ k. leb c k && not (one_of (empty ∷ []) (class w k))) e)
      (λ j f. let z : false ≡ true = rw (f, only_empty) at t in absurd (clash (cc)))
      (λ f.
      let n = lowest-none (λ k. leb c k && not (one_of (empty ∷ []) (class w k))) e k f l in
      is_one (class w k) empty (not-false (one_of (empty ∷ []) (class w k)) (rw (le-leb c k h) at n)))

  pub all-empty : (c e : ℕ) → AllEmpty w c e → only_empty w c e ≡ true
  unfolding only_empty
  all-empty c e a = rw (none-lowest (λ k. leb c k && not (one_of (empty ∷ []) (class w k))) e none_passes, only_empty)
    where
      none_passes : (k : ℕ) → k < e → (leb c k && not (one_of (empty ∷ []) (class w k))) ≡ false
      none_passes k l = case-of (leb c k) (λ t. rw (t, a k (leb-true c k t) l)) (λ t. rw t)

  -- ---- the next Case: `clause` is the Case in whose list r is, `home` the Block around it
  pub record NextCase (r n : ℕ) : Type 0 where
    pub clause : ℕ
    pub home : ℕ
    pub listed : list_of w r ≡ some clause
    pub case_row : is_case (class w clause) ≡ true
    pub homed : innermost w (one_of (case_block ∷ [])) clause ≡ some home
    pub more : end w clause < end w home
    pub next : n ≡ end w clause

  pub next-case : (r n : ℕ) → next_case w r ≡ some n → NextCase r n
  unfolding next_case
  next-case r n e = case-found (list_of w r)
      (λ c f. case-of (is_case (class w c))
      (λ t. case-found (innermost w (one_of (case_block ∷ [])) c)
      (λ s g. case-of (ltb (end w c) (end w s))
      (λ l.
      let i : some (end w c) ≡ some n = rw (f, next_case, t, g, l) at e in
      record { clause = c; home = s; listed = f; case_row = t; homed = g; more = ltb-true (end w c) (end w s) l; next = cc })
      (λ l. let i : none ≡ some n = rw (f, next_case, t, g, l) at e in absurd (clash (cc))))
      (λ g. let i : none ≡ some n = rw (f, next_case, t, g) at e in absurd (clash (cc))))
      (λ t. let i : none ≡ some n = rw (f, next_case, t) at e in absurd (clash (cc))))
      (λ f. let i : none ≡ some n = rw (f, next_case) at e in absurd (clash (cc)))
