-- Laws of the rules alone: a Branch has one choice and the Block of a fork none; a fork has a choice for each clause; and a row has two choices at most
-- besides those for its clauses, which are children of the row below it.
-- Assumes nothing.
use mathlib.Core.Path.{◌≡◌, refl, sym, ◌∙◌, ap}
use mathlib.Core.Bool.{Bool, true, false, not}
use mathlib.Core.List.{List, [], ◌∷◌}
use mathlib.Core.Option.{none, some}
use mathlib.Core.Logic.{⊎_elim}
use Prim.Native.Nat.{ℕ, zero, suc, ◌+◌, ◌≤◌, ◌<◌}
use native.Mathlib.Omega.{arith}
use native.Mathlib.Decide.{ℕ_discrete, dec_lt}
use lib.Dec.{ltb, leb, eqb}
use borrow.Author.Tests.{ltb-true, lt-ltb, leb-true, eqb-true, eq-eqb}
use Rattle.rules.specs.Scan.{lowest, how_many}
use Rattle.rules.specs.Rows.{row_count, size, end, parent, Item, here, later, Child}
use Rattle.rules.specs.Class.{break, continue, goto, fallthrough, case_block, comm_block, select, one_of, is_branch, is_switch, class}
use Rattle.rules.specs.Refusals.{holding, body as one}
use Rattle.rules.specs.Body.{Body}
use Rattle.rules.specs.Verdict.{has_default}
use Rattle.rules.specs.Runner.{at, item_at, item_count, clause_count, choices_as, choices}
use Rattle.rules.proofs.Test.{case-of, case-found, clash, or-true}
use Rattle.rules.proofs.Scan.{how_many-most, how_many-yes, how_many-no}
use Rattle.rules.proofs.Every.{every, implies, implied, of-class, is_one}
use Rattle.rules.proofs.Shape.{opens}
use Rattle.rules.proofs.ClassRules.{is_clause_block, by_one, opens-holds}
use Rattle.rules.proofs.Nesting.{item-before}
use Rattle.rules.proofs.Going.{item-at-first, item-at-later, item-count-more, item-count-none, item-count-zero, clause-count}
use Rattle.rules.proofs.Steps.{switch-with-default, switch-without-default, select-choices, select-without-clauses}

-- ---- the next item
pub item-at-next : (w : List ℕ) (c i : ℕ) → item_at w c (suc i) ≡ end w (item_at w c i)
item-at-next w c zero = item-at-later w c 0 ∙ item-at-first w (end w c) ∙ ap (end w) (sym (item-at-first w c))
item-at-next w c (suc i) = item-at-later w c (suc i) ∙ item-at-next w (end w c) i ∙ ap (end w) (sym (item-at-later w c i))

-- ---- choices by class
module _ (w p b : List ℕ) (r : ℕ) where
  pub branch-choices : is_branch (class w r) ≡ true → choices w p b (at r) ≡ 1
  unfolding choices
  branch-choices t = by_one _ (break ∷ continue ∷ goto ∷ fallthrough ∷ []) (class w r) t (λ e. rw e) (λ e. rw e) (λ e. rw e) (λ e. rw e)

  pub no-choices : is_clause_block (class w r) ≡ true → choices w p b (at r) ≡ 0
  unfolding choices
  no-choices t = by_one _ (case_block ∷ comm_block ∷ []) (class w r) t (λ e. rw e) (λ e. rw e)

  few-choices : opens (class w r) ≡ false → choices w p b (at r) ≤ 2
  unfolding choices every lowest
  few-choices f = leb-true (choices_as w p b (class w r) r) 2
      (implied (not (opens (class w r))) (leb (choices_as w p b (class w r) r) 2)
      (of-class (λ c. implies (not (opens c)) (leb (choices_as w p b c r) 2)) refl (class w r)) (ap not f))

  -- a switch and a Select have one for each clause, and one more at most
  pub switch-room : is_switch (class w r) ≡ true → (clause_count w r ≤ choices w p b (at r)) × (choices w p b (at r) ≤ suc (clause_count w r))
  switch-room t = case-of (has_default w r)
      (λ d. let e = switch-with-default w p b r t d in (omega arith, omega arith))
      (λ d. let e = (switch-without-default w p b r t d).0 in (omega arith, omega arith))

  pub select-room : class w r ≡ select → (clause_count w r ≤ choices w p b (at r)) × (choices w p b (at r) ≤ suc (clause_count w r))
  select-room k = elim (dec_lt 0 (clause_count w r)) [
    | yes y ↦ let e = select-choices w p b r k y in (omega arith, omega arith)
    | no z ↦ let e = (select-without-clauses w p b r k (omega arith)).0 in (omega arith, omega arith)
  ]

-- ---- counts
how_many-up : (P : ℕ → Bool) (m n : ℕ) → m ≤ n → how_many P m ≤ how_many P n
how_many-up P m zero h = rw (let z : m ≡ 0 = omega arith in z) (omega arith)
how_many-up P m (suc n) h = elim (ℕ_discrete m (suc n)) [
  | yes z ↦ rw z (omega arith)
  | no z ↦
      let r = how_many-up P m n (omega arith) in
      case-of (P n) (λ t. omega (arith, how_many-yes P n t)) (λ f. omega (arith, how_many-no P n f))
]

-- two tests that exclude each other, and one that passes where either does
how_many-both : (P Q T : ℕ → Bool) (n : ℕ) → ((k : ℕ) → P k ≡ true → Q k ≡ true → ⊥) → ((k : ℕ) → P k ≡ true → T k ≡ true)
    → ((k : ℕ) → Q k ≡ true → T k ≡ true) → how_many P n + how_many Q n ≤ how_many T n
how_many-both P Q T zero a b c = omega (arith, how_many-most P 0, how_many-most Q 0)
how_many-both P Q T (suc n) a b c =
    let r = how_many-both P Q T n a b c in
    case-of (P n)
    (λ t. case-of (Q n) (λ u. absurd (a n t u)) (λ u. omega (arith, how_many-yes P n t, how_many-no Q n u, how_many-yes T n (b n t))))
    (λ t. case-of (Q n)
    (λ u. omega (arith, how_many-no P n t, how_many-yes Q n u, how_many-yes T n (c n u)))
    (λ u. case-of (T n)
    (λ v. omega (arith, how_many-no P n t, how_many-no Q n u, how_many-yes T n v))
    (λ v. omega (arith, how_many-no P n t, how_many-no Q n u, how_many-no T n v))))

-- ---- children by their parent
module _ (w : List ℕ) where
  abbrev pub is_child : ℕ → ℕ → Bool
  is_child k c = elim (parent w c) [ none ↦ false | some q ↦ eqb q k ]

  -- of one of the rows below k
  abbrev pub is_child_below : ℕ → ℕ → Bool
  is_child_below k c = elim (parent w c) [ none ↦ false | some q ↦ ltb q k ]

  child-of : (k c : ℕ) → is_child k c ≡ true → parent w c ≡ some k
  child-of k c t = case-found (parent w c)
      (λ q e. let z : eqb q k ≡ true = rw (e, is_child) at t in e ∙ ap some (eqb-true q k z))
      (λ e. absurd (let z : false ≡ true = rw (e, is_child) at t in clash (cc)))

  is-child : (k c : ℕ) → parent w c ≡ some k → is_child k c ≡ true
  is-child k c e = rw (e, is_child) (eq-eqb k k refl)

  child-below : (k c : ℕ) → is_child_below k c ≡ true → (q : ℕ) × (parent w c ≡ some q) × (q < k)
  child-below k c t = case-found (parent w c)
      (λ q e. let z : ltb q k ≡ true = rw (e, is_child_below) at t in (q, e, ltb-true q k z))
      (λ e. absurd (let z : false ≡ true = rw (e, is_child_below) at t in clash (cc)))

  is-child-below : (k c q : ℕ) → parent w c ≡ some q → q < k → is_child_below k c ≡ true
  is-child-below k c q e l = rw (e, is_child_below) (lt-ltb q k l)

  -- the children of one row more
  pub children-more : (k n : ℕ) → how_many (is_child_below k) n + how_many (is_child k) n ≤ how_many (is_child_below (suc k)) n
  children-more k n = how_many-both (is_child_below k) (is_child k) (is_child_below (suc k)) n
      (λ c a b.
      let (q, e, l) = child-below k c a in
      let d = child-of k c b in
      let z : q ≡ k = cc in omega arith)
      (λ c a. let (q, e, l) = child-below k c a in is-child-below (suc k) c q e (omega arith))
      (λ c b. is-child-below (suc k) c k (child-of k c b) (omega arith))

  -- items are no more than the numbers that pass, where each item passes
  items-counted : (P : ℕ → Bool) (f e c : ℕ) → c ≤ e → ((s : ℕ) → Item w e c s → (P s ≡ true) × (s < end w s) × (end w s ≤ e))
      → how_many P c + item_count w f e c ≤ how_many P e
  items-counted P zero e c h all = omega (arith, item-count-zero w e c, how_many-up P c e h)
  items-counted P (suc f) e c h all = elim (dec_lt c e) [
    | no z ↦ omega (arith, item-count-none w (suc f) e c (omega arith), how_many-up P c e h)
    | yes l ↦
        let x = all c (here l) in
        omega (
          arith,
          item-count-more w f e c l,
          how_many-yes P c x.0,
          how_many-up P (suc c) (end w c) x.1,
          items-counted P f e (end w c) x.2 (λ s i. all s (later l i)),
        )
  ]

module _ {w p b : List ℕ} (body : Body w p b) (r : ℕ) (l : r < row_count w) where
  -- the clauses of a fork are children of its Block
  clauses-children : holding (class w r) ≡ one → clause_count w r ≤ how_many (is_child w (suc r)) (row_count w)
  clauses-children h =
      let x = body.one_block r l h in
      let m = body.sized.within r l in
      let k : suc r < row_count w = omega (arith, x.0) in
      let c = items-counted w (is_child w (suc r)) (size w r) (end w r) (suc (suc r)) x.0 (λ s i.
      let j : Child w (suc r) s = rw (sym x.1) at i in
      let g = body.child_within (suc r) s k j in
      let e = x.1 in
      (is-child w (suc r) s (body.child_parent (suc r) s k j), omega (arith, body.sized.some_rows s (omega (arith, item-before i))), omega arith)) in
      omega (arith, clause-count w r, c, how_many-up (is_child w (suc r)) (end w r) (row_count w) m)

  -- two choices, and one for each clause
  pub most-choices : choices w p b (at r) ≤ 2 + how_many (is_child w (suc r)) (row_count w)
  most-choices = case-of (opens (class w r))
      (λ t.
      let c = clauses-children (opens-holds (class w r) t) in
      ⊎_elim
      (λ u. omega (arith, switch-room w p b r u))
      (λ u. omega (arith, select-room w p b r (is_one (class w r) select u)))
      (or-true (is_switch (class w r)) (one_of (select ∷ []) (class w r)) t))
      (λ f. omega (arith, few-choices w p b r f))
