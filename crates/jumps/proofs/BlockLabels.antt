-- The target of a labelled branch, by the Blocks around it: a label is last in its run and has the branch inside a Block of its statement exactly when
-- it is the current label
-- of a Block around the branch. Such a Block is the first inside the label's statement: no list stands between, since a Block further in stands in a
-- list of the first;
-- and a label between would stand in a list that the statement holds. Blocks further out have labels further out.
-- Assumes nothing.
use mathlib.Core.Path.{◌≡◌, refl, sym, ◌∙◌, ap}
use mathlib.Core.Bool.{Bool, true, false, ◌&&◌, ◌||◌, not}
use mathlib.Core.Logic.{inl, inr}
use mathlib.Core.List.{List, [], ◌∷◌}
use mathlib.Core.Option.{none, some}
use Prim.Native.Nat.{ℕ, zero, suc, ◌≤◌, ◌<◌}
use native.Mathlib.Omega.{arith}
use native.Mathlib.Decide.{dec_lt, ℕ_discrete}
use lib.Dec.{ltb}
use borrow.Author.Tests.{ltb-true, lt-ltb, not-true, not-false}
use Rattle.rules.specs.Scan.{lowest, highest}
use Rattle.rules.specs.Rows.{row_count, end, Child}
use Rattle.rules.specs.Class.{Class, labeled, one_of, class}
use Rattle.rules.specs.Body.{Body, fits}
use Rattle.rules.specs.Scope.{is_list, is_block, innermost, list_of}
use Rattle.rules.specs.Labels.{is_some, is_class, is_label, labels, last_in_run, in_block_of, target}
use Rattle.rules.proofs.Test.{case-of, case-found, clash, and-true, or-true}
use Rattle.rules.proofs.Every.{every, is_one}
use Rattle.rules.proofs.Scan.{lowest-found, lowest-first, lowest-none, found-lowest, none-lowest, highest-found, highest-last, found-highest}
use Rattle.rules.proofs.ClassTests.{one-is, one-not}
use Rattle.rules.proofs.ClassRules.{is_clause_block, class-rule, child-rule, parent-rule}
use Rattle.rules.proofs.Nesting.{item-before, item_from, child-around, ends-before}
use Rattle.rules.proofs.Around.{Innermost, innermost-found, innermost-last, innermost-none}
use Rattle.rules.proofs.LabelRows.{is-labels}
use Rattle.rules.proofs.BreakRows.{Target, is-target, target_is, none-target}
use Rattle.walk_state.specs.Walk.{current_label}
use Rattle.tables.specs.Canon.{row_canon}
use Rattle.tables.proofs.Labelling.{label-class, labels-canon}

-- ---- rules of the classes

clause-list : (q c : Class) → is_clause_block q ≡ true → fits q c ≡ true → (is_list c && not (is_block c)) ≡ true
unfolding every lowest
clause-list = child-rule is_clause_block (λ c. is_list c && not (is_block c)) refl

clause-parent : (q c : Class) → (is_list c && not (is_block c)) ≡ true → fits q c ≡ true → is_block q ≡ true
unfolding every lowest
clause-parent = parent-rule (λ c. is_list c && not (is_block c)) is_block refl

block-other : (c : Class) → (is_block c && not (is_list c)) ≡ true → is_clause_block c ≡ true
unfolding every lowest
block-other = class-rule (λ c. is_block c && not (is_list c)) is_clause_block refl

label-parent : (q c : Class) → one_of (labeled ∷ []) c ≡ true → fits q c ≡ true → (one_of (labeled ∷ []) q || is_list q) ≡ true
unfolding every lowest
label-parent = parent-rule (one_of (labeled ∷ [])) (λ q. one_of (labeled ∷ []) q || is_list q) refl

block-unlabeled : (c : Class) → is_block c ≡ true → c ≡ labeled → ⊥
block-unlabeled c t e = let z : false ≡ true = rw e at t in clash (cc)

list-unlabeled : (c : Class) → is_list c ≡ true → c ≡ labeled → ⊥
list-unlabeled c t e = let z : false ≡ true = rw e at t in clash (cc)

-- ---- a Block around the row g
pub record BlockAround (w : List ℕ) (g k : ℕ) : Type 0 where
  pub blocks : is_block (class w k) ≡ true
  pub before : k < g
  pub reaches : g < end w k

-- ---- last_in_run
module _ (w p b : List ℕ) (t : ℕ) where
  -- s is the statement below the run of t, and t the last label in it
  pub record LastInRun (s : ℕ) : Type 0 where
    pub after : t < s
    pub inside : s < end w t
    pub statement : class w s ≡ labeled → ⊥
    pub run : (k : ℕ) → t < k → k < s → class w k ≡ labeled
    pub last : (k : ℕ) → t < k → k < s → is_label w p b k ≡ false

  abbrev leaves : ℕ → Bool
  leaves k = ltb t k && not (is_class w labeled k)

  abbrev follows : ℕ → Bool
  follows k = ltb t k && is_label w p b k

  pub is_last : last_in_run w p b t ≡ true → (s : ℕ) × LastInRun s
  unfolding last_in_run
  is_last v = case-found (lowest leaves (end w t))
      (λ s e.
      let f = lowest-found leaves (end w t) s e in
      let a = and-true (ltb t s) (not (is_class w labeled s)) f.1 in
      let n : not (is_some (lowest follows s)) ≡ true = rw (e, last_in_run) at v in (
        s,
        record {
          after = ltb-true t s a.0;
          inside = f.0;
          statement = λ c. clash (cc (not-true (is_class w labeled s) a.1, one-is (class w s) labeled c));
          run = λ k h l.
              let g = lowest-first leaves (end w t) s k e l in
              is_one (class w k) labeled (not-false (is_class w labeled k) (rw (lt-ltb t k h) at g));
          last = λ k h l. case-found (lowest follows s)
              (λ j i. let z : false ≡ true = rw i at n in absurd (clash (cc)))
              (λ i. rw (lt-ltb t k h) at (lowest-none follows s k i l));
        },
      ))
      (λ e. let z : false ≡ true = rw (e, last_in_run) at v in absurd (clash (cc)))

  pub last-is : (s : ℕ) → LastInRun s → last_in_run w p b t ≡ true
  unfolding last_in_run
  last-is s x =
      let e = found-lowest leaves (end w t) s x.inside (rw (lt-ltb t s x.after, one-not (class w s) labeled x.statement))
      (λ j l. case-of (ltb t j) (λ u. rw (u, one-is (class w j) labeled (x.run j (ltb-true t j u) l))) (λ u. rw u)) in
      let f = none-lowest follows s (λ j l. case-of (ltb t j) (λ u. rw u (x.last j (ltb-true t j u) l)) (λ u. rw u)) in
      rw (e, f, last_in_run)

-- ---- current_label
module _ (w p b : List ℕ) (k : ℕ) where
  -- t is the innermost label around k in its list l
  pub record Current (t l : ℕ) : Type 0 where
    pub listed : list_of w k ≡ some l
    pub after : l < t
    pub before : t < k
    pub labeled-row : is_label w p b t ≡ true
    pub reaches : k < end w t
    pub last : (j : ℕ) → t < j → j < k → is_label w p b j ≡ true → k < end w j → ⊥

  abbrev carries : ℕ → ℕ → Bool
  carries l t = ltb l t && (is_label w p b t && ltb k (end w t))

  pub is-current : (t : ℕ) → current_label w p b k ≡ some t → (l : ℕ) × Current t l
  unfolding current_label
  is-current t e = case-found (list_of w k)
      (λ l f.
      let g : highest (carries l) k ≡ some t = rw (f, current_label) at e in
      let h = highest-found (carries l) k t g in
      let a = and-true (ltb l t) (is_label w p b t && ltb k (end w t)) h.1 in
      let c = and-true (is_label w p b t) (ltb k (end w t)) a.1 in
      let after = ltb-true l t a.0 in (
        l,
        record {
          listed = f;
          after = after;
          before = h.0;
          labeled-row = c.0;
          reaches = ltb-true k (end w t) c.1;
          last = λ j i m u v.
              let z : carries l j ≡ true = rw (lt-ltb l j (omega arith), u, lt-ltb k (end w j) v) in
              clash (cc (highest-last (carries l) k t j g i m));
        },
      ))
      (λ f. let z : none ≡ some t = rw (f, current_label) at e in absurd (clash (cc)))

  pub current-is : (t l : ℕ) → Current t l → current_label w p b k ≡ some t
  unfolding current_label
  current-is t l x =
      let e = found-highest (carries l) k t x.before (rw (lt-ltb l t x.after, x.labeled-row, lt-ltb k (end w t) x.reaches))
      (λ j i m. case-of (carries l j)
      (λ u.
      let a = and-true (ltb l j) (is_label w p b j && ltb k (end w j)) u in
      let c = and-true (is_label w p b j) (ltb k (end w j)) a.1 in
      absurd (x.last j i m c.0 (ltb-true k (end w j) c.1)))
      (λ u. u)) in
      rw (x.listed, e, current_label)

-- ---- in_block_of
module _ (w p b : List ℕ) (t g : ℕ) where
  is-in-block : in_block_of w p b t g ≡ true → (k : ℕ) × (t < k) × Innermost w is_block g k
  unfolding in_block_of
  is-in-block v = case-found (innermost w is_block g)
      (λ k e. let u : ltb t k ≡ true = rw (e, in_block_of) at v in (k, ltb-true t k u, innermost-found w is_block g k e))
      (λ e. let z : false ≡ true = rw (e, in_block_of) at v in absurd (clash (cc)))

  in-block-is : (k : ℕ) → t < k → Innermost w is_block g k → in_block_of w p b t g ≡ true
  unfolding in_block_of
  in-block-is k h i = case-found (innermost w is_block g)
      (λ q e. elim (dec_lt q k) [
        | yes l ↦ absurd (innermost-last w is_block g q k e l i)
        | no n ↦ rw (e, in_block_of) (lt-ltb t q (omega arith))
      ])
      (λ e. absurd (innermost-none w is_block g k e i))

module _ {w p b : List ℕ} (body : Body w p b) where
  -- ---- rows around rows

  -- of the rows around a row, its parent is the closest
  parent-closest : (r q t : ℕ) → r < row_count w → Child w r q → t < q → q < end w t → t ≤ r
  parent-closest r q t h d l m = elim (dec_lt r t) [
    | yes y ↦ absurd (omega (arith, ends-before body.sized body.child_within (body.sized.within r h) d t y l))
    | no n ↦ omega arith
  ]

  -- a run of Labeled rows: all end where the first does
  chain : (t j : ℕ) → t < row_count w → t ≤ j → ((q : ℕ) → t ≤ q → q < j → class w q ≡ labeled) → (end w j ≡ end w t) × (j < end w t)
  chain t zero h l run =
      let z : zero ≡ t = omega arith in
      (ap (end w) z, omega (arith, body.sized.some_rows t h))
  chain t (suc j) h l run = elim (ℕ_discrete t (suc j)) [
    | yes i ↦ (ap (end w) (sym i), omega (arith, body.sized.some_rows t h))
    | no n ↦
        let r = chain t j h (omega arith) (λ q a m. run q a (omega arith)) in
        let c = run j (omega arith) (omega arith) in
        let row : j < row_count w = omega (arith, r.1, body.sized.within t h) in
        let one = body.one_statement j row (rw c) in
        (one.1 ∙ r.0, omega (arith, one.0, r.0))
  ]

  -- a Labeled row strictly inside a row that is not Labeled stands in a list there; n bounds the steps
  labeled-list : (n j s : ℕ) → j < n → j < row_count w → class w j ≡ labeled → (class w s ≡ labeled → ⊥) → s < j → j < end w s
      → (q : ℕ) × (is_list (class w q) ≡ true) × (s ≤ q) × (q < j) × (j < end w q)
  labeled-list zero j s f row c o l m = absurd (omega arith)
  labeled-list (suc n) j s f row c o l m =
      let (r, e, h, d) = body.parent_child j (omega arith) row in
      let rr : r < row_count w = omega arith in
      let close = parent-closest r j s rr d l m in
      let before = item-before d in
      let fit = label-parent (class w r) (class w j) (one-is (class w j) labeled c) (body.child_fits r j rr d) in
      elim (or-true (is_class w labeled r) (is_list (class w r)) fit) [
        | inl t ↦
            let cr = is_one (class w r) labeled t in
            elim (ℕ_discrete s r) [
              | yes i ↦ absurd (o (rw i cr))
              | no v ↦
                  let (q, u, a, k, x) = labeled-list n r s (omega arith) rr cr o (omega arith) (omega arith) in
                  (q, u, a, omega arith, omega (arith, body.nested q r (omega arith) k x))
            ]
        | inr t ↦ (r, t, close, h, before)
      ]

  -- a clause inside a labelled statement stands in a Block there
  clause-home : (t q : ℕ) → q < row_count w → class w t ≡ labeled → t < q → q < end w t → is_list (class w q) ≡ true → is_block (class w q) ≡ false
      → (r : ℕ) × (is_block (class w r) ≡ true) × (t < r) × (r < q) × (q < end w r)
  clause-home t q row c l m u v =
      let (r, e, h, d) = body.parent_child q (omega arith) row in
      let rr : r < row_count w = omega arith in
      let close = parent-closest r q t rr d l m in
      let blocks = clause-parent (class w r) (class w q) (rw (u, v)) (body.child_fits r q rr d) in
      elim (ℕ_discrete t r) [
        | yes i ↦ absurd (block-unlabeled (class w r) blocks (rw i at c))
        | no n ↦ (r, blocks, omega arith, h, item-before d)
      ]

  -- where no Block stands between t and k, no list does
  module _ (g t k : ℕ) (row : g < row_count w) (c : class w t ≡ labeled) (l : t < k) (around-g : BlockAround w g k) (inside : g < end w t)
      (first : (j : ℕ) → t < j → j < k → BlockAround w g j → ⊥) where
    no-list-between : (q : ℕ) → is_list (class w q) ≡ true → t < q → q < k → k < end w q → ⊥
    no-list-between q u a m x =
        let before = around-g.before in
        let reaches = around-g.reaches in
        let wide = body.nested q k (omega arith) m x in
        case-of (is_block (class w q))
        (λ v. first q a m (record { blocks = v; before = omega arith; reaches = omega arith }))
        (λ v.
        let (r, y, i, h, z) = clause-home t q (omega arith) c a (omega arith) u v in
        first r i (omega arith) (record { blocks = y; before = omega arith; reaches = omega (arith, body.nested r q (omega arith) h z) }))

    current-first : is_label w p b t ≡ true → (s : ℕ) → LastInRun w p b t s → current_label w p b k ≡ some t
    unfolding list_of
    current-first label s x =
        let before = around-g.before in
        case-found (list_of w k)
        (λ q e.
        let i = innermost-found w is_list k q e in
        current-is w p b k t q (record {
          listed = e;
          after = elim (dec_lt q t) [
            | yes y ↦ y
            | no n ↦ elim (ℕ_discrete t q) [
              | yes z ↦ absurd (list-unlabeled (class w q) i.passes (rw z at c))
              | no o ↦ absurd (no-list-between q i.passes (omega arith) i.before i.reaches)
            ]
          ];
          before = l;
          labeled-row = label;
          reaches = omega arith;
          last = λ j a m u v. last j a m u v;
        }))
        (λ e.
        absurd (innermost-none w is_list k 0 e
        (record { before = omega arith; reaches = omega arith; passes = rw body.root_class })))
      where
        last : (j : ℕ) → t < j → j < k → is_label w p b j ≡ true → k < end w j → ⊥
        last j a m u v =
            let before = around-g.before in
            let cj = label-class body j (omega arith) u in
            elim (dec_lt j s) [
              | yes y ↦ clash (cc (x.last j a y))
              | no n ↦ elim (ℕ_discrete s j) [
                | yes z ↦ x.statement (rw z cj)
                | no o ↦
                    let ends = chain t s (omega arith) (omega (arith, x.after))
                    (λ q h i. elim (ℕ_discrete t q) [ yes z ↦ rw z at c | no r ↦ x.run q (omega arith) i ]) in
                    let (q, y, h, i, r) = labeled-list (suc j) j s (omega arith) (omega arith) cj x.statement (omega arith) (omega (arith, ends.0)) in
                    no-list-between q y (omega (arith, x.after)) (omega arith) (omega (arith, body.nested q j (omega arith) i r))
              ]
            ]

  -- ---- what the target asks of a label, and the Blocks
  pub record Encloses (g t : ℕ) : Type 0 where
    pub before : t < g
    pub inside : g < end w t
    pub labeled-row : is_label w p b t ≡ true
    pub last : last_in_run w p b t ≡ true
    pub in_block : in_block_of w p b t g ≡ true

  abbrev opens : ℕ → ℕ → ℕ → Bool
  opens g t j = ltb t j && (is_block (class w j) && ltb g (end w j))

  block-opens : (g t j : ℕ) → t < j → BlockAround w g j → opens g t j ≡ true
  block-opens g t j l a = rw (lt-ltb t j l, a.blocks, lt-ltb g (end w j) a.reaches)

  opens-block : (g t j : ℕ) → j < g → opens g t j ≡ true → (t < j) × BlockAround w g j
  opens-block g t j h u =
      let a = and-true (ltb t j) (is_block (class w j) && ltb g (end w j)) u in
      let c = and-true (is_block (class w j)) (ltb g (end w j)) a.1 in
      (ltb-true t j a.0, record { blocks = c.0; before = h; reaches = ltb-true g (end w j) c.1 })

  -- such a label is the current one of the first Block inside its statement
  block_of : (g t : ℕ) → g < row_count w → Encloses g t → (k : ℕ) × BlockAround w g k × (current_label w p b k ≡ some t)
  block_of g t row x =
      let (q, l, i) = is-in-block w p b t g x.in_block in
      let (s, last) = is_last w p b t x.last in
      let before = x.before in
      case-found (lowest (opens g t) g)
      (λ k e.
      let f = lowest-found (opens g t) g k e in
      let a = opens-block g t k f.0 f.1 in (
        k,
        a.1,
        current-first g t k row (label-class body t (omega arith) x.labeled-row) a.0 a.1 x.inside
            (λ j h m z. clash (cc (lowest-first (opens g t) g k j e m, block-opens g t j h z))) x.labeled-row s last,
      ))
      (λ e. absurd (clash (cc (
        lowest-none (opens g t) g q e i.before,
        block-opens g t q l (record { blocks = i.passes; before = i.before; reaches = i.reaches }),
      ))))

  -- and the current label of a Block is such a label
  of-block : (g k t : ℕ) → g < row_count w → BlockAround w g k → current_label w p b k ≡ some t → Encloses g t
  of-block g k t row a e =
      let (l, x) = is-current w p b k t e in
      let before = a.before in
      let after = x.before in
      let c = label-class body t (omega arith) x.labeled-row in
      let unlabeled = block-unlabeled (class w k) a.blocks in
      let leaving : leaves w p b t k ≡ true = rw (lt-ltb t k after, one-not (class w k) labeled unlabeled) in
      record {
        before = omega arith;
        inside = omega (arith, body.nested t k (omega arith) after x.reaches, a.reaches);
        labeled-row = x.labeled-row;
        in_block = in-block-is w p b t g k after (record { before = before; reaches = a.reaches; passes = a.blocks });
        last = case-found (lowest (leaves w p b t) (end w t))
            (λ s f.
            let found = lowest-found (leaves w p b t) (end w t) s f in
            let parts = and-true (ltb t s) (not (is_class w labeled s)) found.1 in
            let run : (j : ℕ) → t < j → j < s → class w j ≡ labeled =
            λ j h m. is_one (class w j) labeled (not-false (is_class w labeled j) (rw (lt-ltb t j h) at (lowest-first (leaves w p b t) (end w t) s j f m))) in
            let within : s ≤ k = elim (dec_lt k s) [
              | yes y ↦ absurd (clash (cc (lowest-first (leaves w p b t) (end w t) s k f y)))
              | no n ↦ omega arith
            ] in
            last-is w p b t s (record {
              after = ltb-true t s parts.0;
              inside = found.0;
              statement = λ z. clash (cc (not-true (is_class w labeled s) parts.1, one-is (class w s) labeled z));
              run = run;
              last = λ j h m. case-of (is_label w p b j)
                  (λ u.
                  let ends = chain t j (omega arith) (omega arith)
                  (λ q i o. elim (ℕ_discrete t q) [ yes z ↦ rw z at c | no r ↦ run q (omega arith) (omega arith) ]) in
                  absurd (x.last j h (omega arith) u (omega (arith, ends.0, x.reaches))))
                  (λ u. u);
            }))
            (λ f. absurd (clash (cc (lowest-none (leaves w p b t) (end w t) k f x.reaches))));
      }

  -- a Block further out, inside the label's statement, would hold a list between
  outer-block : (k j t : ℕ) → k < row_count w → is_block (class w k) ≡ true → current_label w p b k ≡ some t → is_block (class w j) ≡ true → t < j
      → j < k → k < end w j → ⊥
  unfolding list_of
  outer-block k j t row block e u l m reach =
      let (q, x) = is-current w p b k t e in
      let after = x.after in
      case-of (is_list (class w j))
      (λ v. innermost-last w is_list k q j x.listed (omega arith) (record { before = m; reaches = reach; passes = v }))
      (λ v.
      let clauses = block-other (class w j) (rw (u, v)) in
      let (d, i, h, n) = child-around body.sized j k (omega arith) m reach in
      let both = and-true (is_list (class w d)) (not (is_block (class w d)))
      (clause-list (class w j) (class w d) clauses (body.child_fits j d (omega arith) i)) in
      let from = item_from i in
      elim (ℕ_discrete d k) [
        | yes z ↦ let y : is_block (class w k) ≡ false = rw z at (not-true (is_block (class w d)) both.1) in clash (cc)
        | no o ↦
            innermost-last w is_list k q d x.listed (omega arith) (record { before = omega arith; reaches = n; passes = both.0 })
      ])

  -- ---- the target
  module _ (g : ℕ) (row : g < row_count w) where
    encloses : (t : ℕ) → Target w p b g t → Encloses g t
    encloses t x = record {
      before = x.before;
      inside = x.reaches;
      labeled-row = (is-labels w p b g t x.names).0;
      last = x.last;
      in_block = x.in_block;
    }

    pub target_none : ((k t : ℕ) → BlockAround w g k → current_label w p b k ≡ some t → labels w p b g t ≡ true → ⊥) → target w p b g ≡ none
    target_none never = none-target w p b g (λ t x.
        let (k, a, e) = block_of g t row (encloses t x) in
        never k t a e x.names)

    pub target_found : (k t : ℕ) → BlockAround w g k → current_label w p b k ≡ some t → labels w p b g t ≡ true
        → ((j s : ℕ) → k < j → BlockAround w g j → current_label w p b j ≡ some s → labels w p b g s ≡ true → ⊥) → target w p b g ≡ some t
    target_found k t a e u never =
        let x = of-block g k t row a e in
        let before = a.before in
        target_is w p b g t (record { before = x.before; reaches = x.inside; names = u; last = x.last; in_block = x.in_block })
        (λ s h y.
        let (j, c, f) = block_of g s row (encloses s y) in
        let s_before = (is-current w p b j s f).1.before in
        let j-before = c.before in
        let j-reaches = c.reaches in
        elim (dec_lt k j) [
          | yes l ↦ never j s l c f y.names
          | no n ↦ elim (ℕ_discrete j k) [
            | yes i ↦ let z : current_label w p b k ≡ some s = rw i at f in let i : s ≡ t = cc in omega arith
            | no o ↦ outer-block k j t (omega arith) a.blocks e c.blocks (omega arith) (omega arith) (omega arith)
          ]
        ])

    -- its row is a label around the branch
    pub target-label : (t : ℕ) → target w p b g ≡ some t → Encloses g t
    target-label t e = encloses t (is-target w p b g t e)

    pub target-named : (t : ℕ) → target w p b g ≡ some t → 0 < row_canon w p b g
    target-named t e =
        let x = is-target w p b g t e in
        let before = x.before in
        (labels-canon body g t row (omega arith) x.names).2
