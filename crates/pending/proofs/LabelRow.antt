-- A Labeled row x, not `_`, of the walk: of the gotos before it, those that it resolves are the pending ones of its canonical number that stand after its
-- list's row. So those before that row, and those of other numbers, stay as they are.
-- Assumes nothing.
use mathlib.Core.Path.{◌≡◌, refl, sym, ◌∙◌, ap}
use mathlib.Core.Bool.{Bool, true, false, ◌&&◌}
use mathlib.Core.List.{List, [], ◌∷◌}
use mathlib.Core.Logic.{inl, inr}
use mathlib.Core.Option.{some}
use Prim.Native.Nat.{ℕ, suc, ◌-◌, ◌≤◌, ◌<◌}
use native.Mathlib.Omega.{arith}
use native.Mathlib.Decide.{ℕ_discrete, dec_lt}
use lib.Dec.{ltb, leb, eqb}
use lib.ListN.{get_or}
use borrow.Author.Tests.{lt-ltb, le-ltb, leb-true, le-leb, eqb-true, eq-eqb}
use Rattle.rules.specs.Scan.{highest}
use Rattle.rules.specs.Rows.{row_count, position, name, end}
use Rattle.rules.specs.Class.{labeled, goto, one_of, class}
use Rattle.rules.specs.Names.{count_of_pairs}
use Rattle.rules.specs.Scope.{is_list, is_block, list_of, in_list_of}
use Rattle.rules.specs.Labels.{each, is_label, labels, latest_declaration, pending, jumps_over, word}
use Rattle.rules.proofs.Test.{case-of, case-found, clash, and-true}
use Rattle.rules.proofs.Scan.{highest-same}
use Rattle.rules.proofs.Each.{none_only}
use Rattle.rules.proofs.ClassTests.{one-is}
use Rattle.rules.proofs.Every.{is_one}
use Rattle.rules.proofs.Around.{innermost-found, innermost-none}
use Rattle.rules.proofs.GotoRows.{list-some, in_list, is_later, later-parts, parts-later, is-pending, resolved}
use Rattle.rules.proofs.SheetRows.{is_over, is-over, jumps-none, jumps-some}
use Rattle.tables.specs.Canon.{row_canon, Tables}
use Rattle.walk_state.specs.Walk.{previous_pending, binding_at, Walking}
use Rattle.pending.specs.Chain.{Chain, over_fault, over_faults}
use Rattle.tables.proofs.Labelling.{label-class, label-numbered, row-canon-within, labels-canon, canon-labels}
use Rattle.walk_state.proofs.TableRows.{list_read}
use Rattle.walk_state.proofs.WalkBindings.{later-found, later-kept, binding-same, at-goto, at-later, at_other}
use Rattle.walk_state.proofs.WalkPending.{waits, pending-same, pending-found, pending-other, previous-not}
use Rattle.pending.proofs.Downward.{down, onward, chain-down, each-down, highest-cut}

-- the conjunction with a test that fails
and_no : (s t u : Bool) → u ≡ false → s && u ≡ t && u
and_no true true u e = refl
and_no true false u e = e
and_no false true u e = sym e
and_no false false u e = refl

module _ {w p b cs ds ls : List ℕ} {x : ℕ} (tables : Tables w p b cs ds ls (suc x)) (row : x < row_count w) (label : is_label w p b x ≡ true) where
  -- ---- the row
  pub is-labeled : class w x ≡ labeled
  is-labeled = label-class tables.body x row label

  pub no-goto : class w x ≡ goto → ⊥
  no-goto e = clash (cc (is-labeled))

  pub no_block : is_block (class w x) ≡ false
  no_block = rw is-labeled

  pub numbered-row : 0 < row_canon w p b x
  numbered-row = label-numbered tables.body x row label

  pub canon-in : row_canon w p b x ≤ count_of_pairs p
  canon-in = row-canon-within w p b x

  -- ---- its list
  after-root : 0 < x
  after-root = elim (ℕ_discrete x 0) [
    | yes e ↦ let c : class w 0 ≡ labeled = rw e at is-labeled in absurd (clash (cc tables.body.root_class))
    | no n ↦ omega arith
  ]

  pub record InList (l : ℕ) : Type 0 where
    pub is-list : list_of w x ≡ some l
    pub before : l < x
    pub reaches : x < end w l

  some-list : (l : ℕ) × InList l
  unfolding list_of
  some-list = case-found (list_of w x)
      (λ l e. let i = innermost-found w is_list x l e in (l, record { is-list = e; before = i.before; reaches = i.reaches }))
      (λ e. absurd (innermost-none w is_list x 0 e
      (record { before = after-root; reaches = omega arith; passes = rw tables.body.root_class })))

  -- its word, 1 + the list's row
  abbrev pub lo : ℕ
  lo = get_or ls x 0

  the-list : (l : ℕ) × InList l × (lo ≡ suc l)
  the-list =
      let (l, i) = some-list in
      (l, i, list_read tables x (omega arith) row (rw is-labeled) ∙ ap word i.is-list)

  pub list-within : lo ≤ x
  list-within = let (l, i, e) = the-list in omega (arith, i.before)

  -- ---- the gotos before it that it resolves
  abbrev pub takes : ℕ → Bool
  takes = onward lo (waits w p b x (row_canon w p b x))

  pub record Taken (g : ℕ) : Type 0 where
    pub from : lo ≤ g
    pub waits : pending w p b x g ≡ true
    pub same-canon : row_canon w p b g ≡ row_canon w p b x

  pub is-taken : (g : ℕ) → takes g ≡ true → Taken g
  is-taken g t =
      let a = and-true (leb lo g) (waits w p b x (row_canon w p b x) g) t in
      let c = and-true (pending w p b x g) (eqb (row_canon w p b g) (row_canon w p b x)) a.1 in
      record { from = leb-true lo g a.0; waits = c.0; same-canon = eqb-true (row_canon w p b g) (row_canon w p b x) c.1 }

  pub taken_is : (g : ℕ) → Taken g → takes g ≡ true
  taken_is g t = rw (le-leb lo g t.from, t.waits, eq-eqb (row_canon w p b g) (row_canon w p b x) t.same-canon)

  module _ (g : ℕ) (h : g < x) where
    -- g stands in the list of x
    pub in-list-from : lo ≤ g → in_list_of w x g ≡ true
    in-list-from k =
        let (l, i, e) = the-list in
        list-some w x g l i.is-list ∙ rw (lt-ltb l g (omega arith), lt-ltb g (end w l) (omega (arith, i.reaches)))

    pub from-in-list : in_list_of w x g ≡ true → lo ≤ g
    from-in-list t =
        let (l, i, e) = the-list in
        let (k, f, m, n) = in_list w x g t in
        let s : l ≡ k = cc i.is-list in
        omega arith

    pub taken-names : row_canon w p b g ≡ row_canon w p b x → labels w p b g x ≡ true
    taken-names e = canon-labels tables.body g x (omega arith) row is-labeled (sym e) (omega (arith, numbered-row))

    pub named-canon : labels w p b g x ≡ true → row_canon w p b g ≡ row_canon w p b x
    named-canon t = sym (labels-canon tables.body g x (omega arith) row t).1

    -- x is the later label of g
    pub taken-later : takes g ≡ true → is_later w p b g x ≡ true
    taken-later t =
        let k = is-taken g t in
        parts-later w p b g x h (taken-names k.same-canon) (in-list-from k.from)

    pub later-taken : is_later w p b g x ≡ true → pending w p b x g ≡ true → takes g ≡ true
    later-taken t q =
        let k = later-parts w p b g x t in
        taken_is g (record { from = from-in-list k.2; waits = q; same-canon = named-canon k.1 })

    -- ---- what waits after it
    waits-same : (d : ℕ) → (takes g ≡ true → row_canon w p b g ≡ d → ⊥) → waits w p b (suc x) d g ≡ waits w p b x d g
    waits-same d n = case-of (is_later w p b g x)
        (λ t. case-of (eqb (row_canon w p b g) d)
        (λ e. case-of (pending w p b x g)
        (λ q. absurd (n (later-taken t q) (eqb-true (row_canon w p b g) d e)))
        (λ q. rw (pending-found w p b x g t, q)))
        (λ e. and_no (pending w p b (suc x) g) (pending w p b x g) (eqb (row_canon w p b g) d) e))
        (λ f. ap (λ (q : Bool). q && eqb (row_canon w p b g) d) (pending-same w p b x g f))

    pub waits-other : (d : ℕ) → (d ≡ row_canon w p b x → ⊥) → waits w p b (suc x) d g ≡ waits w p b x d g
    waits-other d n = waits-same d (λ t e. n (sym e ∙ (is-taken g t).same-canon))

    pub waits-below : (d : ℕ) → g < lo → waits w p b (suc x) d g ≡ waits w p b x d g
    waits-below d l = waits-same d (λ t e. let f = (is-taken g t).from in omega arith)

    pub waits-taken : lo ≤ g → waits w p b (suc x) (row_canon w p b x) g ≡ false
    waits-taken l = case-of (waits w p b x (row_canon w p b x) g)
        (λ t. rw (pending-found w p b x g (taken-later (rw (le-leb lo g l, t)))))
        (λ f. waits-same (row_canon w p b x) (λ t e. clash (cc (and-true (leb lo g) (waits w p b x (row_canon w p b x) g) t).1)) ∙ f)

  -- ---- the heads after it
  pub head-other : (d : ℕ) → (d ≡ row_canon w p b x → ⊥) → previous_pending w p b (suc x) d (suc x) ≡ previous_pending w p b x d x
  unfolding previous_pending
  head-other d n =
      previous-not w p b (suc x) x d (pending-other w p b (suc x) x no-goto)
      ∙ highest-same (waits w p b (suc x) d) (waits w p b x d) x (λ k h. waits-other k h d n)

  pub head-own : previous_pending w p b (suc x) (row_canon w p b x) (suc x) ≡ highest (waits w p b x (row_canon w p b x)) lo
  unfolding previous_pending
  head-own =
      previous-not w p b (suc x) x (row_canon w p b x) (pending-other w p b (suc x) x no-goto)
      ∙ highest-cut (waits w p b (suc x) (row_canon w p b x)) (waits w p b x (row_canon w p b x)) lo x list-within
      (λ k h. waits-below k (omega (arith, list-within)) (row_canon w p b x) h) (λ k l h. waits-taken k h l)

  -- ---- the links of what waits after it
  pub still-waits : (g : ℕ) → g < suc x → pending w p b (suc x) g ≡ true → (g < x) × (pending w p b x g ≡ true)
  still-waits g h q = elim (ℕ_discrete g x) [
    | yes e ↦ let z : pending w p b (suc x) x ≡ true = rw e at q in absurd (clash (cc (pending-other w p b (suc x) x no-goto)))
    | no n ↦ (
      omega arith,
      case-of (is_later w p b g x) (λ t. absurd (clash (cc (pending-found w p b x g t)))) (λ f. sym (pending-same w p b x g f) ∙ q),
    )
  ]

  pub link-same : (g : ℕ) → g < x → pending w p b (suc x) g ≡ true
      → previous_pending w p b (suc x) (row_canon w p b g) g ≡ previous_pending w p b x (row_canon w p b g) g
  unfolding previous_pending
  link-same g h q =
      let d = row_canon w p b g in
      highest-same (waits w p b (suc x) d) (waits w p b x d) g
      (λ k l. elim (ℕ_discrete d (row_canon w p b x)) [
        | yes e ↦ elim (dec_lt k lo) [
          | yes m ↦ waits-below k (omega arith) d m
          | no m ↦
              let z : waits w p b (suc x) (row_canon w p b x) g ≡ true = rw (q, eq-eqb d (row_canon w p b x) e) in
              absurd (clash (cc (waits-taken g h (omega arith))))
        ]
        | no n ↦ waits-other k (omega arith) d n
      ])

  -- ---- what it reports of those that it resolves
  module _ (latest : ℕ) (latest-is : latest ≡ word (latest_declaration w p b x)) where
    jumps-taken : (g : ℕ) → g < x → takes g ≡ true → jumps_over w p b x g ≡ over_fault w latest g
    jumps-taken g h t = case-found (latest_declaration w p b x)
        (λ d e.
        let k = is-taken g t in
        let i : latest ≡ suc d = latest-is ∙ ap word e in
        let j : suc d - 1 ≡ d = omega arith in
        let o : is_over w p b x g d ≡ ltb g d = rw (k.waits, taken-names g h k.same-canon, in-list-from g h k.from) in
        jumps-some w p b x g d e ∙ rw (o, i, j)
        (elim (dec_lt g d) [
          | yes y ↦ rw (lt-ltb g d y, lt-ltb (suc g) (suc d) (omega arith))
          | no n ↦ rw (le-ltb g d (omega arith), le-ltb (suc g) (suc d) (omega arith))
        ]))
        (λ e.
        let i : latest ≡ 0 = latest-is ∙ ap word e in
        jumps-none w p b x g e ∙ rw (le-ltb (suc g) latest (omega arith)))

    jumps-not : (g : ℕ) → g < x → takes g ≡ false → jumps_over w p b x g ≡ []
    jumps-not g h f = case-found (latest_declaration w p b x)
        (λ d e. jumps-some w p b x g d e ∙ none_only (is_over w p b x g d) (record { code = 3; position = position w g; name = name w g; other = position w d })
        (case-of (is_over w p b x g d)
        (λ o.
        let k = is-over w p b x g d o in
        absurd (clash (cc (taken_is g (record { from = from-in-list g h k.in_list; waits = k.waits; same-canon = named-canon g h k.names })))))
        (λ o. o)))
        (λ e. jumps-none w p b x g e)

    pub jumps : over_faults w latest (down takes x) ≡ each (jumps_over w p b x) x
    jumps = each-down (jumps_over w p b x) w latest takes x jumps-taken jumps-not

  -- ---- what it binds
  pub bound-taken : (g : ℕ) → g < x → takes g ≡ true → binding_at w p b (suc x) g ≡ suc x
  bound-taken g h t =
      let q = is-pending w p b x g (is-taken g t).waits in
      at-later w p b (suc x) g q.gotos q.no-earlier ∙ ap word (later-found w p b x g (taken-later g h t) q.no-later)

  pub bound-not : (g : ℕ) → g < x → takes g ≡ false → binding_at w p b (suc x) g ≡ binding_at w p b x g
  bound-not g h f = case-of (is_later w p b g x)
      (λ t. case-of (pending w p b x g)
      (λ q. absurd (clash (cc (later-taken g h t q))))
      (λ q. case-of (one_of (goto ∷ []) (class w g))
      (λ c.
      let e = is_one (class w g) goto c in
      elim (resolved w p b x g e q) [
        | inl y ↦ at-goto w p b (suc x) g y.0 e y.1 ∙ sym (at-goto w p b x g y.0 e y.1)
        | inr y ↦
            at-later w p b (suc x) g e y.0 ∙ ap word (later-kept w p b x g y.1.0 y.1.1 ∙ sym y.1.1) ∙ sym (at-later w p b x g e y.0)
      ])
      (λ c.
      let n : class w g ≡ goto → ⊥ = λ e. clash (cc (one-is (class w g) goto e)) in
      at_other w p b (suc x) g n ∙ sym (at_other w p b x g n))))
      (λ u. binding-same w p b x g u)

  -- ---- the chain of those of its number
  module _ {faults : ℕ} {sheet bindings heads goto-or-label : List ℕ} (walking : Walking w p b x faults sheet bindings heads goto-or-label) where
    linked-before : (g : ℕ) → g < x → waits w p b x (row_canon w p b x) g ≡ true → get_or goto-or-label g 0 ≡ word (highest (waits w p b x (row_canon w p b x)) g)
    unfolding previous_pending
    linked-before g h t =
        let a = and-true (pending w p b x g) (eqb (row_canon w p b g) (row_canon w p b x)) t in
        let e = eqb-true (row_canon w p b g) (row_canon w p b x) a.1 in
        walking.goto_before g h a.0 (omega (arith, numbered-row))
        ∙ ap (λ (c : ℕ). word (highest (waits w p b x c) g)) e

    pub chain : Chain goto-or-label lo (get_or heads (row_canon w p b x) 0) (down takes x) (word (highest (waits w p b x (row_canon w p b x)) lo))
    unfolding previous_pending
    chain = rw (walking.heads_are (row_canon w p b x) numbered-row canon-in)
        (chain-down (waits w p b x (row_canon w p b x)) lo goto-or-label x list-within linked-before)
