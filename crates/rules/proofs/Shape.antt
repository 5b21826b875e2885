-- What a row without a fault of shape has below it: each child fits, and there are as many as its class asks for. A child's class is its own words' but
-- for the Block of a switch or Select. That is the one right after its switch: any other row that follows such a row would leave it without its Block.
-- Assumes nothing.
use mathlib.Core.Path.{◌≡◌, refl, sym, ◌∙◌}
use mathlib.Core.Bool.{Bool, true, false, ◌&&◌, ◌||◌, not}
use mathlib.Core.List.{List, [], ◌∷◌}
use Prim.Native.Nat.{ℕ, zero, suc, ◌≤◌, ◌<◌}
use native.Mathlib.Omega.{arith}
use native.Mathlib.Decide.{ℕ_discrete, dec_lt}
use lib.Dec.{leb, eqb}
use borrow.Author.Tests.{lt-ltb, le-ltb, leb-true, eqb-true, not-false}
use Rattle.rules.specs.Scan.{lowest}
use Rattle.rules.specs.Rows.{row_count, kind, detail, size, end, Item, here, later, Child}
use Rattle.rules.specs.Class.{Class, block, case_block, comm_block, select, code, one_of, is_switch, detail_allowed, class_of, base, following, class}
use Rattle.rules.specs.Refusals.{Holding, nothing, statement, body, branches, statements, cases, comms, holding, may_hold, at_least, children_fit, is_body}
use Rattle.rules.specs.Refusals.{bad_shape}
use Rattle.rules.specs.Body.{Sized, Detailed, fits, OneChild, TwoChildren}
use Rattle.rules.proofs.Test.{case-of, clash, and-true}
use Rattle.rules.proofs.Every.{every, every-pair, implies, implied, of-class, of-classes, is-class, is_one}
use Rattle.rules.proofs.Details.{allowed-small}
use Rattle.rules.proofs.Nesting.{item_from, item-before, ends-before}

-- ---- one step through the children
module _ (w : List ℕ) (h : Holding) (e : ℕ) where
  pub fit-step : (f i c : ℕ) → children_fit f w h e i c ≡ true → c < e
      → (may_hold h i (base w c) ≡ true) × (end w c ≤ e) × ((g : ℕ) × children_fit g w h e (suc i) (end w c) ≡ true)
  unfolding children_fit
  fit-step zero i c t l = absurd (clash (cc))
  fit-step (suc f) i c t l = case-of (may_hold h i (base w c) && leb (end w c) e)
      (λ a.
      let u : children_fit f w h e (suc i) (end w c) ≡ true = rw (lt-ltb c e l, a, children_fit) at t in
      let x = and-true (may_hold h i (base w c)) (leb (end w c) e) a in
      (x.0, leb-true (end w c) e x.1, (f, u)))
      (λ a. let z : false ≡ true = rw (lt-ltb c e l, a, children_fit) at t in absurd (clash (cc)))

  pub fit-end : (f i c : ℕ) → children_fit f w h e i c ≡ true → e ≤ c → at_least h ≤ i
  unfolding children_fit
  fit-end zero i c t l = absurd (clash (cc))
  fit-end (suc f) i c t l = leb-true (at_least h) i (rw (le-ltb c e l, children_fit) at t)

  -- each item may stand where it does
  pub fit-item : {c s : ℕ} (f i : ℕ) → Item w e c s → children_fit f w h e i c ≡ true → (end w s ≤ e) × ((j : ℕ) × may_hold h j (base w s) ≡ true)
  fit-item {c} f i (here l) t = let r = fit-step f i c t l in (r.1, (i, r.0))
  fit-item {c} f i (later l k) t = let r = fit-step f i c t l in fit-item r.2.0 (suc i) k r.2.1

-- ---- rules of the classes, each one computed test

-- the class by its own words of a row of class p
abbrev pub base_of : Class → Class
base_of p = elim (one_of (case_block ∷ comm_block ∷ []) p) [ true ↦ block | false ↦ p ]

-- a row after which a Block is the Block of it
abbrev pub opens : Class → Bool
opens c = is_switch c || one_of (select ∷ []) c

abbrev either : Holding → Class → Bool
either h c = may_hold h 0 c || may_hold h 1 c

pub any-child : (h : Holding) (j : ℕ) (c : Class) → may_hold h j c ≡ true → either h c ≡ true
any-child nothing j c t = absurd (clash (cc))
any-child statement zero c t = rw t
any-child statement (suc j) c t = absurd (clash (cc))
any-child body zero c t = rw t
any-child body (suc j) c t = absurd (clash (cc))
any-child branches zero c t = rw t
any-child branches (suc zero) c t = case-of (one_of (block ∷ []) c) (λ a. rw a) (λ a. rw (a, t))
any-child branches (suc (suc j)) c t = absurd (clash (cc))
any-child statements j c t = rw t
any-child cases j c t = rw t
any-child comms j c t = rw t

abbrev is_body' : Holding → Bool
is_body' h = elim h [ nothing ↦ false | statement ↦ false | body ↦ true | branches ↦ false | statements ↦ false | cases ↦ false | comms ↦ false ]

-- the first child of p
first_fits : (p c : Class) → either (holding p) c ≡ true → fits p (following (base_of p) c) ≡ true
unfolding every lowest
first_fits p c =
    implied (either (holding p) c) (fits p (following (base_of p) c))
    (of-classes (λ p c. implies (either (holding p) c) (fits p (following (base_of p) c))) refl p c)

-- a later child of p
later-fits : (p c : Class) → is_body' (holding p) ≡ false → either (holding p) c ≡ true → fits p c ≡ true
unfolding every lowest
later-fits p c n t =
    implied (either (holding p) c) (fits p c)
    (implied (not (is_body' (holding p))) (implies (either (holding p) c) (fits p c))
    (of-classes (λ p c. implies (not (is_body' (holding p))) (implies (either (holding p) c) (fits p c))) refl p c) (rw n))
    t

-- a row after one that opens no Block
pub follows-other : (b c : Class) → opens b ≡ false → following b c ≡ c
unfolding every lowest
follows-other b c n = is-class (following b c) c
    (implied (not (opens b)) (eqb (code (following b c)) (code c))
    (of-classes (λ b c. implies (not (opens b)) (eqb (code (following b c)) (code c))) refl b c) (rw n))

-- what follows any row is, by its own words, itself
base_back : (b c : Class) → one_of (case_block ∷ comm_block ∷ []) c ≡ false → base_of (following b c) ≡ c
unfolding every lowest
base_back b c n = is-class (base_of (following b c)) c
    (implied (not (one_of (case_block ∷ comm_block ∷ []) c)) (eqb (code (base_of (following b c))) (code c))
    (of-classes (λ b c. implies (not (one_of (case_block ∷ comm_block ∷ []) c)) (eqb (code (base_of (following b c))) (code c))) refl b c) (rw n))

opens-body : (c : Class) → opens c ≡ true → is_body' (holding c) ≡ true
unfolding every lowest
opens-body c = implied (opens c) (is_body' (holding c)) (of-class (λ c. implies (opens c) (is_body' (holding c))) refl c)

not-clause-base : (c : Class) → one_of (case_block ∷ comm_block ∷ []) c ≡ false → base_of c ≡ c
not-clause-base c n = rw (n, base_of)

opens-class : (c : Class) → opens (base_of c) ≡ true → opens c ≡ true
unfolding every lowest
opens-class c = implied (opens (base_of c)) (opens c) (of-class (λ c. implies (opens (base_of c)) (opens c)) refl c)

not-clause-block : (k d : ℕ) → detail_allowed k d ≡ true → one_of (case_block ∷ comm_block ∷ []) (class_of k d) ≡ false
unfolding every lowest detail_allowed class_of
not-clause-block k d t =
    let s = allowed-small k d t in
    let n = every-pair 21 4 (λ k d. not (one_of (case_block ∷ comm_block ∷ []) (class_of k d))) refl k d s.0 s.1 in
    case-of (one_of (case_block ∷ comm_block ∷ []) (class_of k d)) (λ a. let z : false ≡ true = rw a at n in absurd (clash (cc))) (λ a. a)

is_body_lem : (h : Holding) → is_body' h ≡ true → h ≡ body
is_body_lem nothing t = absurd (clash (cc))
is_body_lem statement t = absurd (clash (cc))
is_body_lem body t = refl
is_body_lem branches t = absurd (clash (cc))
is_body_lem statements t = absurd (clash (cc))
is_body_lem cases t = absurd (clash (cc))
is_body_lem comms t = absurd (clash (cc))

-- ---- the facts of a body without a fault of shape
module _ (w : List ℕ) (sized : Sized w) (detailed : Detailed w) (shaped : (r : ℕ) → r < row_count w → bad_shape w r ≡ false) where
  pub filled : (r : ℕ) → r < row_count w → children_fit (size w r) w (holding (class w r)) (end w r) 0 (suc r) ≡ true
  unfolding bad_shape
  filled r l =
      (and-true (children_fit (size w r) w (holding (class w r)) (end w r) 0 (suc r)) (elim r [ zero ↦ is_body w | suc q ↦ true ])
      (not-false (children_fit (size w r) w (holding (class w r)) (end w r) 0 (suc r) && elim r [ zero ↦ is_body w | suc q ↦ true ]) (shaped r l))).0

  -- row 0
  pub root : 0 < row_count w → (class w 0 ≡ block) × (size w 0 ≡ row_count w)
  unfolding bad_shape is_body class
  root l =
      let t : is_body w ≡ true = (and-true (children_fit (size w 0) w (holding (class w 0)) (end w 0) 0 (suc 0)) (is_body w)
      (not-false (children_fit (size w 0) w (holding (class w 0)) (end w 0) 0 (suc 0) && is_body w) (shaped 0 l))).1 in
      let x = and-true (one_of (block ∷ []) (base w 0)) (eqb (size w 0) (row_count w)) t in
      (is_one (base w 0) block x.0, eqb-true (size w 0) (row_count w) x.1)

  pub child_within : (r c : ℕ) → r < row_count w → Child w r c → end w c ≤ end w r
  child_within r c l i = (fit-item w (holding (class w r)) (end w r) (size w r) 0 i (filled r l)).0

  may : (r c : ℕ) → r < row_count w → Child w r c → either (holding (class w r)) (base w c) ≡ true
  may r c l i = let m = (fit-item w (holding (class w r)) (end w r) (size w r) 0 i (filled r l)).1 in any-child (holding (class w r)) m.0 (base w c) m.1

  -- how many children: none
  pub leaf : (r : ℕ) → r < row_count w → holding (class w r) ≡ nothing → size w r ≡ 1
  leaf r l e = elim (dec_lt (suc r) (end w r)) [
    | yes y ↦
        let t : false ≡ true = rw e at (fit-step w (holding (class w r)) (end w r) (size w r) 0 (suc r) (filled r l) y).0 in
        absurd (clash (cc))
    | no z ↦ omega (arith, sized.some_rows r l)
  ]

  -- at least one, and a second one where the holding h allows it
  first-child : (h : Holding) (r : ℕ) → r < row_count w → holding (class w r) ≡ h → 0 < at_least h
      → (suc r < end w r) × (may_hold h 0 (base w (suc r)) ≡ true) × (end w (suc r) ≤ end w r) × ((g : ℕ) × children_fit g w h (end w r) 1 (end w (suc r)) ≡ true)
  first-child h r l e p =
      let t : children_fit (size w r) w h (end w r) 0 (suc r) ≡ true = rw e at (filled r l) in
      elim (dec_lt (suc r) (end w r)) [
        | yes y ↦ let s = fit-step w h (end w r) (size w r) 0 (suc r) t y in (y, s.0, s.1, s.2)
        | no z ↦ absurd (omega (arith, fit-end w h (end w r) (size w r) 0 (suc r) t (omega arith)))
      ]

  only_child : (h : Holding) (r : ℕ) → r < row_count w → holding (class w r) ≡ h → 0 < at_least h → ((c : Class) → may_hold h 1 c ≡ false) → OneChild w r
  only_child h r l e p z =
      let (y, m, s, g) = first-child h r l e p in
      elim (dec_lt (end w (suc r)) (end w r)) [
        | yes x ↦
            let t = (fit-step w h (end w r) g.0 1 (end w (suc r)) g.1 x).0 in
            let n = z (base w (end w (suc r))) in absurd (clash (cc))
        | no x ↦ (y, omega arith)
      ]

  pub one_statement : (r : ℕ) → r < row_count w → holding (class w r) ≡ statement → OneChild w r
  one_statement r l e = only_child statement r l e (omega arith) (λ c. refl)

  pub one_block : (r : ℕ) → r < row_count w → holding (class w r) ≡ body → OneChild w r
  one_block r l e = only_child body r l e (omega arith) (λ c. refl)

  -- ---- the class of a child
  not-clause : (r : ℕ) → r < row_count w → one_of (case_block ∷ comm_block ∷ []) (base w r) ≡ false
  unfolding base
  not-clause r l = not-clause-block (kind w r) (detail w r) (detailed r l)

  pub base-of-class : (r : ℕ) → r < row_count w → base w r ≡ base_of (class w r)
  unfolding class
  base-of-class zero l = sym (not-clause-base (base w 0) (not-clause 0 l))
  base-of-class (suc q) l = sym (base_back (base w q) (base w (suc q)) (not-clause (suc q) l))

  -- a row that opens a Block holds it
  holds-block : (q : ℕ) → q < row_count w → opens (base w q) ≡ true → holding (class w q) ≡ body
  holds-block q l t =
      let u : opens (class w q) ≡ true = opens-class (class w q) (rw (base-of-class q l) at t) in
      is_body_lem (holding (class w q)) (opens-body (class w q) u)

  -- the row before a later child of r opens no Block: nothing would stand between
  not_opened : (r q : ℕ) → r < row_count w → Child w r (suc q) → r < q → opens (base w q) ≡ false
  not_opened r q l i h = case-of (opens (base w q))
      (λ t.
      let before = item-before i in
      let m = sized.within r l in
      let o = one_block q (omega arith) (holds-block q (omega arith) t) in
      absurd (omega (arith, o.0, ends-before sized child_within m i q h (omega arith))))
      (λ f. f)

  pub child_fits : (r c : ℕ) → r < row_count w → Child w r c → fits (class w r) (class w c) ≡ true
  unfolding class
  child_fits r zero l i = absurd (omega (arith, item_from i))
  child_fits r (suc q) l i = elim (ℕ_discrete q r) [
    | yes e ↦
        let t = first_fits (class w r) (base w (suc q)) (may r (suc q) l i) in
        let x : base w q ≡ base_of (class w r) = rw e (base-of-class r l) in
        rw x t
    | no n ↦
        let from = item_from i in
        let h : r < q = omega arith in
        let before = item-before i in
        let other = not_opened r q l i h in
        let many : is_body' (holding (class w r)) ≡ false = case-of (is_body' (holding (class w r)))
        (λ t.
        let o = one_block r l (is_body_lem (holding (class w r)) t) in
        absurd (omega (arith, o.1, ends-before sized child_within (sized.within r l) i (suc r) (omega arith) (omega arith))))
        (λ f. f) in
        rw (follows-other (base w q) (base w (suc q)) other) (later-fits (class w r) (base w (suc q)) many (may r (suc q) l i))
  ]

  pub two_parts : (r : ℕ) → r < row_count w → holding (class w r) ≡ branches → TwoChildren w r
  unfolding class
  two_parts r l e =
      let (y, m, s, g) = first-child branches r l e (omega arith) in
      let other : opens (base w r) ≡ false =
      case-of (opens (base w r)) (λ t. let z : body ≡ branches = sym (holds-block r l t) ∙ e in absurd (clash (cc))) (λ f. f) in
      let is_block : class w (suc r) ≡ block = follows-other (base w r) (base w (suc r)) other ∙ is_one (base w (suc r)) block m in
      elim (dec_lt (end w (suc r)) (end w r)) [
        | no z ↦ absurd (omega (arith, fit-end w branches (end w r) g.0 1 (end w (suc r)) g.1 (omega arith)))
        | yes y2 ↦
            let t = fit-step w branches (end w r) g.0 1 (end w (suc r)) g.1 y2 in
            elim (dec_lt (end w (end w (suc r))) (end w r)) [
              | yes y3 ↦
                  let u : false ≡ true = (fit-step w branches (end w r) t.2.0 2 (end w (end w (suc r))) t.2.1 y3).0 in
                  absurd (clash (cc))
              | no z ↦ let last = t.1 in (y, is_block, y2, omega arith)
            ]
      ]
