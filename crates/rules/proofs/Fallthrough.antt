-- A fallthrough is well placed exactly where the specification has it, said by kinds and children, without the scans of specs/Scope.antt:
-- it is, with its labels, an item of a clause of a switch of kind 15, nothing but Empty rows follow it there, and another clause follows.
-- For the list that the scan finds is reached from the fallthrough by its labels and one parent, and the switch from that by two parents more.
-- Assumes nothing.
use mathlib.Core.Path.{◌≡◌, refl, sym, ◌∙◌}
use mathlib.Core.Bool.{Bool, true, false, ◌||◌}
use mathlib.Core.List.{List, [], ◌∷◌}
use mathlib.Core.Logic.{⊎_elim}
use mathlib.Core.Option.{some}
use Prim.Native.Nat.{ℕ, zero, suc, ◌≤◌, ◌<◌}
use native.Mathlib.Omega.{arith}
use native.Mathlib.Decide.{ℕ_discrete}
use borrow.Author.Tests.{eqb-true, eq-eqb}
use Rattle.rules.specs.Scan.{lowest}
use Rattle.rules.specs.Rows.{row_count, kind, end, here, Child}
use Rattle.rules.specs.Class.{Class, empty, labeled, fallthrough, case_block, switch, one_of, is_switch, is_case, class}
use Rattle.rules.specs.Scope.{is_list, innermost, list_of, only_empty, next_case}
use Rattle.rules.specs.Placing.{in_expression_switch, ends_case}
use Rattle.rules.specs.Body.{Body, fits}
use Rattle.rules.proofs.Test.{case-found, clash, and-true, true-and, or-true}
use Rattle.rules.proofs.Every.{every, is_one}
use Rattle.rules.proofs.ByKind.{among, switches}
use Rattle.rules.proofs.Nesting.{item-before, item_from, item-next}
use Rattle.rules.proofs.ClassRules.{class-rule, child-rule, parent-rule}
use Rattle.rules.proofs.Around.{Innermost, innermost-found, innermost-last, innermost-none, only-empty, all-empty, NextCase, next-case}
use Rattle.rules.proofs.Final.{only_item, child-in, parent_in}
use Rattle.rules.proofs.Lists.{row-empty, row-labeled, row-switch, row-expression-switch, found-innermost, none-innermost, parent-innermost}
use Rattle.rules.proofs.Lists.{switch-body, case-block, case-switch}
use Rattle.rules.proofs.Steps.{fallthrough-case}
use Rattle.rules.proofs.Placed.{ends-none, ends_by, in-switch}

-- row g, its labels included, is an item of the list c: `item` is g or the first of its labels
pub record ItemOf (w : List ℕ) (c g : ℕ) : Type 0 where
  pub item : ℕ
  pub listed : Child w c item
  pub heads : item ≤ g
  pub labels : (k : ℕ) → item ≤ k → k < g → kind w k ≡ 3

-- it is one of a clause of a switch of kind 15, whose Block is the row after it; Empty rows alone follow it there; and another clause follows
pub record FallsOn (w : List ℕ) (g : ℕ) : Type 0 where
  pub switch : ℕ
  pub clause : ℕ
  pub row : switch < row_count w
  pub kind-15 : kind w switch ≡ 15
  pub in-switch : Child w (suc switch) clause
  pub in-clause : ItemOf w clause g
  pub rest : (k : ℕ) → g < k → k < end w clause → kind w k ≡ 2
  pub next : Child w (suc switch) (end w clause)

-- ---- rules of the classes
abbrev is_label_or_fallthrough : Class → Bool
is_label_or_fallthrough = one_of (labeled ∷ fallthrough ∷ [])

abbrev is_list_or_label : Class → Bool
is_list_or_label c = is_list c || one_of (labeled ∷ []) c

item-parent : (q c : Class) → is_label_or_fallthrough c ≡ true → fits q c ≡ true → is_list_or_label q ≡ true
unfolding every lowest
item-parent = parent-rule is_label_or_fallthrough is_list_or_label refl

switch-child : (q c : Class) → is_switch q ≡ true → fits q c ≡ true → one_of (case_block ∷ []) c ≡ true
unfolding every lowest
switch-child = child-rule is_switch (one_of (case_block ∷ [])) refl

block-child : (q c : Class) → one_of (case_block ∷ []) q ≡ true → fits q c ≡ true → is_case c ≡ true
unfolding every lowest
block-child = child-rule (one_of (case_block ∷ [])) is_case refl

case-list : (c : Class) → is_case c ≡ true → is_list c ≡ true
unfolding every lowest
case-list = class-rule is_case is_list refl

module _ {w p b : List ℕ} (body : Body w p b) where
  -- ---- a row's kind and class say each other
  module _ (r : ℕ) (h : r < row_count w) where
    label-kind : class w r ≡ labeled → kind w r ≡ 3
    label-kind e = eqb-true (kind w r) 3 (row-labeled w r (kind w r) refl (body.details r h) ∙ rw e)

    label-class : kind w r ≡ 3 → class w r ≡ labeled
    label-class k = is_one (class w r) labeled (sym (row-labeled w r (kind w r) refl (body.details r h)) ∙ eq-eqb (kind w r) 3 k)

    empty-kind : class w r ≡ empty → kind w r ≡ 2
    empty-kind e = eqb-true (kind w r) 2 (row-empty w r (kind w r) refl (body.details r h) ∙ rw e)

    empty-class : kind w r ≡ 2 → class w r ≡ empty
    empty-class k = is_one (class w r) empty (sym (row-empty w r (kind w r) refl (body.details r h)) ∙ eq-eqb (kind w r) 2 k)

    expression-kind : one_of (switch ∷ []) (class w r) ≡ true → kind w r ≡ 15
    expression-kind t = eqb-true (kind w r) 15 (row-expression-switch w r (kind w r) refl (body.details r h) ∙ t)

    expression-class : kind w r ≡ 15 → one_of (switch ∷ []) (class w r) ≡ true
    expression-class k = sym (row-expression-switch w r (kind w r) refl (body.details r h)) ∙ eq-eqb (kind w r) 15 k

    is-switch : (n : ℕ) → kind w r ≡ n → among switches n ≡ true → is_switch (class w r) ≡ true
    is-switch n k t = sym (row-switch w r (kind w r) refl (body.details r h)) ∙ rw k t

  -- ---- the list of a row is that of its label
  module _ (k : ℕ) (h : k < row_count w) (e : class w k ≡ labeled) where
    around-label : (q : ℕ) → Innermost w is_list (suc k) q → Innermost w is_list k q
    around-label q i = elim (ℕ_discrete q k) [
      | yes y ↦ let z : false ≡ true = rw (y, e) at i.passes in absurd (clash (cc))
      | no n ↦ record { before = omega (arith, i.before); reaches = omega (arith, i.reaches); passes = i.passes }
    ]

    label-around : (q : ℕ) → Innermost w is_list k q → Innermost w is_list (suc k) q
    label-around q i =
        let one = body.one_statement k h (rw e) in
        let in-it = body.nested q k (omega (arith, i.before)) i.before i.reaches in
        record { before = omega (arith, i.before); reaches = omega (arith, one.0); passes = i.passes }

    labelled-list : list_of w (suc k) ≡ list_of w k
    unfolding list_of
    labelled-list = case-found (innermost w is_list k)
        (λ q f.
        found-innermost w is_list (suc k) q (label-around q (innermost-found w is_list k q f)) (λ j a i. innermost-last w is_list k q j f a (around-label j i))
        ∙ sym f)
        (λ f. none-innermost w is_list (suc k) (λ j i. innermost-none w is_list k j f (around-label j i)) ∙ sym f)

  -- ---- from the list to the item, and back
  below-label : (c j : ℕ) → j < row_count w → class w j ≡ labeled → ItemOf w c j → ItemOf w c (suc j)
  below-label c j h e x =
      record {
        item = x.item;
        listed = x.listed;
        heads = omega (arith, x.heads);
        labels = λ k a l. elim (ℕ_discrete k j) [
          | yes y ↦ rw y (label-kind j h e)
          | no n ↦ x.labels k a (omega arith)
        ];
      }

  heads : (g : ℕ) → g < row_count w → is_label_or_fallthrough (class w g) ≡ true → (c : ℕ) → list_of w g ≡ some c → ItemOf w c g
  unfolding list_of
  heads zero h t c e = let z : false ≡ true = rw body.root_class at t in absurd (clash (cc))
  heads (suc j) h t c e =
      let (q, l, m, d) = parent_in body (suc j) h (omega arith) in
      ⊎_elim
      (λ (u : is_list (class w q) ≡ true).
      let f = parent-innermost body is_list q (suc j) l d u in
      let same : q ≡ c = cc in
      let d' : Child w c (suc j) = rw (← same) d in
      record { item = suc j; listed = d'; heads = omega arith; labels = λ k a b. absurd (omega arith) })
      (λ (u : one_of (labeled ∷ []) (class w q) ≡ true).
      let k = is_one (class w q) labeled u in
      let same : j ≡ q = omega (arith, only_item (body.one_statement q l (rw k)).1 d) in
      let k' : class w j ≡ labeled = rw same k in
      let i : j < row_count w = omega arith in
      below-label c j i k' (heads j i (rw k') c (sym (labelled-list j i k') ∙ e)))
      (or-true (is_list (class w q)) (one_of (labeled ∷ []) (class w q)) (item-parent (class w q) (class w (suc j)) t (body.child_fits q (suc j) l d)))

  headed : (c : ℕ) → c < row_count w → is_list (class w c) ≡ true → (g : ℕ) → g < row_count w → ItemOf w c g → list_of w g ≡ some c
  unfolding list_of
  headed c i u zero h x = absurd (omega (arith, item_from x.listed, x.heads))
  headed c i u (suc j) h x = elim (ℕ_discrete x.item (suc j)) [
    | yes y ↦ rw (← y) (parent-innermost body is_list c x.item i x.listed u)
    | no n ↦
        let m : j < row_count w = omega arith in
        let l : x.item ≤ j = omega (arith, x.heads) in
        let k = label-class j m (x.labels j l (omega arith)) in
        labelled-list j m k
        ∙ headed c i u j m (record { item = x.item; listed = x.listed; heads = l; labels = λ k a b. x.labels k a (omega arith) })
  ]

  -- ---- a clause of a switch
  clause-case : (s c : ℕ) → s < row_count w → is_switch (class w s) ≡ true → Child w (suc s) c
      → (suc s < row_count w) × (one_of (case_block ∷ []) (class w (suc s)) ≡ true) × (is_case (class w c) ≡ true)
  clause-case s c h t d =
      let one = body.one_block s h (switch-body (class w s) t) in
      let first : Child w s (suc s) = here one.0 in
      let i = child-in body s h first in
      let u = switch-child (class w s) (class w (suc s)) t (body.child_fits s (suc s) h first) in
      (i, u, block-child (class w (suc s)) (class w c) u (body.child_fits (suc s) c i d))

  clause-list : (s c g : ℕ) → s < row_count w → is_switch (class w s) ≡ true → Child w (suc s) c → g < row_count w → ItemOf w c g → list_of w g ≡ some c
  clause-list s c g h t d i x =
      let (m, u, v) = clause-case s c h t d in
      headed c (child-in body (suc s) m d) (case-list (class w c) v) g i x

  -- ---- well placed by the definition, and by kinds and children
  of-next : (g n : ℕ) → class w g ≡ fallthrough → g < row_count w → ends_case w g ≡ true → next_case w g ≡ some n → NextCase w g n → FallsOn w g
  unfolding list_of
  of-next g n e h t f x =
      let c = x.clause in
      let i : c < row_count w = omega (arith, (innermost-found w is_list g c x.listed).before) in
      let (k, m, d) = case-block body c x.home i x.case_row x.homed in
      let (q, same, found) = case-switch body c x.home i x.case_row x.homed in
      let (u, v) = and-true (in_expression_switch w c) (only_empty w (suc g) (end w c)) (sym (ends_by w g n c f x.listed) ∙ t) in
      let row : q < row_count w = omega arith in
      let d' : Child w (suc q) c = rw (← same) d in
      let more : end w c < end w (suc q) = rw (← same) x.more in
      record {
        switch = q;
        clause = c;
        row = row;
        kind-15 = expression-kind q row (sym (in-switch w c q found) ∙ u);
        in-switch = d';
        in-clause = heads g h (rw e) c x.listed;
        rest = λ k a l.
            let j : k < row_count w = omega (arith, body.sized.within c i) in
            empty-kind k j (only-empty w (suc g) (end w c) v k a l);
        next = item-next d' more;
      }

  pub falls-on : (g : ℕ) → g < row_count w → class w g ≡ fallthrough → ends_case w g ≡ true → FallsOn w g
  falls-on g h e t = case-found (next_case w g)
      (λ n f. of-next g n e h t f (next-case w g n f))
      (λ f. let x = ends-none w g f in absurd (clash (cc)))

  pub on-ends : (g : ℕ) → g < row_count w → FallsOn w g → ends_case w g ≡ true
  on-ends g h x =
      let s = x.switch in
      let c = x.clause in
      let t = is-switch s x.row 15 x.kind-15 refl in
      let (i, u, v) = clause-case s c x.row t x.in-switch in
      let j = child-in body (suc s) i x.in-switch in
      let l = clause-list s c g x.row t x.in-switch h x.in-clause in
      let inner = parent-innermost body (one_of (case_block ∷ [])) (suc s) c i x.in-switch u in
      let n = fallthrough-case w p b g c (suc s) l v inner (item-before x.next) in
      let (q, same, found) = case-switch body c (suc s) j v inner in
      let s' : s ≡ q = omega arith in
      let y : one_of (switch ∷ []) (class w q) ≡ true = rw (← s') (expression-class s x.row x.kind-15) in
      let empties = all-empty w (suc g) (end w c)
      (λ k a b.
      let m : k < row_count w = omega (arith, body.sized.within c j) in
      empty-class k m (x.rest k a b)) in
      ends_by w g (end w c) c n l ∙ true-and (in_expression_switch w c) (only_empty w (suc g) (end w c)) (in-switch w c q found ∙ y) empties

  -- ---- a row is an item of one clause, so it doesn't fall on in a type switch
  pub not_on : (s c g : ℕ) → s < row_count w → kind w s ≡ 16 → Child w (suc s) c → g < row_count w → ItemOf w c g → FallsOn w g → ⊥
  not_on s c g h k d i x y =
      let t = is-switch s h 16 k refl in
      let u = is-switch y.switch y.row 15 y.kind-15 refl in
      let l = clause-list s c g h t d i x in
      let m = clause-list y.switch y.clause g y.row u y.in-switch i y.in-clause in
      let e = body.child_parent (suc s) c (clause-case s c h t d).0 d in
      let f = body.child_parent (suc y.switch) y.clause (clause-case y.switch y.clause y.row u y.in-switch).0 y.in-switch in
      let same : c ≡ y.clause = cc in
      let one : s ≡ y.switch = cc in
      let z : kind w s ≡ 15 = rw one y.kind-15 in
      omega arith
