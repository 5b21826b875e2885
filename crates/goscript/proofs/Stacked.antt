-- A statement below the labels of its item: the labels from row i on stand directly on the statement x, and what stands before i in the list l has ended. So
-- the rows around x inside the list are these labels, x is in the list l, and the target of a branch x is what `target_before` finds before the list's row.
-- Assumes nothing.
use mathlib.Core.Path.{◌≡◌, refl, sym, ◌∙◌, ap}
use mathlib.Core.Bool.{Bool, true, false, ◌&&◌, not}
use mathlib.Core.List.{List}
use mathlib.Core.Option.{some}
use Prim.Native.Nat.{ℕ, suc, ◌≤◌, ◌<◌}
use native.Mathlib.Omega.{arith}
use native.Mathlib.Decide.{dec_lt, ℕ_discrete}
use lib.Dec.{ltb}
use borrow.Author.Tests.{lt-ltb, le-ltb}
use Rattle.rules.specs.Scan.{lowest}
use Rattle.rules.specs.Rows.{row_count, end}
use Rattle.rules.specs.Class.{Class, labeled, class}
use Rattle.rules.specs.Body.{Body, OneChild, fits}
use Rattle.rules.specs.Scope.{is_list, is_block, around, innermost, list_of}
use Rattle.rules.specs.Labels.{is_label, labels, last_in_run, in_block_of, target}
use Rattle.rules.proofs.Test.{case-of, clash, and-true}
use Rattle.rules.proofs.Every.{every}
use Rattle.rules.proofs.ClassRules.{parent-rule}
use Rattle.rules.proofs.Nesting.{ends-before}
use Rattle.rules.proofs.Around.{around-true, Innermost}
use Rattle.rules.proofs.Lists.{found-innermost}
use Rattle.rules.proofs.LabelRows.{is-labels, other-label}
use Rattle.pending.proofs.Downward.{highest-cut}
use Rattle.goscript.proofs.Walking.{target_before}

pub record Stacked (w : List ℕ) (l i x : ℕ) : Type 0 where
  pub after : l < i
  pub upto : i ≤ x
  pub inside : x < end w l
  pub ended : (u : ℕ) → l < u → u < i → end w u ≤ i
  pub labels-on : (k : ℕ) → i ≤ k → k < x → class w k ≡ labeled
  pub fills : (k : ℕ) → i ≤ k → k < x → end w k ≡ end w x

-- ---- an item, and the statement of a label
pub item-stacked : {w : List ℕ} {l i : ℕ} → l < i → i < end w l → ((u : ℕ) → l < u → u < i → end w u ≤ i) → Stacked w l i i
item-stacked {w} {l} {i} h m e =
    record { after = h; upto = omega arith; inside = m; ended = e; labels-on = λ k a n. absurd (omega arith); fills = λ k a n. absurd (omega arith) }

pub below-label : {w : List ℕ} {l i x : ℕ} → Stacked w l i x → class w x ≡ labeled → OneChild w x → end w x ≤ end w l → Stacked w l i (suc x)
below-label {w} {l} {i} {x} st c (h, e) m = record {
  after = st.after;
  upto = omega (arith, st.upto);
  inside = omega arith;
  ended = st.ended;
  labels-on = λ k a n. elim (ℕ_discrete k x) [ yes y ↦ rw y c | no o ↦ st.labels-on k a (omega arith) ];
  fills = λ k a n. elim (ℕ_discrete k x) [ yes y ↦ rw y (sym e) | no o ↦ st.fills k a (omega arith) ∙ sym e ];
}

-- ---- the rows around x
module _ {w : List ℕ} {l i x : ℕ} (st : Stacked w l i x) where
  around-labeled : (q : ℕ) → l < q → q < x → x < end w q → class w q ≡ labeled
  around-labeled q h a m = elim (dec_lt q i) [
    | yes n ↦ absurd (omega (arith, st.ended q h n, st.upto))
    | no n ↦ st.labels-on q (omega arith) a
  ]

  no_other : (P : Class → Bool) → P labeled ≡ false → (q : ℕ) → l < q → Innermost w P x q → ⊥
  no_other P n q h j =
      let z : P labeled ≡ true = rw (around-labeled q h j.before j.reaches) at j.passes in
      clash (cc)

  pub in-the-list : is_list (class w l) ≡ true → list_of w x ≡ some l
  unfolding list_of
  in-the-list t = found-innermost w is_list x l (record { before = omega (arith, st.after, st.upto); reaches = st.inside; passes = t })
      (no_other is_list refl)

-- ---- the target
clause-parent : (q c : Class) → (is_list c && not (is_block c)) ≡ true → fits q c ≡ true → is_block q ≡ true
unfolding every lowest
clause-parent = parent-rule (λ c. is_list c && not (is_block c)) is_block refl

and_last : (c d : Bool) → d ≡ true → c && d ≡ c
and_last true d e = e
and_last false d e = refl

and_first : (a b c : Bool) → a && b ≡ false → a && (b && c) ≡ false
and_first true b c e = rw e
and_first false b c e = refl

and_none : (a b c d : Bool) → d ≡ false → a && (b && (c && d)) ≡ false
and_none true true true d e = e
and_none true true false d e = refl
and_none true false c d e = refl
and_none false b c d e = refl

-- the statement of the label t is around g, of its name, and t is last in its run: what `target_before` asks
abbrev pub reaches : List ℕ → List ℕ → List ℕ → ℕ → ℕ → Bool
reaches w p b g t = around w g t && (labels w p b g t && last_in_run w p b t)

-- the innermost Block around g: the list's own row, or the Block whose clause that is; no label stands between
record Home (w p b : List ℕ) (l g k : ℕ) : Type 0 where
  block : innermost w is_block g ≡ some k
  upto : k ≤ l
  none_between : (t : ℕ) → k ≤ t → t < l → g < end w t → is_label w p b t ≡ false

module _ {w p b : List ℕ} (body : Body w p b) {l i g : ℕ} (row : l < row_count w) (lists : is_list (class w l) ≡ true) (st : Stacked w l i g) where
  home : (k : ℕ) × Home w p b l g k
  home = case-of (is_block (class w l)) own outer
    where
      own : is_block (class w l) ≡ true → (k : ℕ) × Home w p b l g k
      own t = (
        l,
        record {
          block = found-innermost w is_block g l (record { before = omega (arith, st.after, st.upto); reaches = st.inside; passes = t })
              (no_other st is_block refl);
          upto = omega arith;
          none_between = λ t h m n. absurd (omega arith);
        },
      )

      not_first : is_block (class w l) ≡ false → 0 < l
      not_first f = elim (ℕ_discrete l 0) [
        | yes e ↦ let z : false ≡ true = sym f ∙ ap (λ (r : ℕ). is_block (class w r)) e ∙ ap is_block body.root_class in absurd (clash (cc))
        | no n ↦ omega arith
      ]

      outer : is_block (class w l) ≡ false → (k : ℕ) × Home w p b l g k
      outer f =
          let (r, e, h, c) = body.parent_child l (not_first f) row in
          let in_rows : r < row_count w = omega arith in
          let t = clause-parent (class w r) (class w l) (rw (lists, f)) (body.child_fits r l in_rows c) in
          let reach : g < end w r = omega (arith, body.child_within r l in_rows c, st.inside) in
          let ends : (q : ℕ) → r < q → q < l → end w q ≤ l =
          λ q a m. ends-before body.sized body.child_within (body.sized.within r in_rows) c q a m in (
            r,
            record {
              block = found-innermost w is_block g r (record { before = omega (arith, st.after, st.upto); reaches = reach; passes = t })
                  (λ q a j. elim (dec_lt q l) [
                    | yes m ↦ omega (arith, ends q a m, j.reaches, st.after, st.upto)
                    | no m ↦ elim (ℕ_discrete q l) [
                      | yes y ↦ let z : is_block (class w l) ≡ true = rw y at j.passes in clash (cc)
                      | no o ↦ no_other st is_block refl q (omega arith) j
                    ]
                  ]);
              upto = omega arith;
              none_between = λ q a m n. elim (ℕ_discrete q r) [
                | yes y ↦ other-label w p b q (λ c. let z : is_block (class w q) ≡ true = rw y t in let v : false ≡ true = rw c at z in clash (cc))
                | no o ↦ absurd (omega (arith, ends q (omega arith) m, st.after, st.upto))
              ];
            },
          )

  inside-block : (k t : ℕ) → Home w p b l g k → in_block_of w p b t g ≡ ltb t k
  unfolding in_block_of
  inside-block k t x = rw (x.block, in_block_of)

  pub target_is : target w p b g ≡ target_before w p b l g
  unfolding target target_before
  target_is =
      let (k, x) = home in
      highest-cut wanted (reaches w p b g) l g (omega (arith, st.after, st.upto)) (inner k x) (outside k x)
    where
      wanted : ℕ → Bool
      wanted t = around w g t && (labels w p b g t && (last_in_run w p b t && in_block_of w p b t g))

      inner : (k : ℕ) → Home w p b l g k → (t : ℕ) → t < l → wanted t ≡ reaches w p b g t
      inner k x t h = case-of (around w g t && labels w p b g t)
          (λ v.
          let a = and-true (around w g t) (labels w p b g t) v in
          let n = (is-labels w p b g t a.1).0 in
          let m : t < k = elim (dec_lt t k) [
            | yes y ↦ y
            | no o ↦ let z = x.none_between t (omega arith) h (around-true w g t a.0) in absurd (clash (cc))
          ] in
          rw (a.0, a.1) (and_last (last_in_run w p b t) (in_block_of w p b t g) (inside-block k t x ∙ lt-ltb t k m)))
          (λ v. and_first (around w g t) (labels w p b g t) (last_in_run w p b t && in_block_of w p b t g) v
          ∙ sym (and_first (around w g t) (labels w p b g t) (last_in_run w p b t) v))

      outside : (k : ℕ) → Home w p b l g k → (t : ℕ) → l ≤ t → t < g → wanted t ≡ false
      outside k x t h m =
          let z = inside-block k t x ∙ le-ltb t k (omega (arith, x.upto)) in
          and_none (around w g t) (labels w p b g t) (last_in_run w p b t) (in_block_of w p b t g) z
