-- The current label of a row from the latest label of its list. A label around the row, after its list's row, is in that list: a list between would be around
-- the row too, and further in. So if the latest label t of the list is around the row, it is the current one. If t's statement has ended, no other label s is
-- around the row: t would stand in the statement of s with no list between, so that only labels are between, and both statements would end together.
-- Assumes nothing.
use mathlib.Core.Path.{◌≡◌, refl, sym, ◌∙◌}
use mathlib.Core.Bool.{Bool, true, ◌&&◌, ◌||◌}
use mathlib.Core.List.{List, [], ◌∷◌}
use mathlib.Core.Logic.{inl, inr}
use mathlib.Core.Option.{none, some}
use Prim.Native.Nat.{ℕ, zero, suc, ◌≤◌, ◌<◌}
use native.Mathlib.Omega.{arith}
use native.Mathlib.Decide.{ℕ_discrete, dec_lt}
use Rattle.rules.specs.Scan.{lowest}
use Rattle.rules.specs.Rows.{row_count, end, Child}
use Rattle.rules.specs.Class.{Class, labeled, one_of, class}
use Rattle.rules.specs.Scope.{is_list, list_of}
use Rattle.rules.specs.Body.{Body, fits}
use Rattle.rules.specs.Labels.{is, is_class, is_label, word}
use Rattle.rules.proofs.Test.{case-found, clash, and-true, or-true}
use Rattle.rules.proofs.Found.{is_found, found-is}
use Rattle.rules.proofs.Scan.{highest-found, highest-last, highest-none}
use Rattle.rules.proofs.Every.{every, is_one}
use Rattle.rules.proofs.ClassRules.{parent-rule}
use Rattle.rules.proofs.ClassTests.{one-is}
use Rattle.rules.proofs.Nesting.{item-before, ends-before}
use Rattle.rules.proofs.Around.{innermost-found, innermost-last}
use Rattle.rules.proofs.Lists.{found-innermost}
use Rattle.walk_state.specs.Walk.{current_label}
use Rattle.tables.proofs.Labelling.{label-class}
use Rattle.jumps.proofs.BlockLabels.{is-current, current-is}
use Rattle.label_walk.specs.Contexts.{latest_label}
use Rattle.label_walk.proofs.ListRows.{list-before}

-- a label stands below a label or in a list
label-parent : (q c : Class) → one_of (labeled ∷ []) c ≡ true → fits q c ≡ true → (one_of (labeled ∷ []) q || is_list q) ≡ true
unfolding every lowest
label-parent = parent-rule (one_of (labeled ∷ [])) (λ q. one_of (labeled ∷ []) q || is_list q) refl

-- it stands before the row
pub current-before : (w p b : List ℕ) (r : ℕ) → word (current_label w p b r) ≤ r
current-before w p b r = case-found (current_label w p b r)
    (λ s f. let (k, x) = is-current w p b r s f in rw f (omega (arith, x.before)))
    (λ f. rw f (omega arith))

module _ {w p b : List ℕ} (body : Body w p b) where
  -- of the rows around a row, its parent is the closest
  parent-closest : (q c s : ℕ) → q < row_count w → Child w q c → s < c → c < end w s → s ≤ q
  parent-closest q c s h d l m = elim (dec_lt q s) [
    | yes y ↦ absurd (omega (arith, ends-before body.sized body.child_within (body.sized.within q h) d s y l))
    | no n ↦ omega arith
  ]

  -- what stands below a label ends where the label does
  below-label : (q c : ℕ) → q < row_count w → q < c → Child w q c → class w q ≡ labeled → end w c ≡ end w q
  below-label q c h l d e =
      let one = body.one_statement q h (rw e) in
      elim (ℕ_discrete (suc q) c) [
        | yes i ↦ rw (← i) one.1
        | no n ↦
            absurd (omega (
              arith,
              one.1,
              item-before d,
              ends-before body.sized body.child_within (body.sized.within q h) d (suc q) (omega arith) (omega arith),
            ))
      ]

  -- the label t, in the list l, stands in the statement of the label s after l: c is t or a label above it, n bounds the steps
  fills : (l t s : ℕ) → t < row_count w → list_of w t ≡ some l → l < s
      → (n c : ℕ) → c < n → c ≤ t → end w c ≡ end w t → class w c ≡ labeled → s ≤ c → c < end w s → end w s ≡ end w t
  unfolding list_of
  fills l t s h f a zero c k m g d u v = absurd (omega arith)
  fills l t s h f a (suc n) c k m g d u v = elim (ℕ_discrete s c) [
    | yes i ↦ rw i g
    | no o ↦
        let (q, e, before, child) = body.parent_child c (omega arith) (omega arith) in
        let row : q < row_count w = omega arith in
        let close = parent-closest q c s row child (omega arith) v in
        elim (or-true (is_class w labeled q) (is_list (class w q))
        (label-parent (class w q) (class w c) (one-is (class w c) labeled d) (body.child_fits q c row child))) [
          | inl y ↦
              let i = is_one (class w q) labeled y in
              let j = below-label q c row before child i in
              fills l t s h f a n q (omega arith) (omega arith) (sym j ∙ g) i close (omega arith)
          | inr y ↦
              absurd (innermost-last w is_list t l q f (omega arith) (record {
                before = omega arith;
                reaches = omega (arith, body.child_within q c row child, body.sized.some_rows t h);
                passes = y;
              }))
        ]
  ]

  module _ (r l : ℕ) (row : r < row_count w) (e : list_of w r ≡ some l) where
    -- a row around r, after the row of its list, is in that list
    around-list : (t : ℕ) → l < t → t < r → r < end w t → list_of w t ≡ some l
    unfolding list_of
    around-list t a h m =
        let i = innermost-found w is_list r l e in
        let reach = i.reaches in
        found-innermost w is_list t l (record { before = a; reaches = omega arith; passes = i.passes })
        (λ q f j.
        let before = j.before in
        let inside = body.nested q t (omega arith) before j.reaches in
        innermost-last w is_list r l q e f (record { before = omega arith; reaches = omega arith; passes = j.passes }))

    -- the label t of the list l
    abbrev listed : ℕ → Bool
    listed t = is_label w p b t && is (list_of w t) l

    is-listed : (t : ℕ) → is_label w p b t ≡ true → list_of w t ≡ some l → listed t ≡ true
    is-listed t i f = rw (i, found-is (list_of w t) l f)

    -- no current label, where none of the list's can be it
    none-current : ((s : ℕ) → l < s → s < r → is_label w p b s ≡ true → r < end w s → ⊥) → current_label w p b r ≡ none
    none-current n = case-found (current_label w p b r)
        (λ s f.
        let (k, x) = is-current w p b r s f in
        let i : k ≡ l = cc x.listed in
        let after = x.after in
        absurd (n s (omega arith) x.before x.labeled-row x.reaches))
        (λ f. f)

    pub no_label : latest_label w p b l r ≡ none → current_label w p b r ≡ none
    unfolding latest_label
    no_label f = none-current (λ s a h i m.
        clash (cc (highest-none listed r s f h, is-listed s i (around-list s a h m))))

    module _ (t : ℕ) (f : latest_label w p b l r ≡ some t) where
      pub found : (t < r) × (is_label w p b t ≡ true) × (list_of w t ≡ some l)
      unfolding latest_label
      found =
          let x = highest-found listed r t f in
          let y = and-true (is_label w p b t) (is (list_of w t) l) x.1 in
          (x.0, y.0, is_found (list_of w t) l y.1)

      last : (s : ℕ) → t < s → s < r → l < s → is_label w p b s ≡ true → r < end w s → ⊥
      unfolding latest_label
      last s k h a i m = clash (cc (highest-last listed r t s f k h, is-listed s i (around-list s a h m)))

      -- its statement has not ended
      pub open-label : r < end w t → current_label w p b r ≡ some t
      open-label m =
          let (h, i, g) = found in
          let after = (list-before body t l g).before in
          current-is w p b r t l (record {
            listed = e;
            after = after;
            before = h;
            labeled-row = i;
            reaches = m;
            last = λ s k n u v. last s k n (omega arith) u v;
          })

      -- it has
      pub ended-label : end w t ≤ r → current_label w p b r ≡ none
      ended-label m = none-current (λ s a h i v.
          let (k, u, g) = found in
          let c = label-class body t (omega arith) u in
          elim (dec_lt t s) [
            | yes y ↦ last s y h a i v
            | no o ↦
                omega (arith, fills l t s (omega arith) g a (suc t) t (omega arith) (omega arith) refl c (omega arith) (omega arith))
          ])

  -- a row in no list
  pub no-list : (r : ℕ) → list_of w r ≡ none → current_label w p b r ≡ none
  unfolding current_label
  no-list r e = rw (e, current_label)
