-- The current label, `ctx.lstmt`, and what a labelled break finds with it. At an item it adds nothing: it is the list's own statement, which the break finds
-- one block further out, or (in stock) the label of a statement already ended, which no break names here. Below labels it is the last of them that is not `_`,
-- and that one alone is last in its run.
-- Assumes nothing.
use mathlib.Core.Path.{◌≡◌, refl, sym, ◌∙◌, ap}
use mathlib.Core.Bool.{Bool, true, false}
use mathlib.Core.List.{List, ◌∷◌}
use mathlib.Core.Option.{Option, none, some}
use Prim.Native.Nat.{ℕ, ◌≤◌, ◌<◌}
use native.Mathlib.Omega.{arith}
use native.Mathlib.Decide.{dec_lt, ℕ_discrete}
use Rattle.rules.specs.Rows.{row_count, end}
use Rattle.rules.specs.Class.{labeled, class}
use Rattle.rules.specs.Body.{Body}
use Rattle.rules.specs.Scope.{holds_items, around}
use Rattle.rules.specs.Labels.{is_label, labels, last_in_run, labelled_break, same_names}
use Rattle.rules.proofs.Test.{case-of, case-found, clash}
use Rattle.rules.proofs.Scan.{found-highest}
use Rattle.rules.proofs.Around.{around-true, true-around}
use Rattle.rules.proofs.LabelRows.{labels-is, is-labels, other-label}
use Rattle.pending.proofs.Downward.{highest-cut}
use Rattle.jumps.proofs.BlockLabels.{is_last, last-is}
use Rattle.goscript.specs.Syntax.{ident}
use Rattle.goscript.specs.Block.{Block, new, search, named, enclosing_target}
use Rattle.goscript.specs.Domains.{none_names_ended}
use Rattle.goscript.proofs.SameNames.{same-ident}
use Rattle.goscript.proofs.DomainRows.{ended-not-named}
use Rattle.goscript.proofs.Walking.{target_before, BlocksAt, AddsNothing, Finds}
use Rattle.goscript.proofs.Stacked.{reaches, Stacked}

module _ (w p b : List ℕ) where
  -- ---- the innermost block is asked first
  top-found : (n : List ℕ) (block : Block) (parents : List Block) (t : ℕ) → named w p b n block.lstmt ≡ some t
      → enclosing_target w p b n (block ∷ parents) ≡ some t
  unfolding enclosing_target search
  top-found n block parents t e = rw (e, search)

  top-skipped : (n : List ℕ) (block : Block) (parents : List Block) → named w p b n block.lstmt ≡ none
      → enclosing_target w p b n (block ∷ parents) ≡ enclosing_target w p b n parents
  unfolding enclosing_target search
  top-skipped n block parents e = rw (e, search)

  -- a block's statement is found where it has the name
  named-is : (t g : ℕ) (v : Bool) → same_names w p b t g ≡ v → named w p b (ident w p b g) (some t) ≡ elim v [ true ↦ some t | false ↦ none ]
  named-is t g v e = ap (λ (u : Bool). elim u [ true ↦ some t | false ↦ none ]) (same-ident w p b t g ∙ e)

  -- ---- it adds nothing

  -- no label, or the innermost block's own
  pub adds_none : (l x : ℕ) (blocks : List Block) → AddsNothing w p b l x blocks none
  adds_none l x blocks g h m t = top-skipped (ident w p b g) (new none) blocks refl

  pub adds-own : (l x : ℕ) (block : Block) (parents : List Block) → AddsNothing w p b l x (block ∷ parents) block.lstmt
  adds-own l x block parents g h m t = case-found (named w p b (ident w p b g) block.lstmt)
      (λ s e. top-found (ident w p b g) (new block.lstmt) (block ∷ parents) s e ∙ sym (top-found (ident w p b g) block parents s e))
      (λ e. top-skipped (ident w p b g) (new block.lstmt) (block ∷ parents) e)

  -- further on, with the same found in the blocks
  pub adds-kept : (l x y : ℕ) (blocks blocks' : List Block) (lstmt : Option ℕ) → x ≤ y
      → ((n : List ℕ) → enclosing_target w p b n blocks' ≡ enclosing_target w p b n blocks) → AddsNothing w p b l x blocks lstmt
      → AddsNothing w p b l y blocks' lstmt
  adds-kept l x y blocks blocks' lstmt h same a g i m t = case-found (named w p b (ident w p b g) lstmt)
      (λ s e. top-found (ident w p b g) (new lstmt) blocks' s e ∙ sym (top-found (ident w p b g) (new lstmt) blocks s e)
      ∙ a g (omega arith) m t ∙ sym (same (ident w p b g)))
      (λ e. top-skipped (ident w p b g) (new lstmt) blocks' e)

  -- and so with any label
  pub finds-kept : (x : ℕ) (blocks blocks' : List Block) (lstmt : Option ℕ)
      → ((n : List ℕ) → enclosing_target w p b n blocks' ≡ enclosing_target w p b n blocks)
      → Finds w p b x blocks lstmt → Finds w p b x blocks' lstmt
  finds-kept x blocks blocks' lstmt same f g h m t = case-found (named w p b (ident w p b g) lstmt)
      (λ s e. top-found (ident w p b g) (new lstmt) blocks' s e ∙ sym (top-found (ident w p b g) (new lstmt) blocks s e) ∙ f g h m t)
      (λ e. top-skipped (ident w p b g) (new lstmt) blocks' e ∙ same (ident w p b g) ∙ sym (top-skipped (ident w p b g) (new lstmt) blocks e) ∙ f g h m t)

  -- the label of a statement already ended, where no break names one
  pub adds-ended : (l x t : ℕ) (blocks : List Block) → none_names_ended w p b ≡ true → end w l ≤ row_count w → is_label w p b t ≡ true → t < x → end w t ≤ x
      → AddsNothing w p b l x blocks (some t)
  adds-ended l x t blocks d within u h m g i n v =
      let f = ended-not-named w p b g t d (omega arith) v (omega arith) u (omega arith) in
      top-skipped (ident w p b g) (new (some t)) blocks (named-is t g false f)

  -- ---- the labels before a row, of which the innermost that passes is found
  ended-fails : (g t : ℕ) → end w t ≤ g → reaches w p b g t ≡ false
  ended-fails g t h = case-of (around w g t) (λ a. let m = around-true w g t a in absurd (omega arith)) (λ f. rw f)

  other-fails : (g t : ℕ) → labels w p b g t ≡ false → reaches w p b g t ≡ false
  other-fails g t f = case-of (around w g t) (λ a. rw (a, f)) (λ a. rw a)

  run-fails : (g t : ℕ) → last_in_run w p b t ≡ false → reaches w p b g t ≡ false
  run-fails g t f = case-of (around w g t) (λ a. rw (a, f) (case-of (labels w p b g t) (λ v. rw v) (λ v. rw v))) (λ a. rw a)

  no-label-fails : (g t : ℕ) → is_label w p b t ≡ false → reaches w p b g t ≡ false
  no-label-fails g t f = other-fails g t (case-of (labels w p b g t) (λ v. let u = (is-labels w p b g t v).0 in absurd (clash (cc))) (λ v. v))

  before_same : (x y g : ℕ) → x ≤ y → ((t : ℕ) → x ≤ t → t < y → reaches w p b g t ≡ false) → target_before w p b y g ≡ target_before w p b x g
  unfolding target_before
  before_same x y g h f = highest-cut (reaches w p b g) (reaches w p b g) x y h (λ t m. refl) f

module _ {w p b : List ℕ} (body : Body w p b) {l i x : ℕ} (row : l < row_count w) (holds : holds_items (class w l) ≡ true) (st : Stacked w l i x)
    (blocks : List Block) (at_list : BlocksAt w p b l x blocks) where
  -- the list's row, and what stands before the item
  before-item : (g t : ℕ) → x < g → l ≤ t → t < i → reaches w p b g t ≡ false
  before-item g t h m n = elim (ℕ_discrete t l) [
    | yes e ↦ no-label-fails w p b g t (other-label w p b t (λ c. let z : false ≡ true = rw (sym e, c) at holds in clash (cc)))
    | no o ↦ ended-fails w p b g t (omega (arith, st.ended t (omega arith) n, st.upto))
  ]

  within : end w x ≤ end w l
  within = body.nested l x row (omega (arith, st.after, st.upto)) st.inside

  outer : (g : ℕ) → x < g → g < end w x → labelled_break w p b g ≡ true → enclosing_target w p b (ident w p b g) blocks ≡ target_before w p b l g
  outer g h m v = at_list.targets g (omega (arith, st.after, st.upto)) (omega (arith, within)) v

  -- no label but `_` stands on it
  pub finds-unlabelled : (lstmt : Option ℕ) → ((k : ℕ) → i ≤ k → k < x → is_label w p b k ≡ false) → AddsNothing w p b l x blocks lstmt
      → Finds w p b x blocks lstmt
  finds-unlabelled lstmt n a g h m v =
      a g (omega arith) (omega (arith, within)) v
      ∙ outer g h m v
      ∙ sym (before_same w p b l x g (omega (arith, st.after, st.upto))
      (λ t f k. elim (dec_lt t i) [ yes y ↦ before-item g t h f y | no o ↦ no-label-fails w p b g t (n t (omega arith) k) ]))

  -- the label t does, and none but `_` between
  module _ (t : ℕ) (from : i ≤ t) (on : t < x) (is-label : is_label w p b t ≡ true) (last : (k : ℕ) → t < k → k < x → is_label w p b k ≡ false)
      (statement : class w x ≡ labeled → ⊥) where
    t-last : last_in_run w p b t ≡ true
    t-last = last-is w p b t x (record {
      after = on;
      inside = omega (arith, st.fills t from on, body.sized.some_rows x (omega (arith, body.sized.within l row, st.inside)));
      statement = statement;
      run = λ k h m. st.labels-on k (omega arith) m;
      last = last;
    })

    -- a label further out is not last in its run
    not_last : (k : ℕ) → i ≤ k → k < t → last_in_run w p b k ≡ false
    not_last k h m = case-of (last_in_run w p b k)
        (λ v.
        let (s, r) = is_last w p b k v in
        elim (dec_lt s x) [
          | yes y ↦ absurd (r.statement (st.labels-on s (omega (arith, r.after)) y))
          | no o ↦ absurd (clash (cc (r.last t m (omega arith))))
        ])
        (λ f. f)

    pub finds-labelled : Finds w p b x blocks (some t)
    unfolding target_before
    finds-labelled g h m v = case-of (same_names w p b t g)
        (λ s. top-found w p b (ident w p b g) (new (some t)) blocks t (named-is w p b t g true s) ∙ sym (own s))
        (λ s. top-skipped w p b (ident w p b g) (new (some t)) blocks (named-is w p b t g false s) ∙ outer g h m v ∙ sym (others s))
      where
        own : same_names w p b t g ≡ true → target_before w p b x g ≡ some t
        own s = found-highest (reaches w p b g) x t on
            (rw (true-around w g t (omega (arith, st.fills t from on)), labels-is w p b g t is-label s, t-last))
            (λ j a n. no-label-fails w p b g j (last j a n))

        others : same_names w p b t g ≡ false → target_before w p b x g ≡ target_before w p b l g
        others s = before_same w p b l x g (omega (arith, st.after, st.upto))
            (λ k f n. elim (dec_lt k i) [
              | yes y ↦ before-item g k h f y
              | no o ↦ elim (dec_lt k t) [
                | yes y ↦ run-fails w p b g k (not_last k (omega arith) y)
                | no q ↦ elim (ℕ_discrete k t) [
                  | yes e ↦ other-fails w p b g k (case-of (labels w p b g k)
                      (λ u. let z : same_names w p b t g ≡ true = rw e at (is-labels w p b g k u).1 in absurd (clash (cc)))
                      (λ u. u))
                  | no z ↦ no-label-fails w p b g k (last k (omega arith) n)
                ]
              ]
            ])

-- ---- a part of a statement that is no label finds what the statement does
pub finds-below : (w p b : List ℕ) (x y : ℕ) (blocks : List Block) (lstmt : Option ℕ) → (class w x ≡ labeled → ⊥) → x < y → end w y ≤ end w x
    → ((u : ℕ) → x < u → u < y → end w u ≤ y) → Finds w p b x blocks lstmt → Finds w p b y blocks lstmt
finds-below w p b x y blocks lstmt n h m e f g i j v =
    f g (omega arith) (omega arith) v
    ∙ sym (before_same w p b x y g (omega arith)
    (λ t a k. elim (ℕ_discrete t x) [
      | yes s ↦ no-label-fails w p b g t (other-label w p b t (rw s n))
      | no o ↦ ended-fails w p b g t (omega (arith, e t (omega arith) k))
    ]))
