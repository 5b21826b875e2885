-- Where the walk stands: at an item of a list, perhaps below labels of it, or at a part of a statement. Either way a labelled break further in finds its target
-- with the current label and the blocks: below labels the current label is the last of them, elsewhere it adds nothing, and a part has it from its statement.
-- Assumes nothing.
use mathlib.Core.Path.{◌≡◌, refl}
use mathlib.Core.Bool.{Bool, true, false, ◌&&◌}
use mathlib.Core.List.{List, [], ◌∷◌}
use mathlib.Core.Option.{none, some}
use Prim.Native.Nat.{ℕ, suc, ◌-◌, ◌≤◌, ◌<◌}
use native.Mathlib.Omega.{arith}
use native.Mathlib.Decide.{ℕ_discrete}
use Rattle.rules.specs.Scan.{lowest}
use Rattle.rules.specs.Rows.{row_count, end, here}
use Rattle.rules.specs.Class.{Class, labeled, block, case_block, comm_block, if, if_else, one_of, is_statement, class}
use Rattle.rules.specs.Body.{Body, fits}
use Rattle.rules.specs.Scope.{is_list, holds_items, list_of}
use Rattle.rules.specs.Labels.{is_label}
use Rattle.rules.proofs.Test.{clash}
use Rattle.rules.proofs.Every.{every, implies, implied, of-classes}
use Rattle.goscript.specs.Label.{State}
use Rattle.goscript.proofs.Walking.{BlocksAt, AddsNothing, Finds}
use Rattle.goscript.proofs.Stacked.{Stacked, in-the-list}
use Rattle.goscript.proofs.CurrentLabels.{adds_none, finds-unlabelled, finds-labelled}

-- a part of a statement: its Block, or the else part of an If
abbrev pub is_part : Class → Bool
is_part = one_of (block ∷ case_block ∷ comm_block ∷ if ∷ if_else ∷ [])

module _ (w p b : List ℕ) where
  -- the labels on the statement x of the item i: none but `_`, or the last other is the current one
  pub data OnItem (l i x : ℕ) (s : State) : Type 0 where
    bare : ((k : ℕ) → i ≤ k → k < x → is_label w p b k ≡ false) → AddsNothing w p b l x s.blocks s.ctx.lstmt → OnItem l i x s
    under : (t : ℕ) → i ≤ t → t < x → is_label w p b t ≡ true → ((k : ℕ) → t < k → k < x → is_label w p b k ≡ false) → s.ctx.lstmt ≡ some t → OnItem l i x s

  pub record InItem (l i x : ℕ) (s : State) : Type 0 where
    pub stacked : Stacked w l i x
    pub holds : holds_items (class w l) ≡ true
    pub fit : fits (class w l) (class w i) ≡ true
    pub on-item : OnItem l i x s

  pub record InPart (l x : ℕ) (s : State) : Type 0 where
    pub parts : is_part (class w x) ≡ true
    pub after : l < x
    pub inside : x < end w l
    pub finds : Finds w p b x s.blocks s.ctx.lstmt

  pub data Position (l x : ℕ) (s : State) : Type 0 where
    item : (i : ℕ) → InItem l i x s → Position l x s
    part : InPart l x s → Position l x s

-- ---- a row that holds items, a statement among them, is a list
statement-home : (q c : Class) → holds_items q ≡ true → is_statement c ≡ true → fits q c ≡ true → is_list q ≡ true
unfolding every lowest
statement-home q c t u v =
    implied (holds_items q && (is_statement c && fits q c)) (is_list q)
    (of-classes (λ q c. implies (holds_items q && (is_statement c && fits q c)) (is_list q)) refl q c) (rw (t, u, v))

module _ {w p b : List ℕ} (body : Body w p b) {l x : ℕ} {s : State} (home : l < row_count w) (row : x < row_count w) where
  pub stands : Position w p b l x s → (l < x) × (x < end w l)
  stands (item i n) = let st = n.stacked in (omega (arith, st.after, st.upto), st.inside)
  stands (part q) = (q.after, q.inside)

  -- a statement that is no part of another stands in the list
  module _ {i : ℕ} (n : InItem w p b l i x s) where
    head-statement : is_statement (class w x) ≡ true → is_statement (class w i) ≡ true
    head-statement t = elim (ℕ_discrete i x) [
      | yes e ↦ rw e t
      | no o ↦ let st = n.stacked in rw (st.labels-on i (omega arith) (omega (arith, st.upto)))
    ]

    pub home-list : is_statement (class w x) ≡ true → is_list (class w l) ≡ true
    home-list t = statement-home (class w l) (class w i) n.holds (head-statement t) n.fit

    pub its-list : is_statement (class w x) ≡ true → list_of w x ≡ some l
    its-list t = in-the-list n.stacked (home-list t)

    -- what is no statement has no label on it
    clause-item : is_statement (class w x) ≡ false → i ≡ x
    clause-item f = elim (ℕ_discrete i x) [
      | yes e ↦ e
      | no o ↦
          let st = n.stacked in
          let up = st.upto in
          let q : ℕ = x - 1 in
          let e : suc q ≡ x = omega arith in
          let c = st.labels-on q (omega arith) (omega arith) in
          let reach : suc q < end w q = omega (arith, st.fills q (omega arith) (omega arith), body.sized.some_rows x row) in
          let t = body.child_fits q (suc q) (omega arith) (here reach) in
          let z : is_statement (class w x) ≡ true = rw (c, e) at t in
          absurd (clash (cc))
    ]

  -- ---- what a break inside finds
  pub finds-here : Position w p b l x s → BlocksAt w p b l x s.blocks → (class w x ≡ labeled → ⊥) → Finds w p b x s.blocks s.ctx.lstmt
  finds-here (part q) a c = q.finds
  finds-here (item i n) a c = on n.on-item
    where
      on : OnItem w p b l i x s → Finds w p b x s.blocks s.ctx.lstmt
      on (bare e u) = finds-unlabelled body home n.holds n.stacked s.blocks a s.ctx.lstmt e u
      on (under t h m v e u) = rw u (finds-labelled body home n.holds n.stacked s.blocks a t h m v e c)

  -- a clause has no current label
  pub finds-clause : {i : ℕ} → InItem w p b l i x s → BlocksAt w p b l x s.blocks → is_statement (class w x) ≡ false → Finds w p b x s.blocks none
  finds-clause {i} n a f = finds-unlabelled body home n.holds n.stacked s.blocks a none
      (λ k h m. absurd (omega (arith, clause-item n f))) (adds_none w p b l x s.blocks)
