-- The walk of goscript's `stmt_branches` from the state at row x to the state at the row's end, by induction on the calls: a row's own work by the laws of its
-- class, the rows below it by those of its children, each told where it stands.
-- Assumes nothing.
use mathlib.Core.Path.{◌≡◌, refl, ◌∙◌}
use mathlib.Core.Bool.{true, false, ◌||◌, not}
use mathlib.Core.Logic.{◌⊎◌, inl, inr}
use mathlib.Core.List.{List, [], ◌∷◌}
use mathlib.Core.Option.{Option, none, some}
use Prim.Native.Nat.{ℕ, suc, ◌+◌, ◌≤◌, ◌<◌}
use native.Mathlib.Omega.{arith}
use native.Mathlib.Decide.{ℕ_discrete}
use borrow.Author.Tests.{not-true}
use Rattle.rules.specs.Scan.{lowest}
use Rattle.rules.specs.Rows.{row_count, name, size, end, Child, here}
use Rattle.rules.specs.Class.{Class, labeled, if_else, one_of, is_statement, class}
use Rattle.rules.specs.Names.{is_blank}
use Rattle.rules.specs.Body.{Body, OneChild, fits}
use Rattle.rules.specs.Scope.{is_block, holds_items}
use Rattle.rules.specs.Labels.{is_label}
use Rattle.rules.proofs.Test.{case-of, clash}
use Rattle.rules.proofs.Every.{every}
use Rattle.rules.proofs.ClassRules.{class-rule, child-rule}
use Rattle.rules.proofs.Nesting.{item-before, item_from, item-next, ends-before}
use Rattle.rules.proofs.LabelRows.{label_is, blank-label}
use Rattle.goscript.specs.Build.{Place, original, mended, Build}
use Rattle.goscript.specs.Syntax.{list}
use Rattle.goscript.specs.Block.{enclosing_target}
use Rattle.goscript.specs.Label.{State, append, after_labeled, block_branches, stmt_branches}
use Rattle.goscript.proofs.OneBlock.{has_block, block-below}
use Rattle.goscript.proofs.Walking.{At, Finds}
use Rattle.goscript.proofs.ContextRows.{context-lstmt}
use Rattle.goscript.proofs.ContextLists.{context-nested}
use Rattle.goscript.proofs.BlockRows.{blocks-open, blocks-after}
use Rattle.goscript.proofs.Stacked.{below-label}
use Rattle.goscript.proofs.CurrentLabels.{finds-below, finds-kept}
use Rattle.goscript.proofs.Arms.{is_clause, stays, put_back, at-blank, at_label, at_block, at-clause, at_body, at-else}
use Rattle.goscript.proofs.LeafRows.{is_other, Leaves, kept, left, Walked, passed-row, no-labeled, passed}
use Rattle.goscript.proofs.LabelRows.{entered, entered-targets, entered-state, entered-current}
use Rattle.goscript.proofs.Positions.{is_part, OnItem, bare, under, InItem, Position, item, part, stands, its-list, finds-here, finds-clause}
use Rattle.goscript.proofs.WalkedLists.{Domain, Statements, list-walked}

-- ---- rules of the classes

holds-other : (c : Class) → holds_items c ≡ true → is_other c ≡ true
unfolding every lowest
holds-other = class-rule holds_items is_other refl

pub parts-other : (c : Class) → has_block c ≡ true → is_other c ≡ true
unfolding every lowest
parts-other = class-rule has_block is_other refl

clause-holds : (c : Class) → is_clause c ≡ true → holds_items c ≡ true
unfolding every lowest
clause-holds = class-rule is_clause holds_items refl

clause-no-statement : (c : Class) → is_clause c ≡ true → is_statement c ≡ false
unfolding every lowest
clause-no-statement c t = not-true (is_statement c) (class-rule is_clause (λ c. not (is_statement c)) refl c t)

clause-no-part : (c : Class) → is_clause c ≡ true → is_part c ≡ false
unfolding every lowest
clause-no-part c t = not-true (is_part c) (class-rule is_clause (λ c. not (is_part c)) refl c t)

child-part : (q c : Class) → (has_block q || one_of (if_else ∷ []) q) ≡ true → fits q c ≡ true → is_part c ≡ true
unfolding every lowest
child-part = child-rule (λ q. has_block q || one_of (if_else ∷ []) q) is_part refl

part-unlabeled : (c : Class) → is_part c ≡ true → c ≡ labeled → ⊥
part-unlabeled c t e = let z : false ≡ true = rw e at t in clash (cc)

-- by the build's A
by_place : {G : Type 0} (q : Place) → (q ≡ original → G) → (q ≡ mended → G) → G
by_place original f g = f refl
by_place mended f g = g refl

-- what is no part of a statement stands in a list
pub in_list : {w p b : List ℕ} {l x : ℕ} {s : State} → is_part (class w x) ≡ false → Position w p b l x s → (i : ℕ) × InItem w p b l i x s
in_list f (item i n) = (i, n)
in_list f (part q) = absurd (clash (cc q.parts))

module _ (build : Build) {w p b : List ℕ} (body : Body w p b) (domain : Domain build w p b) (l x : ℕ) (s : State)
    (home : l < row_count w) (row : x < row_count w) (position : Position w p b l x s) (a : At w p b l x s) where
  after : l < x
  after = (stands body home row position).0

  inside : x < end w l
  inside = (stands body home row position).1

  within : end w x ≤ end w l
  within = body.nested l x home after inside

  finds : (class w x ≡ labeled → ⊥) → Finds w p b x s.blocks s.ctx.lstmt
  finds n = finds-here body home row position a.blocks n

  -- ---- a list inside the list l
  nested-walked : (f : ℕ) → Statements build w p b f → size w x + size w x ≤ suc (suc f) → holds_items (class w x) ≡ true
      → (lstmt : Option ℕ) → Finds w p b x s.blocks lstmt
      → Walked build w p b l x s (append s (block_branches build w p b (suc f) s.blocks lstmt (list w x) s.checker))
  nested-walked f statements few holds lstmt found =
      let o = holds-other (class w x) holds in
      let out = block_branches build w p b (suc f) s.blocks lstmt (list w x) s.checker in
      let (c, jumps) = list-walked body domain f x row holds few statements lstmt s.blocks s.checker out refl (passed w x o body l s a).checker
      (blocks-open body l x lstmt s.blocks after within (no-labeled w x o) a.blocks found) in
      record {
        state = record {
          checker = c;
          ctx = rw jumps (context-nested body l x s.ctx after row holds a.ctx);
          blocks = blocks-after body l x s.blocks after row holds a.blocks;
        };
        targets-kept = λ m. refl;
        current = kept refl;
      }

  pub block_walked : (f : ℕ) → Statements build w p b f → size w x + size w x ≤ suc (suc f) → is_block (class w x) ≡ true
      → Walked build w p b l x s (stmt_branches build w p b (suc (suc f)) x s)
  block_walked f statements few t =
      let holds : holds_items (class w x) ≡ true = rw t in
      rw (at_block build w p b (suc f) x s t)
      (nested-walked f statements few holds s.ctx.lstmt (finds (no-labeled w x (holds-other (class w x) holds))))

  pub clause-walked : (f : ℕ) → Statements build w p b f → size w x + size w x ≤ suc (suc f) → is_clause (class w x) ≡ true
      → Walked build w p b l x s (stmt_branches build w p b (suc (suc f)) x s)
  clause-walked f statements few t =
      rw (at-clause build w p b (suc f) x s t)
      (nested-walked f statements few (clause-holds (class w x) t) none
      (finds-clause body home row (in_list (clause-no-part (class w x) t) position).1 a.blocks (clause-no-statement (class w x) t)))

  -- ---- a statement's parts: the first one, from the state at the statement
  module _ (f : ℕ) (statements : Statements build w p b f) (few : size w x + size w x ≤ suc f) (o : is_other (class w x) ≡ true) where
    -- a part y of x, from a state s1 that has walked the parts before it
    part-walked : (y : ℕ) (s1 : State) → (has_block (class w x) || one_of (if_else ∷ []) (class w x)) ≡ true → Child w x y → s1.ctx.lstmt ≡ s.ctx.lstmt
        → ((n : List ℕ) → enclosing_target w p b n s1.blocks ≡ enclosing_target w p b n s.blocks) → At w p b l y s1
        → Walked build w p b l y s1 (stmt_branches build w p b f y s1) × ((stmt_branches build w p b f y s1).ctx.lstmt ≡ s.ctx.lstmt)
    part-walked y s1 t ch e same at1 =
        let from = item_from ch in
        let before-end = item-before ch in
        let reach = body.child_within x y row ch in
        let in_rows : y < row_count w = omega (arith, body.sized.within x row) in
        let is-part = child-part (class w x) (class w y) t (body.child_fits x y row ch) in
        let ends : (u : ℕ) → x < u → u < y → end w u ≤ y = λ u h m. ends-before body.sized body.child_within (body.sized.within x row) ch u h m in
        let found = finds-below w p b x y s.blocks s.ctx.lstmt (no-labeled w x o) (omega arith) reach ends (finds (no-labeled w x o)) in
        let there : Position w p b l y s1 = part (record {
          parts = is-part;
          after = omega (arith, after);
          inside = omega (arith, within);
          finds = rw e (finds-kept w p b y s.blocks s1.blocks s.ctx.lstmt same found);
        }) in
        let d = statements l y s1 home in_rows (omega (arith, from, reach)) there at1 in
        (d, still d.current is-part)
      where
        still : Leaves build w p b y s1 (stmt_branches build w p b f y s1) → is_part (class w y) ≡ true
            → (stmt_branches build w p b f y s1).ctx.lstmt ≡ s.ctx.lstmt
        still (kept i) v = i ∙ e
        still (left c q r i u h m) v = absurd (part-unlabeled (class w y) v c)

    pub body-walked : has_block (class w x) ≡ true → Walked build w p b l x s (stmt_branches build w p b (suc f) x s)
    body-walked t =
        let (h, e, k) = block-below body x row t in
        let (d, i) = part-walked (suc x) s (rw t) (here h) refl (λ n. refl) (passed w x o body l s a) in
        rw (at_body build w p b f x s t) (record { state = rw (← e) d.state; targets-kept = d.targets-kept; current = kept i })

    pub else-walked : class w x ≡ if_else → Walked build w p b l x s (stmt_branches build w p b (suc f) x s)
    else-walked c =
        let (h, k, m, e) = body.two_parts x row (rw c) in
        let s1 = stmt_branches build w p b f (suc x) s in
        let (d, i) = part-walked (suc x) s (rw c) (here h) refl (λ n. refl) (passed w x o body l s a) in
        let (d2, i2) = part-walked (end w (suc x)) s1 (rw c) (item-next (here h) m) i d.targets-kept d.state in
        rw (at-else build w p b f x s c)
        (record { state = rw (← e) d2.state; targets-kept = λ n. d2.targets-kept n ∙ d.targets-kept n; current = kept i2 })

  -- ---- a label and its statement
  module _ (f : ℕ) (statements : Statements build w p b f) (few : size w x + size w x ≤ suc f) (c : class w x ≡ labeled) where
    child : OneChild w x
    child = body.one_statement x row (rw c)

    -- from the state s1 before the statement, where it stands there
    labeled-walked : (s1 : State) → Position w p b l (suc x) s1 → At w p b l (suc x) s1
        → ((n : List ℕ) → enclosing_target w p b n s1.blocks ≡ enclosing_target w p b n s.blocks)
        → (s1.ctx.lstmt ≡ s.ctx.lstmt) ⊎ ((is_label w p b x ≡ true) × (s1.ctx.lstmt ≡ some x))
        → Walked build w p b l x s (after_labeled build s.ctx.lstmt (stmt_branches build w p b f (suc x) s1))
    labeled-walked s1 there at1 same before =
        let (h, e) = child in
        let d = statements l (suc x) s1 home (omega (arith, body.sized.within x row)) (omega arith) there at1 in
        let at-end : At w p b l (end w x) s2 = rw (← e) d.state in
        by_place build.A
        (λ q. rw (stays build s.ctx.lstmt s2 q)
        (record { state = at-end; targets-kept = λ n. d.targets-kept n ∙ same n; current = left-or-kept q d.current before }))
        (λ q. rw (put_back build s.ctx.lstmt s2 q) (record {
          state = record { checker = at-end.checker; ctx = context-lstmt l (end w x) s2.ctx s.ctx.lstmt at-end.ctx; blocks = at-end.blocks };
          targets-kept = λ n. d.targets-kept n ∙ same n;
          current = kept refl;
        }))
      where
        s2 : State
        s2 = stmt_branches build w p b f (suc x) s1

        left-or-kept : build.A ≡ original → Leaves build w p b (suc x) s1 s2
            → (s1.ctx.lstmt ≡ s.ctx.lstmt) ⊎ ((is_label w p b x ≡ true) × (s1.ctx.lstmt ≡ some x))
            → Leaves build w p b x s s2
        left-or-kept q (kept i) (inl j) = kept (i ∙ j)
        left-or-kept q (kept i) (inr (v, j)) = left c q x (i ∙ j) v row (omega arith)
        left-or-kept q (left k r t i v h m) j = left c q t i v h (omega (arith, child.1))

    pub label-walked : Walked build w p b l x s (stmt_branches build w p b (suc f) x s)
    label-walked =
        let (i, n) = in_list (rw c) position in
        let st = below-label n.stacked c child within in
        case-of (is_blank p b (name w x))
        (λ t.
        let v = blank-label w p b x t in
        rw (at-blank build w p b f x s c t)
        (labeled-walked s (item i (record { stacked = st; holds = n.holds; fit = n.fit; on-item = further i v n.on-item })) (blank-passed v) (λ m. refl)
        (inl refl)))
        (λ t.
        let v : is_label w p b x ≡ true = label_is w p b x (record { row = omega arith; labels = c; not_blank = t }) in
        let listed = its-list body home row n (rw c) in
        rw (at_label build w p b f x s c t)
        (labeled-walked (entered w p b x s)
        (item i (record {
          stacked = st;
          holds = n.holds;
          fit = n.fit;
          on-item = under x n.stacked.upto (omega arith) v (λ k y z. absurd (omega arith))
              (entered-current body l x row s v listed a);
        }))
        (entered-state body l x row s v listed a) (entered-targets body l x row s v listed a) (inr (v, entered-current body l x row s v listed a))))
      where
        further : (i : ℕ) → is_label w p b x ≡ false → OnItem w p b l i x s → OnItem w p b l i (suc x) s
        further i v (bare e u) = bare (λ k h m. elim (ℕ_discrete k x) [ yes y ↦ rw y v | no o ↦ e k h (omega arith) ]) (λ g h m t. u g (omega arith) m t)
        further i v (under t h m y e u) = under t h (omega arith) y (λ k j z. elim (ℕ_discrete k x) [ yes q ↦ rw q v | no o ↦ e k j (omega arith) ]) u

        blank-passed : is_label w p b x ≡ false → At w p b l (suc x) s
        blank-passed v = passed-row body l x s (rw c) v (λ e. clash (cc)) a
