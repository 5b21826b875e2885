-- The blocks of the walk, row by row. A goto sees a label where it is the declared one of its name, stands before the row that the walk has come to, and its
-- list is around the goto: a label declared in the list is seen from then on, one declared in a list that has ended is not seen after it, and a repeated label
-- never.
-- Assumes nothing.
use mathlib.Core.Path.{◌≡◌, refl, sym, ◌∙◌, ap}
use mathlib.Core.Bool.{Bool, true, false, ◌&&◌}
use mathlib.Core.List.{List, [], ◌∷◌, ◌++◌}
use mathlib.Core.Option.{Option, none, some}
use Prim.Native.Nat.{ℕ, suc, ◌≤◌, ◌<◌}
use native.Mathlib.Omega.{arith}
use native.Mathlib.Decide.{dec_lt, ℕ_discrete}
use lib.Dec.{ltb}
use borrow.Author.Tests.{lt-ltb, le-ltb}
use Rattle.rules.specs.Scan.{highest}
use Rattle.rules.specs.Rows.{row_count, end}
use Rattle.rules.specs.Class.{labeled, class}
use Rattle.rules.specs.Names.{same_bytes}
use Rattle.rules.specs.Body.{Body}
use Rattle.rules.specs.Scope.{holds_items, list_of, in_list_of}
use Rattle.rules.specs.Labels.{is_label, declared, earlier, same_names}
use Rattle.rules.proofs.Test.{case-of, case-found, clash}
use Rattle.rules.proofs.RowNames.{same-sym}
use Rattle.rules.proofs.LabelRows.{is_declared_lem, is-labels}
use Rattle.rules.proofs.GotoRows.{list-some, in_list}
use Rattle.rules.proofs.Around.{innermost-last}
use Rattle.rules.proofs.Lists.{statement-list}
use Rattle.tables.proofs.Labelling.{label-class}
use Rattle.goscript.specs.Syntax.{ident, lookup}
use Rattle.goscript.specs.Block.{Block, new, insert, search, goto_target, enclosing_target}
use Rattle.goscript.proofs.SameNames.{same-ident, declared_same, declared-own}
use Rattle.goscript.proofs.ScopeRows.{lookup-append}
use Rattle.goscript.proofs.ContextRows.{list-around}
use Rattle.goscript.proofs.Walking.{visible, target_before, BlocksAt, Finds}

-- ---- what a goto sees
module _ (w p b : List ℕ) where
  -- at the goto itself it is the earlier label
  pub visible-earlier : (g : ℕ) → visible w p b g g ≡ earlier w p b g
  unfolding visible earlier
  visible-earlier g = refl

  visible-none : (x g : ℕ) → declared w p b g ≡ none → visible w p b x g ≡ none
  unfolding visible
  visible-none x g e = rw (e, visible)

  visible-some : (x g d : ℕ) → declared w p b g ≡ some d → visible w p b x g ≡ elim (ltb d x && in_list_of w d g) [ true ↦ some d | false ↦ none ]
  unfolding visible
  visible-some x g d e = rw (e, visible)

  -- no label between x and y is one that it sees
  visible-same : (x y g : ℕ) → x ≤ y → ((d : ℕ) → x ≤ d → d < y → declared w p b g ≡ some d → in_list_of w d g ≡ true → ⊥)
      → visible w p b y g ≡ visible w p b x g
  visible-same x y g h n = case-found (declared w p b g)
      (λ d e. visible-some y g d e ∙ ap (λ (t : Bool). elim t [ true ↦ some d | false ↦ none ]) (seen d e) ∙ sym (visible-some x g d e))
      (λ e. visible-none y g e ∙ sym (visible-none x g e))
    where
      seen : (d : ℕ) → declared w p b g ≡ some d → (ltb d y && in_list_of w d g) ≡ (ltb d x && in_list_of w d g)
      seen d e = elim (dec_lt d x) [
        | yes l ↦ rw (lt-ltb d x l, lt-ltb d y (omega arith))
        | no l ↦ elim (dec_lt d y) [
          | yes m ↦ rw (lt-ltb d y m, le-ltb d x (omega arith)) (case-of (in_list_of w d g) (λ t. absurd (n d (omega arith) m e t)) (λ f. f))
          | no m ↦ rw (le-ltb d y (omega arith), le-ltb d x (omega arith))
        ]
      ]

  visible-new : (x g : ℕ) → declared w p b g ≡ some x → in_list_of w x g ≡ true → visible w p b (suc x) g ≡ some x
  visible-new x g e t = rw (visible-some (suc x) g x e, lt-ltb x (suc x) (omega arith), t)

  visible-not-yet : (x g : ℕ) → declared w p b g ≡ some x → visible w p b x g ≡ none
  visible-not-yet x g e = rw (visible-some x g x e, le-ltb x x (omega arith))

  visible-first : (g : ℕ) → visible w p b 0 g ≡ none
  visible-first g = case-found (declared w p b g)
      (λ d e. rw (visible-some 0 g d e, le-ltb d 0 (omega arith)))
      (λ e. visible-none 0 g e)

-- ---- the chain of blocks
module _ (w p b : List ℕ) where
  -- a label put into the innermost block changes no labelled statement
  pub insert-targets : (n : List ℕ) (x : ℕ) (blocks : List Block) → enclosing_target w p b n (insert x blocks) ≡ enclosing_target w p b n blocks
  unfolding enclosing_target insert search
  insert-targets n x [] = refl
  insert-targets n x (block ∷ parents) = refl

  -- it is found where its name is asked for and none was
  module _ (n : List ℕ) (x : ℕ) (block : Block) (parents : List Block) where
    insert-found : same_bytes (ident w p b x) n ≡ true → goto_target w p b n (block ∷ parents) ≡ none → goto_target w p b n (insert x (block ∷ parents)) ≡ some x
    unfolding goto_target insert search lookup
    insert-found t e = case-found (lookup w p b n block.labels)
        (λ r f. let z : some r ≡ none = rw (f, search) at e in absurd (clash (cc)))
        (λ f. rw (lookup-append w p b n block.labels (x ∷ []), f, t, search, lookup))

    insert-other : same_bytes (ident w p b x) n ≡ false → goto_target w p b n (insert x (block ∷ parents)) ≡ goto_target w p b n (block ∷ parents)
    unfolding goto_target insert search lookup
    insert-other t = case-found (lookup w p b n block.labels)
        (λ r f. rw (lookup-append w p b n block.labels (x ∷ []), f, search))
        (λ f. rw (lookup-append w p b n block.labels (x ∷ []), f, t, search, lookup))

  -- a block without labels hides none
  new-gotos : (n : List ℕ) (lstmt : Option ℕ) (blocks : List Block) → goto_target w p b n (new lstmt ∷ blocks) ≡ goto_target w p b n blocks
  unfolding goto_target search lookup
  new-gotos n lstmt blocks = refl

  -- the first block, where nothing is found
  first-gotos : (n : List ℕ) → goto_target w p b n (new none ∷ []) ≡ none
  unfolding goto_target search lookup
  first-gotos n = refl

  first-targets : (g : ℕ) → enclosing_target w p b (ident w p b g) (new none ∷ []) ≡ target_before w p b 0 g
  unfolding enclosing_target search target_before highest
  first-targets g = refl

module _ {w p b : List ℕ} (body : Body w p b) where
  -- a declared label stands in the body
  declared-row : (g d : ℕ) → declared w p b g ≡ some d → (d < row_count w) × (is_label w p b d ≡ true)
  declared-row g d e =
      let (h, t) = is_declared_lem w p b g d e in
      (omega arith, (is-labels w p b g d t).0)

  not-declared : (g d : ℕ) → (class w d ≡ labeled → ⊥) → declared w p b g ≡ some d → ⊥
  not-declared g d n e = let (h, t) = declared-row g d e in n (label-class body d h t)

  -- ---- from row x to row y, where a goto behind sees no label between
  blocks-kept : (l x y : ℕ) (blocks : List Block) → x ≤ y
      → ((g d : ℕ) → y ≤ g → x ≤ d → d < y → declared w p b g ≡ some d → in_list_of w d g ≡ true → ⊥)
      → BlocksAt w p b l x blocks → BlocksAt w p b l y blocks
  blocks-kept l x y blocks h n a = record {
    innermost = a.innermost;
    parents = a.parents;
    some-blocks = a.some-blocks;
    gotos = λ g i m k. a.gotos g i (omega arith) k ∙ sym (visible-same w p b x y g h (λ d. n g d m));
    targets = a.targets;
  }

  -- ---- a row that declares no label
  pub blocks-same : (l x : ℕ) (blocks : List Block) → (is_label w p b x ≡ true → declared w p b x ≡ some x → ⊥)
      → BlocksAt w p b l x blocks → BlocksAt w p b l (suc x) blocks
  blocks-same l x blocks n = blocks-kept l x (suc x) blocks (omega arith) (λ g d m y z e t.
      let i : d ≡ x = omega arith in
      n (rw i at (declared-row g d e).1) (rw i at (declared-own w p b g d e)))

  -- ---- a label declared in the list
  pub blocks-declare : (l x : ℕ) (blocks : List Block) → declared w p b x ≡ some x → list_of w x ≡ some l
      → BlocksAt w p b l x blocks → BlocksAt w p b l (suc x) (insert x blocks)
  unfolding insert
  blocks-declare l x blocks e at_list a = rw a.some-blocks (declares a.innermost a.parents (rw a.some-blocks at a))
    where
      declares : (block : Block) (parents : List Block) → BlocksAt w p b l x (block ∷ parents) → BlocksAt w p b l (suc x) (insert x (block ∷ parents))
      declares block parents a = record {
        innermost = record { lstmt = block.lstmt; labels = block.labels ++ x ∷ [] };
        parents = parents;
        some-blocks = refl;
        gotos = λ g h m k. case-of (same_bytes (ident w p b x) (ident w p b g))
            (λ t.
            let s : declared w p b g ≡ some x = declared_same w p b g x (same-sym w p b x g (sym (same-ident w p b x g) ∙ t)) ∙ e in
            insert-found w p b (ident w p b g) x block parents t (a.gotos g h (omega arith) k ∙ visible-not-yet w p b x g s)
            ∙ sym (visible-new w p b x g s (rw (list-some w x g l at_list, lt-ltb l g h, lt-ltb g (end w l) k))))
            (λ t. insert-other w p b (ident w p b g) x block parents t ∙ a.gotos g h (omega arith) k
            ∙ sym (visible-same w p b x (suc x) g (omega arith)
            (λ d y z f v.
            let i : d ≡ x = omega arith in
            let u : same_names w p b x g ≡ true = rw i at (is-labels w p b g d (is_declared_lem w p b g d f).1).1 in
            clash (cc (same-ident w p b x g)))));
        targets = λ g h m t. insert-targets w p b (ident w p b g) x (block ∷ parents) ∙ a.targets g h m t;
      }

  -- ---- a list inside the list, at its end
  pub blocks-after : (l k : ℕ) (blocks : List Block) → l < k → k < row_count w → holds_items (class w k) ≡ true
      → BlocksAt w p b l k blocks → BlocksAt w p b l (end w k) blocks
  blocks-after l k blocks h row t = blocks-kept l k (end w k) blocks (omega arith) hidden
    where
      hidden : (g d : ℕ) → end w k ≤ g → k ≤ d → d < end w k → declared w p b g ≡ some d → in_list_of w d g ≡ true → ⊥
      hidden g d m y z e v =
          let (in_rows, lb) = declared-row g d e in
          let c = label-class body d in_rows lb in
          let (q, f, i, j) = in_list w d g v in
          elim (ℕ_discrete d k) [
            | yes same ↦ let u : false ≡ true = rw (sym same, c) at t in clash (cc)
            | no o ↦ elim (dec_lt q k) [
              | yes n ↦ innermost-last w holds_items d q k (sym (statement-list body d in_rows (rw c)) ∙ f) n
                  (record { before = omega arith; reaches = z; passes = t })
              | no n ↦
                  let r = (list-around w q d f).0 in
                  elim (ℕ_discrete q k) [
                    | yes s ↦ let u : end w q ≡ end w k = ap (end w) s in omega arith
                    | no p ↦ omega (arith, body.nested k q row (omega arith) (omega arith))
                  ]
            ]
          ]

  -- ---- a list inside the list, at its start; and the body's own
  pub blocks-open : (l k : ℕ) (lstmt : Option ℕ) (blocks : List Block) → l < k → end w k ≤ end w l → (class w k ≡ labeled → ⊥)
      → BlocksAt w p b l k blocks → Finds w p b k blocks lstmt → BlocksAt w p b k (suc k) (new lstmt ∷ blocks)
  blocks-open l k lstmt blocks h m n a f = record {
    innermost = new lstmt;
    parents = blocks;
    some-blocks = refl;
    gotos = λ g i j o. new-gotos w p b (ident w p b g) lstmt blocks ∙ a.gotos g (omega arith) (omega arith) (omega arith)
        ∙ sym (visible-same w p b k (suc k) g (omega arith) (λ d y z e t. let s : d ≡ k = omega arith in not-declared g d (rw s n) e));
    targets = λ g i j t. f g i j t;
  }

  pub blocks-first : BlocksAt w p b 0 1 (new none ∷ [])
  blocks-first = record {
    innermost = new none;
    parents = [];
    some-blocks = refl;
    gotos = λ g h m k. first-gotos w p b (ident w p b g) ∙ sym (visible-same w p b 0 1 g (omega arith)
        (λ d y z e t. not-declared g d (λ c. let i : d ≡ 0 = omega arith in clash (cc (body.root_class, sym c ∙ ap (class w) i))) e) ∙ visible-first w p b g);
    targets = λ g h m t. first-targets w p b g;
  }
