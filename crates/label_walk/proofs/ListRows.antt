-- The list of a row from the table of the lists. Every row but row 0 is in the list of row 0 or in one below it. The innermost row that holds items around a
-- Block is a list: else its children are clauses, which hold items themselves and are no Blocks, and the Block would be below one of them.
-- Assumes nothing.
use mathlib.Core.Path.{◌≡◌, refl, sym, ◌∙◌, ap}
use mathlib.Core.Bool.{Bool, true, false, ◌&&◌, not}
use mathlib.Core.List.{List}
use mathlib.Core.Option.{some}
use Prim.Native.Nat.{ℕ, suc, ◌+◌, ◌-◌, ◌≤◌, ◌<◌}
use native.Mathlib.Omega.{arith}
use native.Mathlib.Decide.{ℕ_discrete}
use lib.ListN.{length, get_or, set, length-set}
use borrow.Author.Tests.{not-true}
use Rattle.rules.specs.Scan.{lowest}
use Rattle.rules.specs.Rows.{row_count}
use Rattle.rules.specs.Class.{Class, block, is_statement, class}
use Rattle.rules.specs.Scope.{is_list, is_block, holds_items, innermost, list_of}
use Rattle.rules.specs.Body.{Body, fits}
use Rattle.rules.specs.Labels.{word}
use Rattle.rules.proofs.Test.{case-of, case-found, clash}
use Rattle.rules.proofs.Every.{every}
use Rattle.rules.proofs.ClassRules.{class-rule, child-rule}
use Rattle.rules.proofs.Nesting.{item_from, child-around}
use Rattle.rules.proofs.Around.{Innermost, innermost-found, innermost-last, innermost-none}
use Rattle.rules.proofs.Lists.{found-innermost, none-innermost, statement-list}
use Rattle.lists.specs.Listed.{ListedBelow}
use Rattle.lists.proofs.Opened.{listed_more}
use Rattle.tables.specs.Canon.{Tables}
use Rattle.label_walk.specs.Contexts.{Listing}

-- ---- rules of the classes
abbrev holds_clauses : Class → Bool
holds_clauses c = holds_items c && not (is_list c)

clause-holds : (q c : Class) → holds_clauses q ≡ true → fits q c ≡ true → holds_items c ≡ true
unfolding every lowest
clause-holds = child-rule holds_clauses holds_items refl

clause-no-block : (q c : Class) → holds_clauses q ≡ true → fits q c ≡ true → is_block c ≡ false
unfolding every lowest
clause-no-block q c t u = not-true (is_block c) (child-rule holds_clauses (λ c. not (is_block c)) refl q c t u)

list-holds : (c : Class) → is_list c ≡ true → holds_items c ≡ true
unfolding every lowest
list-holds = class-rule is_list holds_items refl

-- a class that passes one test passes another
other : {w : List ℕ} {P Q : Class → Bool} {r k : ℕ} → Innermost w P r k → Q (class w k) ≡ true → Innermost w Q r k
other i t = record { before = i.before; reaches = i.reaches; passes = t }

module _ {w p b : List ℕ} (body : Body w p b) where
  pub list-before : (x l : ℕ) → list_of w x ≡ some l → Innermost w is_list x l
  unfolding list_of
  list-before x l e = innermost-found w is_list x l e

  -- a row of another class than Block is not row 0
  pub after-root : (x : ℕ) → (class w x ≡ block → ⊥) → 0 < x
  after-root x n = elim (ℕ_discrete x 0) [ yes e ↦ absurd (n (rw e body.root_class)) | no o ↦ omega arith ]

  pub some-list : (x : ℕ) → 0 < x → x < row_count w → (l : ℕ) × (list_of w x ≡ some l)
  unfolding list_of
  some-list x z h = case-found (list_of w x)
      (λ l e. (l, e))
      (λ e. absurd (innermost-none w is_list x 0 e
      (record { before = z; reaches = omega arith; passes = rw body.root_class })))

  -- around a Block
  around-block : (x k : ℕ) → x < row_count w → is_block (class w x) ≡ true → innermost w holds_items x ≡ some k → is_list (class w k) ≡ true
  around-block x k h t e = case-of (is_list (class w k)) (λ u. u)
      (λ f.
      let i = innermost-found w holds_items x k e in
      let before = i.before in
      let clauses : holds_clauses (class w k) ≡ true = rw (i.passes, f) in
      let (d, c, from, reach) = child-around body.sized k x (omega arith) before i.reaches in
      let fit = body.child_fits k d (omega arith) c in
      let after = item_from c in
      elim (ℕ_discrete d x) [
        | yes y ↦
            let z : is_block (class w x) ≡ false = rw y at (clause-no-block (class w k) (class w d) clauses fit) in
            absurd (clash (cc))
        | no n ↦
            absurd (innermost-last w holds_items x k d e after
            (record { before = omega arith; reaches = reach; passes = clause-holds (class w k) (class w d) clauses fit }))
      ])

  block-list : (x : ℕ) → x < row_count w → is_block (class w x) ≡ true → list_of w x ≡ innermost w holds_items x
  unfolding list_of
  block-list x h t = case-found (innermost w holds_items x)
      (λ k e.
      found-innermost w is_list x k (other (innermost-found w holds_items x k e) (around-block x k h t e))
      (λ q a i. innermost-last w holds_items x k q e a (other i (list-holds (class w q) i.passes)))
      ∙ sym e)
      (λ e.
      none-innermost w is_list x (λ q i. innermost-none w holds_items x q e (other i (list-holds (class w q) i.passes)))
      ∙ sym e)

-- ---- what the table holds: `list` is 1 + the row of x's list
pub record InList (w : List ℕ) (x list : ℕ) : Type 0 where
  pub is-list : list_of w x ≡ some (list - 1)
  pub some-row : 0 < list
  pub before : list ≤ x

pub listing : {w p b cs ds ls : List ℕ} {x : ℕ} → Tables w p b cs ds ls x → Listing w p b ls x
listing t = record { body = t.body; room = t.lists_room; listed = t.listed }

module _ {w p b ls : List ℕ} {x : ℕ} (t : Listing w p b ls (suc x)) (h : x < row_count w) where
  pub block-word : is_block (class w x) ≡ true → get_or ls x 0 ≡ word (list_of w x)
  block-word u = t.listed x (omega arith) ∙ ap word (sym (block-list t.body x h u))

  -- that of a statement but a Block
  pub in_list : (list : ℕ) → list ≡ get_or ls x 0 → is_statement (class w x) ≡ true → (class w x ≡ block → ⊥) → InList w x list
  in_list list e s n =
      let (l, f) = some-list t.body x (after-root t.body x n) h in
      let i : list ≡ suc l = e ∙ t.listed x (omega arith) ∙ ap word (sym (statement-list t.body x h s) ∙ f) in
      let j : l ≡ list - 1 = omega arith in
      let before = (list-before t.body x l f).before in
      record { is-list = f ∙ ap some j; some-row = omega arith; before = omega arith }

-- ---- one row further: its list v is written
pub lists-next : (w ls ls₀ : List ℕ) (r v : ℕ) → length ls ≡ length ls₀ → row_count w ≤ length ls₀ → r < row_count w
    → v ≡ word (innermost w holds_items r) → ListedBelow w ls r → (length (set ls r v) ≡ length ls₀) × ListedBelow w (set ls r v) (r + 1)
lists-next w ls ls₀ r v same room h e listed = (length-set ls r v ∙ same, listed_more w ls r v (omega arith) e listed)
