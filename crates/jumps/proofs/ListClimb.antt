-- The climb from a branch over the rows around it that hold items, innermost first: of the Blocks that it has passed none has a current label with the
-- branch's canonical number, so the first that has one gives the target.
-- Assumes nothing.
use mathlib.Core.Path.{◌≡◌, refl, sym, ◌∙◌}
use mathlib.Core.Bool.{true}
use mathlib.Core.List.{List}
use mathlib.Core.Option.{Option, none, some}
use Prim.Native.Nat.{ℕ, zero, suc, ◌≤◌, ◌<◌}
use native.Mathlib.Omega.{arith}
use native.Mathlib.Decide.{dec_lt, ℕ_discrete}
use lib.Dec.{eqb}
use lib.ListN.{get_or}
use borrow.Author.Tests.{eq-eqb, ne_eqb}
use Rattle.rules.specs.Scan.{lowest}
use Rattle.rules.specs.Rows.{row_count, kind, detail, name, end}
use Rattle.rules.specs.Class.{Class, class, class_of, base, following, detail_allowed}
use Rattle.rules.specs.Scope.{is_block, holds_items, innermost}
use Rattle.rules.specs.Labels.{target, word}
use Rattle.rules.proofs.Test.{clash}
use Rattle.rules.proofs.Every.{every, same, same-eq, of-classes}
use Rattle.rules.proofs.ByKind.{by_kind}
use Rattle.rules.proofs.ClassRules.{class-rule}
use Rattle.rules.proofs.Around.{innermost-found, innermost-last, innermost-none}
use Rattle.tables.specs.Canon.{row_canon, Tables}
use Rattle.walk_state.specs.Walk.{current_label, BlockLabels}
use Rattle.tables.proofs.Labelling.{label-class, labels-canon, canon-labels}
use Rattle.walk_state.proofs.TableRows.{canon-read, list-before}
use Rattle.jumps.proofs.EarlierLabel.{word-same}
use Rattle.jumps.proofs.BlockLabels.{BlockAround, is-current, target_none, target_found}

-- ---- the rows of kind 12 are the Blocks
own_block : (w : List ℕ) (r : ℕ) → is_block (class w r) ≡ is_block (base w r)
unfolding class every lowest
own_block w zero = refl
own_block w (suc q) =
    same-eq (is_block (following (base w q) (base w (suc q)))) (is_block (base w (suc q)))
    (of-classes (λ b c. same (is_block (following b c)) (is_block c)) refl (base w q) (base w (suc q)))

pub block-kind : (w : List ℕ) (r : ℕ) → detail_allowed (kind w r) (detail w r) ≡ true → eqb (kind w r) 12 ≡ is_block (class w r)
unfolding every lowest detail_allowed class_of base
block-kind w r a = by_kind (λ k. eqb k 12) is_block refl (kind w r) (detail w r) a ∙ sym (own_block w r)

block-holds : (c : Class) → is_block c ≡ true → holds_items c ≡ true
unfolding every lowest
block-holds = class-rule is_block holds_items refl

-- ---- the climb: o is the row that it has come to, around the branch g, or none; all Blocks around g from there on have another label
pub record Climbing (w p b : List ℕ) (c g : ℕ) (o : Option ℕ) : Type 0 where
  pub around : (list : ℕ) → o ≡ some list → (list < g) × (g < end w list)
  pub passed : (k t : ℕ) → word o ≤ k → BlockAround w g k → current_label w p b k ≡ some t → row_canon w p b t ≡ c → ⊥

-- no Block around r stands closer than the innermost row that holds items
closest : (w : List ℕ) (r k : ℕ) (o : Option ℕ) → innermost w holds_items r ≡ o → word o ≤ k → BlockAround w r k → ⊥
closest w r k (some q) e l a =
    innermost-last w holds_items r q k e l (record { before = a.before; reaches = a.reaches; passes = block-holds (class w k) a.blocks })
closest w r k none e l a =
    innermost-none w holds_items r k e (record { before = a.before; reaches = a.reaches; passes = block-holds (class w k) a.blocks })

module _ {w p b cs ds ls : List ℕ} {g : ℕ} (t : Tables w p b cs ds ls (suc g)) (c : ℕ) (row : g < row_count w) (ec : c ≡ get_or cs (name w g) 0) where
  -- from g itself or a row around it, all Blocks from it on having another label
  climb-from : (r : ℕ) → r ≤ g → g < end w r
      → ((k s : ℕ) → r ≤ k → BlockAround w g k → current_label w p b k ≡ some s → row_canon w p b s ≡ c → ⊥)
      → (o : Option ℕ) → word o ≡ get_or ls r 0 → Climbing w p b c g o
  climb-from r l inside passed o e =
      let f = word-same o (innermost w holds_items r) (e ∙ t.listed r (omega arith)) in
      record {
        around = λ q i.
            let x = innermost-found w holds_items r q (f ∙ i) in
            let before = x.before in
            (omega arith, omega (arith, t.body.nested q r (omega arith) before x.reaches));
        passed = λ k s h a x y. elim (dec_lt k r) [
          | yes m ↦ closest w r k o f h (record { blocks = a.blocks; before = m; reaches = omega (arith, a.reaches) })
          | no n ↦ passed k s (omega arith) a x y
        ];
      }

  -- ---- the start
  pub climb-start : (o : Option ℕ) → word o ≡ get_or ls g 0 → Climbing w p b c g o
  climb-start = climb-from g (omega arith) (omega (arith, t.body.sized.some_rows g row)) (λ k s h a x y. omega (arith, a.before))

  -- ---- no label has the number
  pub no_name : c ≡ 0 → none ≡ target w p b g
  no_name z = sym (target_none t.body g row
      (λ k s a e u.
      let before = a.before in
      let x = (is-current w p b k s e).1.before in
      omega (arith, (labels-canon t.body g s row (omega arith) u).2, canon-read t g c row ec)))

  pub climb-none : Climbing w p b c g none → none ≡ target w p b g
  climb-none m = sym (target_none t.body g row
      (λ k s a e u.
      let before = a.before in
      let x = (is-current w p b k s e).1.before in
      m.passed k s (omega arith) a e ((labels-canon t.body g s row (omega arith) u).1 ∙ sym (canon-read t g c row ec))))

  -- ---- one row of the climb
  module _ (list : ℕ) (m : Climbing w p b c g (some list)) where
    climb-row : list < g
    climb-row = (m.around list refl).0

    pub climb-in : list < row_count w
    climb-in = omega (arith, climb-row)

    block-row : eqb (kind w list) 12 ≡ is_block (class w list)
    block-row = block-kind w list (t.body.details list climb-in)

    pub climb-less : (next : ℕ) → next ≡ get_or ls list 0 → next < suc list
    climb-less next e = omega (arith, list-before t list (omega (arith, climb-row)))

    -- the climb goes on
    module _ (next : Option ℕ) (e : word next ≡ get_or ls list 0) where
      climb-on : ((s : ℕ) → is_block (class w list) ≡ true → current_label w p b list ≡ some s → row_canon w p b s ≡ c → ⊥) → Climbing w p b c g next
      climb-on other =
          climb-from list (omega (arith, climb-row)) (m.around list refl).1
          (λ k s h a x y. elim (ℕ_discrete k list) [
            | yes i ↦ other s (rw i at a.blocks) (rw i at x) y
            | no j ↦ m.passed k s (omega arith) a x y
          ])
          next e

      -- a row that is no Block
      pub climb-plain : (kind w list ≡ 12 → ⊥) → Climbing w p b c g next
      climb-plain n = climb-on (λ s u x y. clash (cc (block-row, ne_eqb (kind w list) 12 n)))

    -- a Block: its word in the table is that of its current label
    module _ (i : kind w list ≡ 12) (goto-or-label : List ℕ) (linked : BlockLabels w p b g goto-or-label) where
      is_block_lem : is_block (class w list) ≡ true
      is_block_lem = sym block-row ∙ eq-eqb (kind w list) 12 i

      label-is : (o : Option ℕ) → word o ≡ get_or goto-or-label list 0 → current_label w p b list ≡ o
      label-is o el = word-same o (current_label w p b list) (el ∙ linked.1 list climb-row is_block_lem)

      -- of no label
      pub climb-unlabelled : 0 ≡ get_or goto-or-label list 0 → (next : Option ℕ) → word next ≡ get_or ls list 0 → Climbing w p b c g next
      climb-unlabelled el next e = climb-on next e (λ s u x y. clash (cc (label-is none el)))

      module _ (label : ℕ) (el : suc label ≡ get_or goto-or-label list 0) where
        current : current_label w p b list ≡ some label
        current = label-is (some label) el

        pub label-in : label < row_count w
        label-in = omega (arith, (is-current w p b list label current).1.before, climb-in)

        module _ (d : ℕ) (ed : d ≡ get_or cs (name w label) 0) where
          -- of a label with another name
          pub climb-other : (next : Option ℕ) → word next ≡ get_or ls list 0 → (d ≡ c → ⊥) → Climbing w p b c g next
          climb-other next e o = climb-on next e
              (λ s u x y.
              let v : label ≡ s = cc (current) in
              o (canon-read t label d label-in ed ∙ rw v y))

          -- of a label with the branch's name
          pub climb-found : (c ≡ 0 → ⊥) → d ≡ c → some label ≡ target w p b g
          climb-found z o =
              let x = (is-current w p b list label current).1 in
              let same_number : row_canon w p b label ≡ row_canon w p b g = sym (canon-read t label d label-in ed) ∙ o ∙ canon-read t g c row ec in
              let names = canon-labels t.body g label row label-in (label-class t.body label label-in x.labeled-row) same_number
              (omega (arith, canon-read t g c row ec)) in
              sym (target_found t.body g row list label
              (record { blocks = is_block_lem; before = climb-row; reaches = (m.around list refl).1 }) current names
              (λ j r l a e u.
              let before = a.before in
              let after = (is-current w p b j r e).1.before in
              m.passed j r (omega arith) a e ((labels-canon t.body g r row (omega arith) u).1 ∙ sym (canon-read t g c row ec))))
