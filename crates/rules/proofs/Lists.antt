-- The list of a row, from the rows around it that hold items: for a statement the innermost of them is its list,
-- since the children of a switch's or Select's Block are clauses, which hold items themselves; and for a Case it is its parent, the Block of its switch,
-- whose own parent, the row before it, is the innermost switch around the Case.
-- Assumes nothing.
use mathlib.Core.Path.{◌≡◌, refl, sym, ◌∙◌, ap}
use mathlib.Core.Bool.{Bool, true, false, ◌&&◌, not}
use mathlib.Core.List.{List, [], ◌∷◌}
use mathlib.Core.Option.{none, some}
use Prim.Native.Nat.{ℕ, zero, suc, ◌<◌}
use native.Mathlib.Omega.{arith}
use native.Mathlib.Decide.{ℕ_discrete}
use lib.Dec.{eqb}
use borrow.Author.Tests.{not-true}
use Rattle.rules.specs.Scan.{lowest}
use Rattle.rules.specs.Rows.{row_count, kind, detail, end, Child}
use Rattle.rules.specs.Class.{Class, empty, labeled, block, case_block, one_of, is_branch, switch, type_switch, is_switch, is_breakable, is_loop, is_case}
use Rattle.rules.specs.Class.{is_statement, detail_allowed, class_of, following, base, class}
use Rattle.rules.specs.Scope.{is_list, holds_items, around, innermost, list_of}
use Rattle.rules.specs.Refusals.{body, holding}
use Rattle.rules.specs.Body.{Body, fits}
use Rattle.rules.proofs.Test.{case-of, case-found, clash, and-true}
use Rattle.rules.proofs.Scan.{none-highest, found-highest}
use Rattle.rules.proofs.Every.{every, same, same-eq, class_at, of-classes, is_one}
use Rattle.rules.proofs.ByKind.{among, switches, kind-case, kind-switch, kind-expression-switch, kind-labeled, kind-empty, kind-jump}
use Rattle.rules.proofs.Classes.{no_block}
use Rattle.rules.proofs.Nesting.{item-before, item_from, child-around, ends-before}
use Rattle.rules.proofs.ClassRules.{by_one, class-rule, child-rule, parent-rule}
use Rattle.rules.proofs.Around.{around-true, true-around, Innermost, innermost-found, innermost-last, innermost-none}
use Rattle.rules.proofs.Final.{only_item, parent_in}

-- ---- tests that do not tell a Block of a switch or Select apart
pub own-words : (P : Class → Bool) → every 23 (λ i. every 23 (λ j. same (P (following (class_at i) (class_at j))) (P (class_at j)))) ≡ true
    → (w : List ℕ) (r : ℕ) → P (class w r) ≡ P (base w r)
unfolding class
own-words P e w zero = refl
own-words P e w (suc q) =
    same-eq (P (following (base w q) (base w (suc q)))) (P (base w (suc q))) (of-classes (λ b c. same (P (following b c)) (P c)) e (base w q) (base w (suc q)))

module _ (w : List ℕ) (r : ℕ) where
  pub own-items : holds_items (class w r) ≡ holds_items (base w r)
  unfolding every lowest
  own-items = own-words holds_items refl w r

  pub own-branch : is_branch (class w r) ≡ is_branch (base w r)
  unfolding every lowest
  own-branch = own-words is_branch refl w r

  pub branch-kind : detail_allowed (kind w r) (detail w r) ≡ true → eqb (kind w r) 11 ≡ is_branch (class w r)
  unfolding base
  branch-kind a = kind-jump (kind w r) (detail w r) a ∙ sym own-branch

  -- a Branch's class is that of its detail
  pub branch-class : (d n : ℕ) → detail_allowed (kind w r) (detail w r) ≡ true → kind w r ≡ 11 → d ≡ detail w r → d ≡ n → class w r ≡ class_of 11 n
  unfolding base
  branch-class d n a k i e =
      no_block w r a (ap (λ (m : ℕ). eqb m 12) k) ∙ ap (λ (m : ℕ). class_of m (detail w r)) k ∙ ap (class_of 11) (sym i ∙ e)

  pub own-breakable : is_breakable (class w r) ≡ is_breakable (base w r)
  unfolding every lowest
  own-breakable = own-words is_breakable refl w r

  pub own-loop : is_loop (class w r) ≡ is_loop (base w r)
  unfolding every lowest
  own-loop = own-words is_loop refl w r

  pub own-case : is_case (class w r) ≡ is_case (base w r)
  unfolding every lowest
  own-case = own-words is_case refl w r

  own-switch : is_switch (class w r) ≡ is_switch (base w r)
  unfolding every lowest
  own-switch = own-words is_switch refl w r

  own-expression-switch : one_of (switch ∷ []) (class w r) ≡ one_of (switch ∷ []) (base w r)
  unfolding every lowest
  own-expression-switch = own-words (one_of (switch ∷ [])) refl w r

  own-labeled : one_of (labeled ∷ []) (class w r) ≡ one_of (labeled ∷ []) (base w r)
  unfolding every lowest
  own-labeled = own-words (one_of (labeled ∷ [])) refl w r

  own-empty : one_of (empty ∷ []) (class w r) ≡ one_of (empty ∷ []) (base w r)
  unfolding every lowest
  own-empty = own-words (one_of (empty ∷ [])) refl w r

-- so the row's kind, read from its words, decides them
pub by-words : (Q : Class → Bool) (w : List ℕ) (r k : ℕ) (t : Bool) → Q (class w r) ≡ Q (base w r) → k ≡ kind w r → detail_allowed (kind w r) (detail w r) ≡ true
    → ((d : ℕ) → detail_allowed k d ≡ true → t ≡ Q (class_of k d)) → t ≡ Q (class w r)
unfolding base
by-words Q w r k t e i a h =
    let b : detail_allowed k (detail w r) ≡ true = cc in
    h (detail w r) b ∙ ap (λ (n : ℕ). Q (class_of n (detail w r))) i ∙ sym e

module _ (w : List ℕ) (r k : ℕ) (e : k ≡ kind w r) (a : detail_allowed (kind w r) (detail w r) ≡ true) where
  pub row-empty : eqb k 2 ≡ one_of (empty ∷ []) (class w r)
  row-empty = by-words (one_of (empty ∷ [])) w r k (eqb k 2) (own-empty w r) e a (λ d x. kind-empty k d x)

  pub row-labeled : eqb k 3 ≡ one_of (labeled ∷ []) (class w r)
  row-labeled = by-words (one_of (labeled ∷ [])) w r k (eqb k 3) (own-labeled w r) e a (λ d x. kind-labeled k d x)

  pub row-case : eqb k 14 ≡ is_case (class w r)
  row-case = by-words is_case w r k (eqb k 14) (own-case w r) e a (λ d x. kind-case k d x)

  pub row-switch : among switches k ≡ is_switch (class w r)
  row-switch = by-words is_switch w r k (among switches k) (own-switch w r) e a (λ d x. kind-switch k d x)

  pub row-expression-switch : eqb k 15 ≡ one_of (switch ∷ []) (class w r)
  row-expression-switch = by-words (one_of (switch ∷ [])) w r k (eqb k 15) (own-expression-switch w r) e a (λ d x. kind-expression-switch k d x)

-- ---- rules of the classes
list-holds : (c : Class) → is_list c ≡ true → holds_items c ≡ true
unfolding every lowest
list-holds = class-rule is_list holds_items refl

-- what holds items and is no list holds clauses, which hold items and are no statements
abbrev holds_clauses : Class → Bool
holds_clauses c = holds_items c && not (is_list c)

clause-holds : (q c : Class) → holds_clauses q ≡ true → fits q c ≡ true → holds_items c ≡ true
unfolding every lowest
clause-holds = child-rule holds_clauses holds_items refl

clause-no-statement : (q c : Class) → holds_clauses q ≡ true → fits q c ≡ true → is_statement c ≡ false
unfolding every lowest
clause-no-statement q c t u = not-true (is_statement c) (child-rule holds_clauses (λ c. not (is_statement c)) refl q c t u)

case-parent : (q c : Class) → is_case c ≡ true → fits q c ≡ true → one_of (case_block ∷ []) q ≡ true
unfolding every lowest
case-parent = parent-rule is_case (one_of (case_block ∷ [])) refl

home-holds : (c : Class) → one_of (case_block ∷ []) c ≡ true → holds_items c ≡ true
unfolding every lowest
home-holds = class-rule (one_of (case_block ∷ [])) holds_items refl

switch-parent : (q c : Class) → one_of (case_block ∷ []) c ≡ true → fits q c ≡ true → is_switch q ≡ true
unfolding every lowest
switch-parent = parent-rule (one_of (case_block ∷ [])) is_switch refl

pub switch-body : (c : Class) → is_switch c ≡ true → holding c ≡ body
switch-body c t = by_one _ (switch ∷ type_switch ∷ []) c t (λ e. rw e) (λ e. rw e)

-- ---- what is found
module _ (w : List ℕ) (P : Class → Bool) (r : ℕ) where
  not-innermost : (k : ℕ) → k < r → (Innermost w P r k → ⊥) → (around w r k && P (class w k)) ≡ false
  not-innermost k h n = case-of (around w r k && P (class w k))
      (λ t.
      let a = and-true (around w r k) (P (class w k)) t in
      absurd (n (record { before = h; reaches = around-true w r k a.0; passes = a.1 })))
      (λ f. f)

  pub found-innermost : (k : ℕ) → Innermost w P r k → ((q : ℕ) → k < q → Innermost w P r q → ⊥) → innermost w P r ≡ some k
  unfolding innermost
  found-innermost k i n =
      found-highest (λ k. around w r k && P (class w k)) r k i.before (rw (true-around w r k i.reaches, i.passes))
      (λ q a h. not-innermost q h (n q a))

  pub none-innermost : ((q : ℕ) → Innermost w P r q → ⊥) → innermost w P r ≡ none
  unfolding innermost
  none-innermost n = none-highest (λ k. around w r k && P (class w k)) r (λ k h. not-innermost k h (n k))

-- a class that passes one test passes a weaker one
weaker : (w : List ℕ) (P Q : Class → Bool) (r k : ℕ) → (P (class w k) ≡ true → Q (class w k) ≡ true)
    → Innermost w P r k → Innermost w Q r k
weaker w P Q r k f i = record { before = i.before; reaches = i.reaches; passes = f i.passes }

module _ {w p b : List ℕ} (body : Body w p b) where
  -- the innermost row that holds items around a statement is a list
  list-around : (r k : ℕ) → r < row_count w → is_statement (class w r) ≡ true → innermost w holds_items r ≡ some k → is_list (class w k) ≡ true
  list-around r k l s e = case-of (is_list (class w k)) (λ t. t)
      (λ f.
      let i = innermost-found w holds_items r k e in
      let lt = i.before in
      let clauses : holds_clauses (class w k) ≡ true = rw (i.passes, f) in
      let (d, c, h, m) = child-around body.sized k r (omega arith) lt i.reaches in
      let fit = body.child_fits k d (omega arith) c in
      let from = item_from c in
      elim (ℕ_discrete d r) [
        | yes y ↦
            let z : is_statement (class w r) ≡ false = rw y at (clause-no-statement (class w k) (class w d) clauses fit) in
            absurd (clash (cc))
        | no n ↦
            absurd (innermost-last w holds_items r k d e from
            (record { before = omega arith; reaches = m; passes = clause-holds (class w k) (class w d) clauses fit }))
      ])

  -- so it is the statement's list
  pub statement-list : (r : ℕ) → r < row_count w → is_statement (class w r) ≡ true → list_of w r ≡ innermost w holds_items r
  unfolding list_of
  statement-list r l s = case-found (innermost w holds_items r)
      (λ k e.
      found-innermost w is_list r k (weaker w holds_items is_list r k (λ t. list-around r k l s e) (innermost-found w holds_items r k e))
      (λ q a i. innermost-last w holds_items r k q e a (weaker w is_list holds_items r q (list-holds (class w q)) i))
      ∙ sym e)
      (λ e.
      none-innermost w is_list r (λ q i. innermost-none w holds_items r q e (weaker w is_list holds_items r q (list-holds (class w q)) i))
      ∙ sym e)

  -- a parent is the innermost row around its child
  pub parent-innermost : (P : Class → Bool) (j c : ℕ) → j < row_count w → Child w j c → P (class w j) ≡ true → innermost w P c ≡ some j
  parent-innermost P j c l d t =
      let from = item_from d in
      found-innermost w P c j (record { before = omega arith; reaches = item-before d; passes = t })
      (λ q a i. omega (arith, i.reaches, ends-before body.sized body.child_within (body.sized.within j l) d q a i.before))

  -- the innermost row that holds items around a Case is the Block of its switch
  pub case-home : (c : ℕ) → c < row_count w → 0 < c → is_case (class w c) ≡ true
      → innermost w (one_of (case_block ∷ [])) c ≡ innermost w holds_items c
  case-home c i h t =
      let (j, q, m, d) = parent_in body c i h in
      let u = case-parent (class w j) (class w c) t (body.child_fits j c q d) in
      parent-innermost (one_of (case_block ∷ [])) j c q d u ∙ sym (parent-innermost holds_items j c q d (home-holds (class w j) u))

  -- which is its parent
  pub case-block : (c s : ℕ) → c < row_count w → is_case (class w c) ≡ true → innermost w (one_of (case_block ∷ [])) c ≡ some s
      → (class w s ≡ case_block) × (s < row_count w) × Child w s c
  case-block c s i t e =
      let home = innermost-found w (one_of (case_block ∷ [])) c s e in
      let (j, q, m, d) = parent_in body c i (omega (arith, home.before)) in
      let u = case-parent (class w j) (class w c) t (body.child_fits j c q d) in
      let f = parent-innermost (one_of (case_block ∷ [])) j c q d u in
      let same : j ≡ s = cc in
      rw (← same) (is_one (class w j) case_block u, q, d)

  -- the row right before such a Block is its switch
  pub block-switch : (s : ℕ) → s < row_count w → class w s ≡ case_block → (q : ℕ) × (s ≡ suc q) × (end w s ≡ end w q) × (is_switch (class w q) ≡ true)
  block-switch s m k =
      let some-row : 0 < s = elim (ℕ_discrete s 0) [
        | yes z ↦ let x : case_block ≡ block = sym k ∙ rw z body.root_class in absurd (clash (cc))
        | no n ↦ omega arith
      ] in
      let (q, l, h, x) = parent_in body s m some-row in
      let u = switch-parent (class w q) (class w s) (rw k) (body.child_fits q s l x) in
      let one = (body.one_block q l (switch-body (class w q) u)).1 in
      let same = only_item one x in
      (q, same, ap (end w) same ∙ one, u)

  -- and the innermost switch around each of its Cases
  pub case-switch : (c s : ℕ) → c < row_count w → is_case (class w c) ≡ true → innermost w (one_of (case_block ∷ [])) c ≡ some s
      → (q : ℕ) × (s ≡ suc q) × (innermost w is_switch c ≡ some q)
  case-switch c s i t e =
      let (k, m, d) = case-block c s i t e in
      let (q, same, ends, u) = block-switch s m k in
      let from = item_from d in
      let inside = item-before d in (
        q,
        same,
        found-innermost w is_switch c q (record { before = omega arith; reaches = omega arith; passes = u })
            (λ j a n. elim (ℕ_discrete j s) [
              | yes y ↦ let z : false ≡ true = rw (y, k) at n.passes in clash (cc)
              | no x ↦ omega (arith, n.reaches, ends-before body.sized body.child_within (body.sized.within s m) d j (omega arith) n.before)
            ]),
      )
