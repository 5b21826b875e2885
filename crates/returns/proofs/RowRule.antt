-- The statement rule at a row whose size the code has read: what each arm of it requires at its calls, and what it answers.
-- An arm's kind gives the row's class, and the class its rule; what the class settles is one test over the table of the allowed details.
-- Assumes nothing.
use mathlib.Core.Path.{◌≡◌, refl, sym, ◌∙◌, ap}
use mathlib.Core.Bool.{Bool, true, false, ◌&&◌, ◌||◌, not}
use mathlib.Core.List.{List, [], ◌∷◌, map}
use mathlib.Core.Logic.{◌⊎◌, inl, inr}
use Prim.Native.Nat.{ℕ, suc, ◌+◌, ◌*◌, ◌≤◌, ◌<◌}
use native.Mathlib.Omega.{arith}
use native.Mathlib.Numerals.{add-one}
use lib.Dec.{eqb, leb}
use borrow.Author.Tests.{ne_eqb}
use Rattle.rules.specs.Scan.{lowest}
use Rattle.rules.specs.Rows.{row_count, kind, detail, name, size, end, here, later}
use Rattle.rules.specs.Class.{Class, labeled, if_else, select, one_of, is_statement, detail_allowed, class_of, base, class}
use Rattle.rules.specs.Scope.{is_list}
use Rattle.rules.specs.Labels.{is_class}
use Rattle.rules.specs.Body.{Body, fits}
use Rattle.rules.proofs.Test.{and-true}
use Rattle.rules.proofs.Every.{every, implies, implied, same, same-eq}
use Rattle.rules.proofs.Details.{of-allowed}
use Rattle.rules.proofs.ByKind.{among}
use Rattle.rules.proofs.Classes.{no_block}
use Rattle.rules.proofs.Shape.{opens}
use Rattle.rules.proofs.ClassRules.{is_never, is_always, child-rule}
use Rattle.rows.specs.Kinds.{number}
use Rattle.rows.specs.declared.kinds.Kind.{Kind}
use Rattle.rows.specs.declared.kinds.Kind.TheVariants.{Labeled, Expr, Return, Branch, Block, If, Switch, TypeSwitch, Select, For}
use Rattle.rows.proofs.Numbers.{OneOf, NoKind, is-kind, not-kind, not-among}
use Rattle.rows.specs.Branches.{number as branch_number}
use Rattle.rows.specs.declared.details.Branch as jump
use Rattle.rows.specs.declared.details.Branch.TheVariants.{Break, Continue, Goto, Fallthrough}
use Rattle.rows.proofs.Marks.{marked, unmarked}
use Rattle.breaks.specs.Leaves.{label_number, Closed, any_leaves}
use Rattle.returns.specs.Search.{is_terminating_body, is_terminating_list}
use Rattle.breaks.proofs.Ranges.{label-on, no-label-on, closed-below, label_after}
use Rattle.returns.proofs.ByClass.{row_settled, row_list, row-labeled, row-if_else, row-for}
use Rattle.breaks.proofs.ByWords.{Tabled, labeled-kind, block-kind, else-kind, for-kind, switch-kind, select-kind}
use Rattle.breaks.proofs.Referring.{has-break-below}
use Rattle.returns.proofs.Calls as calls
use Rattle.returns.proofs.Calls.{RowCall, ListCall, SwitchCall}

-- the row r has the size n, and t is its measure
pub record Known (w p b : List ℕ) (t r label n : ℕ) : Type 0 where
  pub measure : 2 * size w r ≡ t
  pub body : Body w p b
  pub row : r < row_count w
  pub statement : is_statement (class w r) ≡ true
  pub labelled : label ≡ label_number w r
  pub size_is : n ≡ size w r

-- what stands directly below a Labeled row or an If with an else is a statement
pub part_of : (q c : Class) → one_of (labeled ∷ if_else ∷ []) q ≡ true → fits q c ≡ true → is_statement c ≡ true
unfolding every lowest
part_of = child-rule (one_of (labeled ∷ if_else ∷ [])) is_statement refl

-- the class settles the verdict as t says
abbrev settles : Bool → Class → Bool
settles t c = same t (is_always c) && (is_never c || is_always c)

-- the kinds with an arm of their own
abbrev pub arms : List Kind
arms = For ∷ Select ∷ TypeSwitch ∷ Switch ∷ If ∷ Block ∷ Branch ∷ Return ∷ Expr ∷ Labeled ∷ []

module _ {w p b : List ℕ} {t r label n : ℕ} (a : Known w p b t r label n) where
  allowed : detail_allowed (kind w r) (detail w r) ≡ true
  allowed = a.body.details r a.row

  -- ---- rows that the class settles

  -- where the kind and detail pass P, the table settles it as A says
  answers : (P A : ℕ → ℕ → Bool) → Tabled (λ k d. implies (P k d) (settles (A k d) (class_of k d)))
      → eqb (kind w r) 12 ≡ false → P (kind w r) (detail w r) ≡ true → A (kind w r) (detail w r) ≡ is_terminating_body w p b r
  unfolding base
  answers P A e n t =
      let u : Bool = A (kind w r) (detail w r) in
      let s : settles u (class w r) ≡ true =
      ap (settles u) (no_block w r allowed n) ∙ implied (P (kind w r) (detail w r)) (settles u (class_of (kind w r) (detail w r)))
      (of-allowed (λ k d. implies (P k d) (settles (A k d) (class_of k d))) e (kind w r) (detail w r) allowed) t in
      let x = and-true (same u (is_always (class w r))) (is_never (class w r) || is_always (class w r)) s in
      same-eq u (is_always (class w r)) x.0 ∙ sym (row_settled a.body r a.row x.1)

  pub expr-answer : 4 ≡ kind w r → {v : Bool} → v ≡ eqb (detail w r) 1 → v ≡ is_terminating_body w p b r
  unfolding every lowest detail_allowed class_of
  expr-answer e q = q ∙ answers (λ k d. eqb k 4) (λ k d. eqb d 1) refl (rw (sym e)) (rw (sym e))

  pub return-answer : 10 ≡ kind w r → true ≡ is_terminating_body w p b r
  unfolding every lowest detail_allowed class_of
  return-answer e = answers (λ k d. eqb k 10) (λ k d. true) refl (rw (sym e)) (rw (sym e))

  branch-answer : 11 ≡ kind w r → (k : jump.Branch) → branch_number k ≡ detail w r → leb 2 (branch_number k) ≡ is_terminating_body w p b r
  unfolding every lowest detail_allowed class_of
  branch-answer e k q = rw q (answers (λ k d. eqb k 11) (λ k d. leb 2 d) refl (rw (sym e)) (rw (sym e)))

  -- a goto and a fallthrough are terminating, a break and a continue aren't
  pub jump-answer : 11 ≡ kind w r → (k : jump.Branch) → branch_number k ≡ detail w r → (k ≡ Goto) ⊎ (k ≡ Fallthrough) → true ≡ is_terminating_body w p b r
  jump-answer e k q (inl i) = rw i at (branch-answer e k q)
  jump-answer e k q (inr i) = rw i at (branch-answer e k q)

  pub leave-answer : 11 ≡ kind w r → (k : jump.Branch) → branch_number k ≡ detail w r → (k ≡ Goto → ⊥) → (k ≡ Fallthrough → ⊥)
      → false ≡ is_terminating_body w p b r
  leave-answer e Break q f g = branch-answer e Break q
  leave-answer e Continue q f g = branch-answer e Continue q
  leave-answer e Goto q f g = absurd (f refl)
  leave-answer e Fallthrough q f g = absurd (g refl)

  pub other-answer : (k : Kind) → number k ≡ kind w r → NoKind arms k → false ≡ is_terminating_body w p b r
  unfolding every lowest detail_allowed class_of base
  other-answer k q m =
      let o = ne_eqb (kind w r) 12 (not-kind q m.0.0.0.0.0.1) in
      let s : is_statement (class_of (kind w r) (detail w r)) ≡ true = sym (ap is_statement (no_block w r allowed o)) ∙ a.statement in
      answers (λ k d. not (among (map number arms) k) && is_statement (class_of k d)) (λ k d. false) refl o (rw (not-among k arms q m, s))

  -- ---- Labeled
  pub labeled-call : 3 ≡ kind w r → {m : ℕ} → m ≡ name w r → RowCall w t (r + 1) m
  labeled-call e q =
      let c = labeled-kind w r allowed (sym e) in
      let (l, i) = a.body.one_statement r a.row (rw c) in
      let m = a.body.sized.within r a.row in
      let x = a.measure in
      let s = part_of (class w r) (class w (suc r)) (rw c) (a.body.child_fits r (suc r) a.row (here l)) in
      rw (add-one r) (omega arith, (omega arith, s, q ∙ sym (label-on w r c)))

  pub labeled-answer : 3 ≡ kind w r → {u : Bool} → u ≡ is_terminating_body w p b (r + 1) → u ≡ is_terminating_body w p b r
  labeled-answer e q = rw (add-one r) at q ∙ sym (row-labeled a.body r a.row (labeled-kind w r allowed (sym e)))

  -- ---- the rows below
  pub below : Closed w (r + 1) (r + n)
  below = rw (a.size_is, add-one r) (closed-below a.body r a.row)

  -- ---- Block: one that is a statement is that of a list
  holds-list : 12 ≡ kind w r → is_list (class w r) ≡ true
  holds-list e = rw (block-kind w r allowed (sym e) a.statement)

  pub list-call : 12 ≡ kind w r → ListCall w t (r + 1) (r + n)
  list-call e = calls.list-call a.body r a.row (holds-list e) (omega (arith, a.measure)) a.size_is

  pub list-answer : 12 ≡ kind w r → {u : Bool} → u ≡ is_terminating_list w p b (r + n) (r + 1) → u ≡ is_terminating_body w p b r
  list-answer e q = rw (a.size_is, add-one r) at q ∙ sym (row_list a.body r a.row (holds-list e))

  -- ---- If
  module _ (e : 13 ≡ kind w r) {v : Bool} (q : v ≡ eqb (detail w r) 1) where
    pub if-answer : v ≡ false → false ≡ is_terminating_body w p b r
    unfolding every lowest detail_allowed class_of
    if-answer x = answers (λ k d. eqb k 13 && not (eqb d 1)) (λ k d. false) refl (rw (sym e)) (rw (sym e, sym q ∙ x))

    module _ (x : v ≡ true) where
      has-else : class w r ≡ if_else
      has-else = else-kind w r allowed (sym e) (λ z. omega (arith, z, marked q x))

      pub then-call : RowCall w t (r + 1) 0
      then-call =
          let (l, k, i, j) = a.body.two_parts r a.row (rw has-else) in
          let m = a.body.sized.within r a.row in
          let y = a.measure in
          rw (add-one r) (omega arith, (omega arith, rw k, sym (no-label-on w r (rw has-else))))

      -- m is the first part's size as the code read it
      pub else-fits : {m : ℕ} → m ≡ size w (r + 1) → r + 1 + m ≤ 2000
      else-fits z =
          let (l, k, i, j) = a.body.two_parts r a.row (rw has-else) in
          let m = a.body.sized.within r a.row in
          let x = a.body.most_rows in
          rw (z, add-one r) (omega arith)

      pub else-call : {m : ℕ} → m ≡ size w (r + 1) → RowCall w t (r + 1 + m) 0
      else-call z =
          let (l, k, i, j) = a.body.two_parts r a.row (rw has-else) in
          let m = a.body.sized.within r a.row in
          let y = a.measure in
          let d : suc r < row_count w = omega arith in
          let s = part_of (class w r) (class w (end w (suc r))) (rw has-else) (a.body.child_fits r (end w (suc r)) a.row (later l (here i))) in
          rw (z, add-one r) (omega arith, (omega arith, s, sym (label_after a.body (suc r) d)))

      -- with u for the first part
      with_first : {u : Bool} (v : Bool) → u ≡ is_terminating_body w p b (r + 1) → u ≡ v → is_terminating_body w p b r ≡ v && is_terminating_body w p b (end w (suc r))
      with_first v f g =
          row-if_else a.body r a.row has-else ∙ ap (λ (x : Bool). x && is_terminating_body w p b (end w (suc r))) (sym (rw (add-one r) at f) ∙ g)

      pub first-no : {u : Bool} → u ≡ is_terminating_body w p b (r + 1) → u ≡ false → false ≡ is_terminating_body w p b r
      first-no f g = sym (with_first false f g)

      pub both-parts : {u v : Bool} → u ≡ is_terminating_body w p b (r + 1) → u ≡ true → {m : ℕ} → m ≡ size w (r + 1)
          → v ≡ is_terminating_body w p b (r + 1 + m) → v ≡ is_terminating_body w p b r
      both-parts f g z h = rw (z, add-one r) at h ∙ sym (with_first true f g)

  -- ---- Switch, TypeSwitch and Select: the rule of a switch takes the same row
  same_row : {found : Bool} → (opens (class w r) ≡ true) × (found ≡ is_class w select r) → SwitchCall w t r label found
  same_row (o, f) =
      let m = a.body.sized.some_rows r a.row in
      let x = a.measure in
      (omega arith, (a.row, o, f, a.labelled))

  pub switch-call : {k : Kind} → number k ≡ kind w r → OneOf (Switch ∷ TypeSwitch ∷ []) k → SwitchCall w t r label false
  switch-call q (inl e) = same_row (switch-kind w r allowed 15 (is-kind q e) refl refl)
  switch-call q (inr e) = same_row (switch-kind w r allowed 16 (is-kind q e) refl refl)

  pub select-call : 18 ≡ kind w r → SwitchCall w t r label true
  select-call e = same_row (select-kind w r allowed (sym e))

  -- ---- For
  module _ (e : 19 ≡ kind w r) {v : Bool} (q : v ≡ eqb (detail w r) 1) where
    pub for-answer : v ≡ true → false ≡ is_terminating_body w p b r
    unfolding every lowest detail_allowed class_of
    for-answer x = answers (λ k d. eqb k 19 && eqb d 1) (λ k d. false) refl (rw (sym e)) (rw (sym e, sym q ∙ x))

    pub loop-answer : v ≡ false → {u : Bool} → u ≡ any_leaves w p b (r + 1) (r + n) label true → not u ≡ is_terminating_body w p b r
    loop-answer x f =
        let c = for-kind w r allowed (sym e) (unmarked q x) in
        let g = has-break-below a.body r a.row (rw c) in
        ap not (rw (a.size_is, add-one r, a.labelled) at f ∙ sym g) ∙ sym (row-for a.body r a.row c)
