-- goscript's break search below a statement, for the label directly on it: it finds a break exactly where some break leaves the rows searched.
-- It goes down through every row that hides no break; at a statement that a break can leave, only a labelled break below can leave it.
-- Stock hands on another label at a Labeled row, and `implicit` at such a statement; where it meets neither the search is the same.
-- Assumes nothing.
use mathlib.Core.Path.{◌≡◌, refl, sym, ◌∙◌, ap}
use mathlib.Core.Bool.{Bool, true, false, ◌&&◌, not}
use mathlib.Core.List.{List, [], ◌∷◌}
use mathlib.Core.Option.{Option}
use Prim.Native.Nat.{ℕ, zero, suc, ◌*◌, ◌≤◌, ◌<◌}
use native.Mathlib.Omega.{arith}
use native.Mathlib.Decide.{ℕ_discrete}
use borrow.Author.Tests.{not-true}
use Rattle.rules.specs.Scan.{lowest}
use Rattle.rules.specs.Rows.{row_count, name, size, end, here, later}
use Rattle.rules.specs.Class.{plain, declaration, empty, labeled, stop, break, continue, goto, fallthrough, if, if_else, one_of, is_breakable, class}
use Rattle.rules.specs.Names.{same_name}
use Rattle.rules.specs.Refusals.{nothing, holding}
use Rattle.rules.specs.Scope.{is_list, is_block}
use Rattle.rules.specs.Labels.{is_class}
use Rattle.rules.specs.Verdict.{has_own_break}
use Rattle.rules.specs.Body.{Body}
use Rattle.rules.proofs.Test.{clash, and-true}
use Rattle.rules.proofs.Every.{every}
use Rattle.rules.proofs.Nesting.{item_from}
use Rattle.rules.proofs.Shape.{opens}
use Rattle.rules.proofs.ClassRules.{is_clause_block, by_one, class-rule, only-opened}
use Rattle.breaks.specs.Leaves.{label_number, leaves, any_leaves}
use Rattle.breaks.proofs.Ranges.{closed-rest, closed-item}
use Rattle.breaks.proofs.Leaving as leaving
use Rattle.breaks.proofs.Leaving.{any-apart, any-unnamed, any-leaf, any_below, any_held, own-other, own-plain, own-unnamed, own-named}
use Rattle.breaks.proofs.Referring.{has-break-below}
use Rattle.goscript.specs.Build.{Build}
use Rattle.goscript.specs.Syntax.{any, list, ident}
use Rattle.goscript.specs.Returns.{is, is_some, has_break, has_break_list}
use Rattle.goscript.proofs.OneBlock.{has_block, block-below}
use Rattle.goscript.proofs.ListItems.{of-list}
use Rattle.goscript.proofs.VerdictSteps.{is_breakless, any_none, any-more, search-breakless, search-labeled, search-plain, search-named, search-list}
use Rattle.goscript.proofs.VerdictSteps.{search-if, search-if_else, search-breakable, list-search}
use Rattle.goscript.proofs.VerdictSearch.{label_of, named-label, Handed, hides_none, by-search}

module _ {build : Build} {w p b : List ℕ} (body : Body w p b) (s : ℕ) (row : s < row_count w) (handed : Handed build w p b s) where
  -- ---- the label on s, what the search for it finds, and what it is to find
  abbrev number : ℕ
  number = label_number w s

  abbrev label : Option (List ℕ)
  label = label_of p b number

  abbrev found : ℕ → ℕ → Bool → Bool
  found f r implicit = has_break build w p b f r label implicit

  abbrev found_in : ℕ → List ℕ → Bool → Bool
  found_in f l implicit = has_break_list build w p b f l label implicit

  abbrev leave : ℕ → ℕ → Bool → Bool
  leave c e implicit = any_leaves w p b c e number implicit

  -- f calls are enough to search a row below s
  abbrev Searched : ℕ → Type 0
  Searched f = (r : ℕ) (implicit : Bool) → s < r → r < end w s → is_clause_block (class w r) ≡ false → 2 * size w r ≤ f
      → found f r implicit ≡ leave r (end w r) implicit

  -- ---- the rows from s on
  inside : (r : ℕ) → s ≤ r → r < end w s → (r < row_count w) × (end w r ≤ end w s)
  inside r l m = (omega (arith, body.sized.within s row), (closed-item body s row).ends r l m)

  below_row : (r : ℕ) (implicit : Bool) → hides_none (class w r) ≡ true → leave r (end w r) implicit ≡ leave (suc r) (end w r) implicit
  unfolding every lowest
  below_row r implicit t =
      let u = class-rule hides_none (λ c. not (one_of (break ∷ []) c) && not (is_breakable c)) refl (class w r) t in
      let v = and-true (not (is_class w break r)) (not (is_breakable (class w r))) u in
      any_below w p b r number implicit (not-true (is_class w break r) v.0) (not-true (is_breakable (class w r)) v.1)

  -- ---- the list of a row
  module _ (f : ℕ) (searched : Searched f) (implicit : Bool) where
    list-found : (q : ℕ) → s ≤ q → q < end w s → opens (class w q) ≡ false → 2 * size w q ≤ suc (suc f)
        → found_in (suc f) (list w q) implicit ≡ leave (suc q) (end w q) implicit
    list-found q l m o x =
        let (h, k) = inside q l m in
        list-search build w p b f (list w q) label implicit
        ∙ of-list body q h
        (λ c rows. any (λ r. found f r implicit) rows ≡ leave c (end w q) implicit)
        (any_none (λ r. found f r implicit) ∙ sym (leaving.any_none w p b (end w q) (end w q) number implicit (omega arith)))
        (λ c rows a e i rest.
        let z = item_from i in
        let j = (closed-rest body a e).order in
        let item = closed-item body c (omega arith) in
        let n = only-opened (class w q) (class w c) o (body.child_fits q c h i) in
        any-more (λ r. found f r implicit) c rows
        ∙ rw (searched c implicit (omega arith) (omega arith) n (omega arith), rest)
        (sym (any-apart w p b c (end w c) (end w q) number implicit item.order j item.ends)))

    -- of the Block that is its one child
    block-found : (r : ℕ) → s ≤ r → r < end w s → has_block (class w r) ≡ true → 2 * size w r ≤ suc (suc (suc f))
        → found_in (suc f) (list w (suc r)) implicit ≡ leave (suc r) (end w r) implicit
    unfolding every lowest
    block-found r l m t x =
        let (h, k) = inside r l m in
        let (i, q, c) = block-below body r h t in
        let o = not-true (opens (class w (suc r))) (class-rule is_block (λ c. not (opens c)) refl (class w (suc r)) c) in
        let u = class-rule is_block hides_none refl (class w (suc r)) c in
        rw (← q) (list-found (suc r) (omega arith) (omega arith) o (omega arith) ∙ sym (below_row (suc r) implicit u))

  -- ---- a row below s
  module _ (f r : ℕ) (implicit : Bool) (l : s < r) (m : r < end w s) (x : 2 * size w r ≤ suc (suc f)) where
    abbrev Found : Type 0
    Found = found (suc (suc f)) r implicit ≡ leave r (end w r) implicit

    within : r < row_count w
    within = (inside r (omega arith) m).0

    breakless-found : is_breakless (class w r) ≡ true → Found
    unfolding every lowest
    breakless-found t =
        let leaf : holding (class w r) ≡ nothing = by_one _ (plain ∷ declaration ∷ empty ∷ stop ∷ continue ∷ goto ∷ fallthrough ∷ []) (class w r) t
        (λ e. rw e) (λ e. rw e) (λ e. rw e) (λ e. rw e) (λ e. rw e) (λ e. rw e) (λ e. rw e) in
        let n = not-true (is_class w break r) (class-rule is_breakless (λ c. not (one_of (break ∷ []) c)) refl (class w r) t) in
        search-breakless build w p b (suc f) r label implicit t
        ∙ sym (any-leaf w p b r number implicit (body.leaf r within leaf) ∙ own-other w p b r number implicit n)

    -- a break with a name, for the label of number n
    named-break : class w r ≡ break → (name w r ≡ 0 → ⊥) → (n : ℕ) → is (ident w p b r) (label_of p b n) ≡ leaves w p b r n implicit r
    unfolding ident same_name
    named-break e z zero = sym (own-unnamed w p b r 0 implicit (rw e) z refl)
    named-break e z (suc n) = sym (own-named w p b r (suc n) implicit (rw e) z (λ y. clash (cc)))

    break-found : class w r ≡ break → Found
    break-found e = elim (ℕ_discrete (name w r) 0) [
      | yes z ↦ search-plain build w p b (suc f) r label implicit e z ∙ sym (own-plain w p b r number implicit (rw e) z)
      | no z ↦ search-named build w p b (suc f) r label implicit e z ∙ named-break e z number
    ] ∙ sym (any-leaf w p b r number implicit (body.leaf r within (rw e)))

    module _ (deeper : Searched f) where
      list-row-found : is_list (class w r) ≡ true → Found
      unfolding every lowest
      list-row-found t =
          search-list build w p b (suc f) r label implicit t
          ∙ list-found f deeper implicit r (omega arith) m (not-true (opens (class w r)) (class-rule is_list (λ c. not (opens c)) refl (class w r) t)) x
          ∙ sym (below_row r implicit (class-rule is_list hides_none refl (class w r) t))

      if-found : class w r ≡ if → Found
      if-found e =
          search-if build w p b (suc f) r label implicit e
          ∙ block-found f deeper implicit r (omega arith) m (rw e) (omega arith) ∙ sym (below_row r implicit (rw e))

      -- a statement that a break can leave: where no label is looked for, none does
      breakable-found : is_breakable (class w r) ≡ true → Found
      unfolding every lowest
      breakable-found t = search-breakable build w p b (suc f) r label implicit t ∙ elim (ℕ_discrete number 0) [
        | yes z ↦ rw z (sym (any-unnamed w p b (suc r) (end w r)))
        | no z ↦
            let n : 0 < number = omega arith in
            rw (ap is_some (named-label p b number n), handed.implicit n implicit)
            (block-found f deeper false r (omega arith) m (class-rule is_breakable has_block refl (class w r) t) (omega arith))
      ] ∙ sym (any_held w p b r number implicit t)

      module _ (below : Searched (suc f)) where
        labeled-found : class w r ≡ labeled → Found
        labeled-found e =
            let (i, q) = body.one_statement r within (rw e) in
            let n = only-opened (class w r) (class w (suc r)) (rw e) (body.child_fits r (suc r) within (here i)) in
            let k = (inside r (omega arith) m).1 in
            search-labeled build w p b (suc f) r label implicit e
            ∙ rw (handed.label r l m e) (rw q at (below (suc r) implicit (omega arith) (omega arith) n (omega arith)))
            ∙ sym (below_row r implicit (rw e))

        if_else-found : class w r ≡ if_else → Found
        if_else-found e =
            let (i, c, j, q) = body.two_parts r within (rw e) in
            let n = only-opened (class w r) (class w (end w (suc r))) (rw e) (body.child_fits r (end w (suc r)) within (later i (here j))) in
            let k = (inside r (omega arith) m).1 in
            let then = closed-item body (suc r) (inside (suc r) (omega arith) (omega arith)).0 in
            let first = list-found f deeper implicit (suc r) (omega arith) (omega arith) (rw c) (omega arith) ∙ sym (below_row (suc r) implicit (rw c)) in
            let second = rw q at (below (end w (suc r)) implicit (omega arith) (omega arith) n (omega arith)) in
            search-if_else build w p b (suc f) r label implicit e
            ∙ rw (first, second) (sym (any-apart w p b (suc r) (end w (suc r)) (end w r) number implicit then.order (omega arith) then.ends))
            ∙ sym (below_row r implicit (rw e))

        row-found : is_clause_block (class w r) ≡ false → Found
        row-found n = by-search (class w r) n breakless-found breakable-found list-row-found labeled-found break-found if-found if_else-found

  -- ---- with calls enough
  rows-found : (f : ℕ) → Searched f
  rows-found zero r implicit l m n x = absurd (omega (arith, body.sized.some_rows r (inside r (omega arith) m).0))
  rows-found (suc zero) r implicit l m n x = absurd (omega (arith, body.sized.some_rows r (inside r (omega arith) m).0))
  rows-found (suc (suc f)) r implicit l m n x = row-found f r implicit l m x (rows-found f) (rows-found (suc f)) n

  -- in the list of a row from s on
  pub list-breaks : (f q : ℕ) → s ≤ q → q < end w s → opens (class w q) ≡ false → 2 * size w q ≤ suc (suc f)
      → found_in (suc f) (list w q) true ≡ leave (suc q) (end w q) true
  list-breaks f = list-found f (rows-found f) true

  -- in the Block of s: those that refer to s
  pub block-breaks : (f : ℕ) → is_breakable (class w s) ≡ true → 2 * size w s ≤ suc (suc (suc f))
      → found_in (suc f) (list w (suc s)) true ≡ has_own_break w p b s
  unfolding every lowest
  block-breaks f t x =
      let n = body.sized.some_rows s row in
      block-found f (rows-found f) true s (omega arith) (omega arith) (class-rule is_breakable has_block refl (class w s) t) x
      ∙ sym (has-break-below body s row t)
