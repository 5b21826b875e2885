-- What a list inside a list does to the outer context: a statement below a row that holds items has its list there, so a label there resolves no goto
-- before that row, and a declaration there is none of the outer list. So what waits there at its end joins what waited before it.
-- Assumes nothing.
use mathlib.Core.Path.{◌≡◌, refl, sym, ◌∙◌, ap}
use mathlib.Core.Bool.{true, false}
use mathlib.Core.List.{List, ◌++◌}
use mathlib.Core.Option.{some}
use Prim.Native.Nat.{ℕ, ◌≤◌, ◌<◌}
use native.Mathlib.Omega.{arith}
use native.Mathlib.Decide.{dec_lt, ℕ_discrete}
use borrow.Author.Tests.{lt-ltb, le-ltb}
use Rattle.rules.specs.Rows.{row_count, end}
use Rattle.rules.specs.Class.{Class, declaration, labeled, goto, is_statement, class}
use Rattle.rules.specs.Scope.{holds_items, list_of}
use Rattle.rules.specs.Body.{Body}
use Rattle.rules.specs.Labels.{pending}
use Rattle.rules.proofs.Test.{case-of, clash}
use Rattle.rules.proofs.Around.{innermost-last}
use Rattle.rules.proofs.Lists.{statement-list}
use Rattle.rules.proofs.LabelRows.{is-labels}
use Rattle.rules.proofs.GotoRows.{in_list, is_later, later-parts, later-none, none-later, is-pending}
use Rattle.walk_state.specs.Walk.{latest_in}
use Rattle.walk_state.proofs.WalkPending.{pending-other}
use Rattle.tables.proofs.Labelling.{label-class}
use Rattle.pending.proofs.Downward.{highest-cut}
use Rattle.goscript.specs.Context.{Context, with_jumps}
use Rattle.goscript.proofs.Passing.{passing-split}
use Rattle.goscript.proofs.Walking.{jumps_at, ContextAt}
use Rattle.goscript.proofs.ContextRows.{waits, declares, not-waits, not-declares, pending-at, pending-before, context-kept}

-- k is a row that holds items
module _ {w p b : List ℕ} (body : Body w p b) (k : ℕ) (row : k < row_count w) (items : holds_items (class w k) ≡ true) where
  -- it is itself no goto, no declaration, no label
  other-class : (c : Class) → holds_items c ≡ false → class w k ≡ c → ⊥
  other-class c f e = let t : holds_items c ≡ true = rw e at items in clash (cc)

  -- the list of a statement below it
  list-below : (r m : ℕ) → k < r → r < end w k → is_statement (class w r) ≡ true → list_of w r ≡ some m → k ≤ m
  list-below r m h l s e = elim (dec_lt m k) [
    | yes o ↦ absurd (innermost-last w holds_items r m k (sym (statement-list body r (omega (arith, body.sized.within k row)) s) ∙ e) o
        (record { before = h; reaches = l; passes = items }))
    | no o ↦ omega arith
  ]

  -- no row from it on, before its end, is a later label of a goto before it
  none-resolves : (g r : ℕ) → g < k → k ≤ r → r < end w k → is_later w p b g r ≡ false
  none-resolves g r h i j = case-of (is_later w p b g r)
      (λ t.
      let x = later-parts w p b g r t in
      let labels = label-class body r (omega (arith, body.sized.within k row)) (is-labels w p b g r x.1).0 in
      let (m, e, f, n) = in_list w r g x.2 in
      elim (ℕ_discrete r k) [
        | yes y ↦ absurd (other-class labeled refl (rw y at labels))
        | no y ↦ let z = list-below r m (omega arith) j (rw labels) e in absurd (omega arith)
      ])
      (λ f. f)

  -- so a goto before it is as pending at its end as at it
  pending-past : (g : ℕ) → g < k → pending w p b (end w k) g ≡ pending w p b k g
  pending-past g h = case-of (pending w p b k g)
      (λ t. pending-at w p b (end w k) k g (none-later w p b (end w k) g (λ r l. elim (dec_lt r k) [
        | yes y ↦ later-none w p b k g r (is-pending w p b k g t).no-later y
        | no n ↦ none-resolves g r h (omega arith) l
      ])) t ∙ sym t)
      (λ f. case-of (pending w p b (end w k) g)
      (λ t. absurd (clash (cc (pending-before w p b k (end w k) g (omega arith) t))))
      (λ u. u ∙ sym f))

  -- and the latest declaration of a list outside is the same
  latest-past : (l : ℕ) → l < k → latest_in w p b l (end w k) ≡ latest_in w p b l k
  unfolding latest_in
  latest-past l h = highest-cut (declares w p b l) (declares w p b l) k (end w k) (omega arith) (λ d i. refl)
      (λ d i j. not-declares w p b l d (λ c e. elim (ℕ_discrete d k) [
        | yes y ↦ other-class declaration refl (rw y at c)
        | no n ↦ omega (arith, list-below d l (omega arith) j (rw c) e)
      ]))

  jumps-past : (l : ℕ) → l < k → jumps_at w p b l (end w k) ≡ jumps_at w p b l k ++ jumps_at w p b k (end w k)
  unfolding jumps_at
  jumps-past l h =
      passing-split (waits w p b l (end w k)) (waits w p b l k) (waits w p b k (end w k)) k (end w k) (omega arith)
      (λ g i. rw (pending-past g i))
      (λ g i. rw (le-ltb k g (omega arith)))
      (λ g i j. elim (ℕ_discrete g k) [
        | yes y ↦
            let f : pending w p b (end w k) g ≡ false = pending-other w p b (end w k) g (λ c. other-class goto refl (rw y at c)) in
            not-waits w p b l (end w k) g f ∙ sym (not-waits w p b k (end w k) g f)
        | no n ↦ rw (lt-ltb l g (omega arith), lt-ltb k g (omega arith))
      ])

-- a list k inside the list l, from its first row to its end: what waits there joins
pub context-nested : {w p b : List ℕ} (body : Body w p b) (l k : ℕ) (ctx : Context) → l < k → k < row_count w → holds_items (class w k) ≡ true
    → ContextAt w p b l k ctx → ContextAt w p b l (end w k) (with_jumps (ctx.fwd_jumps ++ jumps_at w p b k (end w k)) ctx)
context-nested {w} {p} {b} body l k ctx h row items c =
    context-kept w p b l k (end w k) ctx (ctx.fwd_jumps ++ jumps_at w p b k (end w k)) (omega arith) (latest-past body k row items l h)
    (ap (λ (js : List ℕ). js ++ jumps_at w p b k (end w k)) c.jumps-are ∙ sym (jumps-past body k row items l h)) c
