-- What the tables of the walk hold at a row: its canonical number, its declared label, its list. A Labeled row and a goto are statements, so that their
-- word is their list.
-- Assumes nothing.
use mathlib.Core.Path.{◌≡◌, sym, ◌∙◌, ap}
use mathlib.Core.Bool.{true}
use mathlib.Core.List.{List}
use Prim.Native.Nat.{ℕ, ◌≤◌, ◌<◌}
use native.Mathlib.Omega.{arith}
use lib.ListN.{length, get_or}
use Rattle.rules.specs.Rows.{row_count, name}
use Rattle.rules.specs.Class.{is_statement, class}
use Rattle.rules.specs.Scope.{holds_items, innermost, list_of}
use Rattle.rules.specs.Labels.{word, declared}
use Rattle.rules.proofs.Test.{case-found}
use Rattle.rules.proofs.RowNames.{name-within}
use Rattle.rules.proofs.Around.{innermost-found}
use Rattle.rules.proofs.Lists.{statement-list}
use Rattle.tables.specs.Canon.{row_canon, Tables}
use Rattle.tables.proofs.Labelling.{row-canon-within, declared-canon}

module _ {w p b cs ds ls : List ℕ} {x : ℕ} (t : Tables w p b cs ds ls x) where
  pub canon-place : (r : ℕ) → r < row_count w → name w r < length cs
  canon-place r h = omega (arith, t.by_name.room, name-within t.body r h)

  pub canon-read : (r c : ℕ) → r < row_count w → c ≡ get_or cs (name w r) 0 → c ≡ row_canon w p b r
  canon-read r c h e = e ∙ t.by_name.at_name (name w r) (name-within t.body r h)

  pub declared-place : (r c : ℕ) → r < row_count w → c ≡ get_or cs (name w r) 0 → c < length ds
  declared-place r c h e = omega (arith, t.by_canon.room, row-canon-within w p b r, canon-read r c h e)

  pub declared-read : (r c d : ℕ) → r < row_count w → c ≡ get_or cs (name w r) 0 → (c ≡ 0 → ⊥) → d ≡ get_or ds c 0 → d ≡ word (declared w p b r)
  declared-read r c d h e z f =
      let i = canon-read r c h e in
      let y : 0 < row_canon w p b r = omega arith in
      f ∙ ap (λ (n : ℕ). get_or ds n 0) i ∙ t.by_canon.at_canon (row_canon w p b r) y (row-canon-within w p b r)
      ∙ ap word (declared-canon t.body r h y)

  -- the list of a statement
  pub list_read : (r : ℕ) → r < x → r < row_count w → is_statement (class w r) ≡ true → get_or ls r 0 ≡ word (list_of w r)
  list_read r l h s = t.listed r l ∙ ap word (sym (statement-list t.body r h s))

  -- a row that holds items stands before what it holds
  pub list-before : (r : ℕ) → r < x → get_or ls r 0 ≤ r
  list-before r h = case-found (innermost w holds_items r)
      (λ k e. let f = t.listed r h ∙ ap word e in omega (arith, (innermost-found w holds_items r k e).before))
      (λ e. let f = t.listed r h ∙ ap word e in omega arith)
