-- A body in which no row has a name has no label, no goto and no labelled branch: its sheet is empty and each binding is 0.
-- Assumes nothing.
use mathlib.Core.Path.{◌≡◌}
use mathlib.Core.Bool.{false}
use mathlib.Core.List.{List, []}
use Prim.Native.Nat.{ℕ, suc, ◌<◌}
use native.Mathlib.Omega.{arith}
use Rattle.rules.specs.Rows.{row_count}
use Rattle.rules.specs.Names.{count_of_pairs}
use Rattle.rules.specs.Class.{goto, class}
use Rattle.rules.specs.Body.{Body}
use Rattle.rules.specs.Labels.{is_label, labelled_break, binding, sheet}
use Rattle.rules.proofs.RowNames.{labeled-named, goto-named, name-within}
use Rattle.rules.proofs.LabelRows.{other-label}
use Rattle.rules.proofs.BreakRows.{not-labelled}
use Rattle.rules.proofs.BindingRows.{binding-other}
use Rattle.rules.proofs.SheetRows.{report-other, unresolved-not, unused-none, none-declared-at, none-sheet}
use Rattle.walk_state.proofs.WalkPending.{pending-other}
use Rattle.label.specs.Cleared.{NoName}

-- without names in the table no row has one
pub no_pairs : {w p b : List ℕ} → Body w p b → count_of_pairs p ≡ 0 → NoName w
no_pairs body z r h = omega (arith, name-within body r h)

module _ {w p b : List ℕ} (body : Body w p b) (n : NoName w) where
  no_label : (r : ℕ) → r < row_count w → is_label w p b r ≡ false
  no_label r h = other-label w p b r (λ e. omega (arith, labeled-named body r h e, n r h))

  no-goto : (r : ℕ) → r < row_count w → class w r ≡ goto → ⊥
  no-goto r h e = omega (arith, goto-named body r h e, n r h)

  no-break : (r : ℕ) → r < row_count w → labelled_break w p b r ≡ false
  no-break r h = not-labelled w p b r (λ x. omega (arith, x.has-name, n r h))

  inside : (r : ℕ) → r < row_count w → r < row_count w
  inside r h = omega arith

  pub nameless-sheet : sheet w p b ≡ []
  nameless-sheet = none-sheet w p b (record {
    rows = λ r h.
        let l = inside r h in report-other w p b r (no_label r l) (no-break r l) (λ x. omega (arith, x.has-name, n r l));
    gotos = λ g h. unresolved-not w p b g (pending-other w p b (row_count w) g (no-goto g (inside g h)));
    names = λ i h. unused-none w p b (suc i) (none-declared-at w p b (suc i) (λ r l. rw (no_label r (inside r l))));
  })

  pub nameless-binding : (r : ℕ) → r < row_count w → binding w p b r ≡ 0
  nameless-binding r h = binding-other w p b r (no_label r h) (no-goto r h) (no-break r h)
