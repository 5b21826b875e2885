-- One row of the walk by its kind: the contexts of the lists, the list in hand and the state after it. A label and every other row but a branch have their
-- own code for the contexts; a branch leaves them. A label and a branch hold no items, so the list in hand stays.
-- Assumes nothing.
use mathlib.Core.Path.{◌≡◌, refl}
use mathlib.Core.Bool.{true, false, ◌||◌}
use mathlib.Core.List.{List}
use Prim.Native.Nat.{ℕ, suc, ◌+◌, ◌<◌}
use lib.Dec.{eqb}
use Rattle.rules.specs.Rows.{row_count, kind}
use Rattle.rules.specs.Class.{labeled, is_branch, class}
use Rattle.rules.specs.Scope.{is_block}
use Rattle.rules.specs.Labels.{is_class}
use Rattle.rules.proofs.Test.{case-of, clash}
use Rattle.lists.specs.Listed.{InHand, ListAround}
use Rattle.lists.proofs.Opened.{passes_on}
use Rattle.context.specs.declared.Context.{Context}
use Rattle.tables.specs.Canon.{Tables}
use Rattle.walk_state.specs.Walk.{Walking, Walked}
use Rattle.label_walk.specs.Contexts.{Contexts, BlockLabelled}
use Rattle.label_walk.proofs.RowWords.{unlabelled, is-labeled, no-labeled, is-branch, no-branch, no_items, no-declaration}
use Rattle.label_walk.proofs.ContextRows.{contexts-kept}
use Rattle.label_walk.proofs.WalkSteps.{passed, linked}

-- what the code for a row requires
abbrev pub AtRow : (w p b cs ds ls sheet bindings heads links : List ℕ) (contexts : List (Context ℕ)) (x faults list end : ℕ) → Type 0
AtRow w p b cs ds ls sheet bindings heads links contexts x faults list end = record {
  tables : Tables w p b cs ds ls (suc x);
  walking : Walking w p b x faults sheet bindings heads links;
  contexts_before : Contexts w p b x contexts;
  row_bound : (x < row_count w) × ListAround w list end x;
}

module _ {w p b cs ds ls sheet bindings heads links : List ℕ} {contexts : List (Context ℕ)} {x faults list end : ℕ}
    (q : AtRow w p b cs ds ls sheet bindings heads links contexts x faults list end) where
  -- ---- a label or a branch, of kind k
  pub list-passes : {k : ℕ} → kind w x ≡ k → (eqb k 12 || (eqb k 14 || eqb k 17)) ≡ false → InHand w list end (x + 1)
  list-passes i f = passes_on w list end x (no_items q.tables.body q.row_bound.0 i f) q.row_bound.1

  pub label-row : kind w x ≡ 3 → (x < row_count w) × (class w x ≡ labeled)
  label-row i = (q.row_bound.0, is-labeled q.tables.body q.row_bound.0 i)

  pub branch-row : kind w x ≡ 11 → (x < row_count w) × (is_branch (class w x) ≡ true)
  branch-row i = (q.row_bound.0, is-branch q.tables.body q.row_bound.0 i)

  pub branch-contexts : kind w x ≡ 11 → Contexts w p b (suc x) contexts
  branch-contexts i = contexts-kept q.contexts_before (no-declaration q.tables.body q.row_bound.0 i refl)
      (unlabelled w p b x (no-labeled q.tables.body q.row_bound.0 (λ j. clash (cc))))

  -- ---- the others
  module _ (n : kind w x ≡ 3 → ⊥) where
    pub plain-row : is_class w labeled x ≡ false
    plain-row = no-labeled q.tables.body q.row_bound.0 n

    pub plain-walked : {links' : List ℕ} → (kind w x ≡ 11 → ⊥) → BlockLabelled w p b x links links'
        → Walked w p b (suc x) faults sheet bindings sheet bindings heads links'
    plain-walked o g =
        let h = q.row_bound.0 in
        let no-label-here = unlabelled w p b x plain-row in
        let no-branch-here = no-branch q.tables.body h o in
        case-of (is_block (class w x))
        (λ y. linked h q.walking no-label-here no-branch-here (g.at_block y))
        (λ z. rw (g.elsewhere z) (passed h q.walking no-label-here no-branch-here z))
