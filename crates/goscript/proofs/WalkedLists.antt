-- A list: its items are walked one after the other, each from the state that the one before leaves, so the state at the list's end is that of the walk there.
-- An item leaves the current label as it was, or in stock that of a statement ended with it; either way it adds nothing for the items after it.
-- Assumes nothing.
use mathlib.Core.Path.{◌≡◌, ◌∙◌}
use mathlib.Core.Bool.{true}
use mathlib.Core.Logic.{◌⊎◌, inl, inr}
use mathlib.Core.List.{List, ◌∷◌}
use mathlib.Core.Option.{Option}
use Prim.Native.Nat.{ℕ, suc, ◌+◌, ◌≤◌, ◌<◌}
use native.Mathlib.Omega.{arith}
use Rattle.rules.specs.Rows.{row_count, size, end, Child}
use Rattle.rules.specs.Class.{class}
use Rattle.rules.specs.Body.{Body}
use Rattle.rules.specs.Scope.{holds_items}
use Rattle.rules.proofs.Test.{clash}
use Rattle.rules.proofs.Nesting.{item_from, ends-before}
use Rattle.goscript.specs.Build.{mended, Build}
use Rattle.goscript.specs.Syntax.{through, list}
use Rattle.goscript.specs.Block.{Block, new, enclosing_target}
use Rattle.goscript.specs.Context.{new as new_context}
use Rattle.goscript.specs.Checker.{Checker}
use Rattle.goscript.specs.Label.{State, Outgoing, block_branches, stmt_branches}
use Rattle.goscript.specs.Domains.{none_names_ended}
use Rattle.goscript.proofs.ListItems.{of-list}
use Rattle.goscript.proofs.Walking.{jumps_at, CheckerAt, BlocksAt, At, AddsNothing}
use Rattle.goscript.proofs.ContextRows.{context-new}
use Rattle.goscript.proofs.Stacked.{item-stacked}
use Rattle.goscript.proofs.CurrentLabels.{adds-own, adds-kept, adds-ended}
use Rattle.goscript.proofs.Arms.{list-walk}
use Rattle.goscript.proofs.LeafRows.{Leaves, kept, left, Walked}
use Rattle.goscript.proofs.Positions.{bare, Position, item}

-- where the sheet and the bindings are those of `rules`: A is mended, or no break names an ended label
abbrev pub Domain : Build → List ℕ → List ℕ → List ℕ → Type 0
Domain build w p b = (build.A ≡ mended) ⊎ (none_names_ended w p b ≡ true)

-- each statement that takes at most f calls is walked
abbrev pub Statements : Build → List ℕ → List ℕ → List ℕ → ℕ → Type 0
Statements build w p b f = (l x : ℕ) (s : State) → l < row_count w → x < row_count w → size w x + size w x ≤ f → Position w p b l x s → At w p b l x s
    → Walked build w p b l x s (stmt_branches build w p b f x s)

module _ {build : Build} {w p b : List ℕ} (body : Body w p b) (domain : Domain build w p b) where
  -- ---- the current label after an item
  adds-after : (l x : ℕ) (s s' : State) → l < row_count w → x < row_count w → Leaves build w p b x s s'
      → ((n : List ℕ) → enclosing_target w p b n s'.blocks ≡ enclosing_target w p b n s.blocks)
      → AddsNothing w p b l x s.blocks s.ctx.lstmt → AddsNothing w p b l (end w x) s'.blocks s'.ctx.lstmt
  adds-after l x s s' home row (kept e) same a = rw e (adds-kept w p b l x (end w x) s.blocks s'.blocks s.ctx.lstmt (omega arith) same a)
  adds-after l x s s' home row (left c o t e v h m) same a = elim domain [
    | inl d ↦ absurd (clash (cc))
    | inr d ↦ rw e (adds-ended w p b l (end w x) t s'.blocks d (body.sized.within l home) v (omega (arith, body.sized.some_rows t h)) m)
  ]

  -- ---- the items of the list l
  module _ (f l : ℕ) (home : l < row_count w) (holds : holds_items (class w l) ≡ true) (few : size w l + size w l ≤ suc (suc f))
      (statements : Statements build w p b f) where
    abbrev walk : List ℕ → State → State
    walk = through (λ x s. stmt_branches build w p b f x s)

    -- the items from c on, where the walk stands at c, are walked to the list's end
    abbrev Walks : ℕ → List ℕ → Type 0
    Walks c xs = (s : State) → At w p b l c s → AddsNothing w p b l c s.blocks s.ctx.lstmt → At w p b l (end w l) (walk xs s)

    item-walked : (c : ℕ) (xs : List ℕ) → c < end w l → Child w l c → Walks (end w c) xs → Walks c (c ∷ xs)
    unfolding through
    item-walked c xs i ch rest s a adds =
        let row : c < row_count w = omega (arith, body.sized.within l home) in
        let from = item_from ch in
        let reach = body.child_within l c home ch in
        let position = item c (record {
          stacked = item-stacked (omega arith) i (λ u h m. ends-before body.sized body.child_within (body.sized.within l home) ch u h m);
          holds = holds;
          fit = body.child_fits l c home ch;
          on-item = bare (λ k y z. absurd (omega arith)) adds;
        }) in
        let d = statements l c s home row (omega arith) position a in
        rest (stmt_branches build w p b f c s) d.state
        (adds-after l c s (stmt_branches build w p b f c s) home row d.current d.targets-kept adds)

    items-walked : Walks (suc l) (list w l)
    unfolding through
    items-walked = of-list body l home Walks (λ s a adds. a) (λ c xs closed i ch rest. item-walked c xs i ch rest)

    -- ---- the list as a whole
    pub list-walked : (lstmt : Option ℕ) (parent : List Block) (checker : Checker) (o : Outgoing)
        → o ≡ block_branches build w p b (suc f) parent lstmt (list w l) checker → CheckerAt w p b (suc l) checker
        → BlocksAt w p b l (suc l) (new lstmt ∷ parent)
        → CheckerAt w p b (end w l) o.checker × (o.fwd_jumps ≡ jumps_at w p b l (end w l))
    list-walked lstmt parent checker o e c a =
        let s : State = record { checker = checker; blocks = new lstmt ∷ parent; ctx = new_context lstmt } in
        let d = items-walked s
        (record { checker = c; ctx = context-new l lstmt; blocks = a }) (adds-own w p b l (suc l) (new lstmt) parent) in
        rw (e ∙ list-walk build w p b f parent lstmt (list w l) checker) (d.checker, d.ctx.jumps-are)
