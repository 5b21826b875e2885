-- A label other than `_`: what it leaves of the walk's state before its statement is walked. `declare` puts the first label of its name into the block and a
-- repeated one nowhere, which is what a goto further on sees; it changes no labelled statement and no context. The label is then the current one.
-- Assumes nothing.
use mathlib.Core.Path.{◌≡◌, refl}
use mathlib.Core.Bool.{true}
use mathlib.Core.List.{List}
use mathlib.Core.Option.{some}
use Prim.Native.Nat.{ℕ, suc, ◌<◌}
use native.Mathlib.Omega.{arith}
use Rattle.rules.specs.Rows.{row_count}
use Rattle.rules.specs.Body.{Body}
use Rattle.rules.specs.Scope.{list_of}
use Rattle.rules.specs.Labels.{is_label, declared}
use Rattle.goscript.specs.Block.{insert, enclosing_target}
use Rattle.goscript.specs.Label.{State, declare, resolve_all}
use Rattle.goscript.proofs.Walking.{BlocksAt, At}
use Rattle.goscript.proofs.ScopeRows.{found_before, none_yet}
use Rattle.goscript.proofs.CheckerLabel.{declare-ctx, by_first, label-checker}
use Rattle.goscript.proofs.ContextRows.{context-label}
use Rattle.goscript.proofs.BlockRows.{insert-targets, blocks-same, blocks-declare}

-- the state before the statement of the label x
abbrev pub entered : List ℕ → List ℕ → List ℕ → ℕ → State → State
entered w p b x s = resolve_all w p b x (declare w p b x s)

module _ {w p b : List ℕ} (body : Body w p b) (l x : ℕ) (row : x < row_count w) (s : State)
    (is-label : is_label w p b x ≡ true) (listed : list_of w x ≡ some l) (a : At w p b l x s) where
  -- ---- `declare` puts the first label of its name into the block, and no other
  first-blocks : declared w p b x ≡ some x → (declare w p b x s).blocks ≡ insert x s.blocks
  unfolding declare
  first-blocks e = rw (none_yet body x x x s.checker a.checker e (omega arith), declare)

  repeated-blocks : (d : ℕ) → declared w p b x ≡ some d → d < x → (declare w p b x s).blocks ≡ s.blocks
  unfolding declare
  repeated-blocks d e h = rw (found_before body x x d s.checker a.checker e h, declare)

  blocks-entered : BlocksAt w p b l (suc x) (declare w p b x s).blocks
  blocks-entered = by_first body x row is-label
      (λ e. rw (first-blocks e) (blocks-declare body l x s.blocks e listed a.blocks))
      (λ d e h. rw (repeated-blocks d e h) (blocks-same body l x s.blocks (λ t f. let i : d ≡ x = cc in omega arith) a.blocks))

  pub entered-targets : (n : List ℕ) → enclosing_target w p b n (entered w p b x s).blocks ≡ enclosing_target w p b n s.blocks
  unfolding resolve_all
  entered-targets n = by_first body x row is-label
      (λ e. rw (first-blocks e) (insert-targets w p b n x s.blocks))
      (λ d e h. rw (repeated-blocks d e h))

  pub entered-state : At w p b l (suc x) (entered w p b x s)
  unfolding resolve_all
  entered-state = record {
    checker = label-checker body l x s row is-label listed a.checker a.ctx;
    ctx = rw (declare-ctx w p b x s) (context-label body l x s.ctx row is-label listed a.ctx);
    blocks = blocks-entered;
  }

  pub entered-current : (entered w p b x s).ctx.lstmt ≡ some x
  unfolding resolve_all
  entered-current = refl
