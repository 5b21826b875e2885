-- The state of goscript's walk when it stands at row x in the list of row l, as functions of x: each part of the state is told by what it answers, so that
-- a row that changes nothing there changes nothing here.
-- Assumes nothing.
use mathlib.Core.Path.{◌≡◌}
use mathlib.Core.Bool.{Bool, true, false, ◌&&◌}
use mathlib.Core.List.{List, [], ◌∷◌}
use mathlib.Core.Option.{Option, none, some}
use Prim.Native.Nat.{ℕ, suc, ◌≤◌, ◌<◌}
use lib.Dec.{ltb}
use Rattle.rules.specs.Scan.{highest}
use Rattle.rules.specs.Rows.{position, end}
use Rattle.rules.specs.Class.{is_branch, class}
use Rattle.rules.specs.Names.{count_of_pairs}
use Rattle.rules.specs.Scope.{around, in_list_of}
use Rattle.rules.specs.Labels.{each, only, is, is_label, labels, declared, declared_at, pending, last_in_run, labelled_break}
use Rattle.walk_state.specs.Walk.{faults_at, binding_at, latest_in}
use Rattle.goscript.specs.Syntax.{contains, ident}
use Rattle.goscript.specs.Block.{Block, new as new_block, goto_target, enclosing_target}
use Rattle.goscript.specs.Context.{Context, jumps_over_var_decl}
use Rattle.goscript.specs.Checker.{Checker, used_by}
use Rattle.goscript.specs.Label.{State, var_decl}

-- a row where it stands before row x
abbrev pub before : ℕ → Option ℕ → Option ℕ
before x o = elim o [ none ↦ none | some d ↦ elim (ltb d x) [ true ↦ some d | false ↦ none ] ]

module _ (w p b : List ℕ) where
  -- ---- the checker

  -- the declared labels before row x, by name
  unfoldable pub all_at : ℕ → List ℕ
  all_at x = each (λ i. elim (declared_at w p b (suc i)) [ none ↦ [] | some d ↦ only (ltb d x) d ]) (count_of_pairs p)

  -- the label that the branch g before row x is bound to, as a binding word
  unfoldable pub use_at : ℕ → ℕ → ℕ
  use_at x g = elim (ltb g x && is_branch (class w g)) [ true ↦ binding_at w p b x g | false ↦ 0 ]

  pub record CheckerAt (x : ℕ) (c : Checker) : Type 0 where
    pub all_are : c.all ≡ all_at x
    pub errors-are : c.errors ≡ faults_at w p b x
    pub defs-are : (r : ℕ) → contains r c.defs ≡ (ltb r x && (is_label w p b r && is (declared w p b r) r))
    pub uses-are : (g : ℕ) → used_by c.uses g ≡ use_at x g
    -- an object is used exactly when some branch is bound to it
    pub used-by : (d : ℕ) → contains d c.used ≡ true → (g : ℕ) × (use_at x g ≡ suc d)
    pub is-used : (d g : ℕ) → use_at x g ≡ suc d → contains d c.used ≡ true

  -- ---- the context

  -- the gotos of the list l, or of lists in it, that are pending at x
  unfoldable pub jumps_at : ℕ → ℕ → List ℕ
  jumps_at l x = each (λ g. only (ltb l g && pending w p b x g) g) x

  -- the row g stands before the row
  abbrev pub stands-before : ℕ → Option ℕ → Bool
  stands-before g o = elim o [ none ↦ false | some d ↦ ltb g d ]

  pub record ContextAt (l x : ℕ) (ctx : Context) : Type 0 where
    pub jumps-are : ctx.fwd_jumps ≡ jumps_at l x
    -- a goto that is pending jumps over a declaration of the list exactly when it stands before the latest
    pub over-is : (g : ℕ) → l < g → (g < x → pending w p b x g ≡ true) → jumps_over_var_decl ctx g ≡ stands-before g (latest_in w p b l x)
    pub position-is : (d : ℕ) → latest_in w p b l x ≡ some d → var_decl ctx.var_decl_pos ≡ position w d

  -- ---- the blocks

  -- the declared label of g's name, where it stands before row x in a list around g
  unfoldable pub visible : ℕ → ℕ → Option ℕ
  visible x g = elim (declared w p b g) [ none ↦ none | some d ↦ elim (ltb d x && in_list_of w d g) [ true ↦ some d | false ↦ none ] ]

  -- the innermost labelled statement of g's name around g that begins before row x, last in its run
  unfoldable pub target_before : ℕ → ℕ → Option ℕ
  target_before x g = highest (λ t. around w g t && (labels w p b g t && last_in_run w p b t)) x

  pub record BlocksAt (l x : ℕ) (blocks : List Block) : Type 0 where
    pub innermost : Block
    pub parents : List Block
    pub some-blocks : blocks ≡ innermost ∷ parents
    pub gotos : (g : ℕ) → l < g → x ≤ g → g < end w l → goto_target w p b (ident w p b g) blocks ≡ visible x g
    pub targets : (g : ℕ) → l < g → g < end w l → labelled_break w p b g ≡ true → enclosing_target w p b (ident w p b g) blocks ≡ target_before l g

  -- ---- all of it
  pub record At (l x : ℕ) (s : State) : Type 0 where
    pub checker : CheckerAt x s.checker
    pub ctx : ContextAt l x s.ctx
    pub blocks : BlocksAt l x s.blocks

  -- ---- the current label

  -- it adds nothing to what a break from row x on in the list l finds
  abbrev pub AddsNothing : ℕ → ℕ → List Block → Option ℕ → Type 0
  AddsNothing l x blocks lstmt = (g : ℕ) → x ≤ g → g < end w l → labelled_break w p b g ≡ true
      → enclosing_target w p b (ident w p b g) (new_block lstmt ∷ blocks) ≡ enclosing_target w p b (ident w p b g) blocks

  -- with it a break inside row x finds its target
  abbrev pub Finds : ℕ → List Block → Option ℕ → Type 0
  Finds x blocks lstmt = (g : ℕ) → x < g → g < end w x → labelled_break w p b g ≡ true
      → enclosing_target w p b (ident w p b g) (new_block lstmt ∷ blocks) ≡ target_before x g
