-- goscript's label.rs from `labels` on, function by function. A definition stands after what it uses: so the parts of `stmt_branches` come first, then
-- `block_branches` and `stmt_branches`, whose first argument bounds the depth of calls, and `labels` last.
-- Assumes nothing.
use Rattle.std.specs.Prelude.{Bool, true, false, not, List, [], ◌∷◌, ◌++◌, ℕ, zero, suc, ◌+◌, eqb}
use Rattle.std.proofs.Math.Option.{Option, none, some}
use Rattle.rules.specs.Rows.{row_count, position, name, size, end}
use Rattle.rules.specs.Names.{same_bytes, is_blank}
use Rattle.rules.specs.Class.{Class, plain, declaration, empty, labeled, stop, break, continue, goto, fallthrough, block, case_block, comm_block, if, if_else}
use Rattle.rules.specs.Class.{case, default_case, comm, default_comm, switch, type_switch, select, for, for_cond, is_breakable, is_loop, class}
use Rattle.rules.specs.Labels.{Fault, fault, each}
use Rattle.goscript.specs.Build.{original, mended, Build}
use Rattle.goscript.specs.Syntax.{filter, through, contains, list, ident, lookup}
use Rattle.goscript.specs.Block.{Block, new as new_block, insert as insert_label, goto_target, enclosing_target}
use Rattle.goscript.specs.Context.{Context, new as new_context, record_var_decl, jumps_over_var_decl, with_jumps, with_lstmt}
use Rattle.goscript.specs.Checker.{Checker, new as new_checker, error, label_set_used, record_use, record_def, insert, bound}

-- what `stmt_branches` changes: the checker, the labels of the block that it is in, and the context
pub record State : Type 0 where
  pub checker : Checker
  pub blocks : List Block
  pub ctx : Context

-- what `block_branches` changes and returns: the checker, and the outgoing forward jumps
pub record Outgoing : Type 0 where
  pub checker : Checker
  pub fwd_jumps : List ℕ

-- ---- one part of the state changed
abbrev pub in_checker : (Checker → Checker) → State → State
in_checker f s = record { checker = f s.checker; blocks = s.blocks; ctx = s.ctx }

abbrev pub in_ctx : (Context → Context) → State → State
in_ctx f s = record { checker = s.checker; blocks = s.blocks; ctx = f s.ctx }

-- unresolved forward jumps inside a nested block become forward jumps in the current block
abbrev pub append : State → Outgoing → State
append s o = record { checker = o.checker; blocks = s.blocks; ctx = with_jumps (s.ctx.fwd_jumps ++ o.fwd_jumps) s.ctx }

-- A: after a labelled statement `ctx.lstmt` stays, or is put back
abbrev pub after_labeled : Build → Option ℕ → State → State
after_labeled build lstmt s = elim build.A [ original ↦ s | mended ↦ in_ctx (with_lstmt lstmt) s ]

-- `ctx.var_decl_pos.unwrap()`
abbrev pub var_decl : Option ℕ → ℕ
var_decl o = elim o [ none ↦ 0 | some q ↦ q ]

-- what the list's walk leaves to the outer one
abbrev pub outgoing : State → Outgoing
outgoing s = record { checker = s.checker; fwd_jumps = s.ctx.fwd_jumps }

-- the statement of the label t is of a kind that the branch needs
abbrev pub valid : List ℕ → (Class → Bool) → Option ℕ → Bool
valid w kinds target = elim target [ none ↦ false | some t ↦ kinds (class w (suc t)) ]

-- `if let Some(label) = bs.label`
abbrev pub labelled : List ℕ → ℕ → State → State → State
labelled w s with-label without = elim (eqb (name w s) 0) [ true ↦ without | false ↦ with-label ]

module _ (w p b : List ℕ) where
  -- ---- the parts of `stmt_branches`

  -- Labeled: a new label object, or an error at both if there is one of its name
  unfoldable pub declare : ℕ → State → State
  declare s state = elim (lookup w p b (ident w p b s) state.checker.all) [
    | some alt ↦ in_checker (error (fault w 1 s ∷ fault w 2 alt ∷ [])) state
    | none ↦ record { checker = record_def s (insert w p b s state.checker); blocks = insert_label s state.blocks; ctx = state.ctx }
  ]

  -- the jump x, of the name of the label s, is resolved
  unfoldable pub resolve : ℕ → Context → ℕ → Checker → Checker
  resolve s ctx x c = elim (same_bytes (ident w p b x) (ident w p b s)) [
    | false ↦ c
    | true ↦ elim (jumps_over_var_decl ctx x) [
      | false ↦ record_use x s (label_set_used s c)
      | true ↦ error (record { code = 3; position = position w x; name = name w x; other = var_decl ctx.var_decl_pos } ∷ [])
          (record_use x s (label_set_used s c))
    ]
  ]

  -- resolve matching forward jumps and remove them from fwd_jumps; the label becomes the current one
  unfoldable pub resolve_all : ℕ → State → State
  resolve_all s state = record {
    checker = through (resolve s state.ctx) state.ctx.fwd_jumps state.checker;
    blocks = state.blocks;
    ctx = with_lstmt (some s) (with_jumps (filter (λ x. not (same_bytes (ident w p b x) (ident w p b s))) state.ctx.fwd_jumps) state.ctx);
  }

  -- record label use
  unfoldable pub record_label_use : ℕ → State → State
  record_label_use s state = elim (lookup w p b (ident w p b s) state.checker.all) [
    | none ↦ state  -- `unwrap`: there is one
    | some lobj ↦ in_checker (λ c. record_use s lobj (label_set_used lobj c)) state
  ]

  -- a break or continue, which needs a target of these kinds, or the error of this code
  unfoldable pub labelled_break : (Class → Bool) → ℕ → ℕ → State → State
  labelled_break kinds code s state = elim (valid w kinds (enclosing_target w p b (ident w p b s) state.blocks)) [
    | false ↦ in_checker (error (fault w code s ∷ [])) state
    | true ↦ record_label_use s state
  ]

  -- a goto: without a label before it, one more forward jump
  unfoldable pub goto_branch : ℕ → State → State
  goto_branch s state = elim (goto_target w p b (ident w p b s) state.blocks) [
    | none ↦ in_ctx (with_jumps (state.ctx.fwd_jumps ++ s ∷ [])) state
    | some t ↦ record_label_use s state
  ]

  -- ---- the parts of `labels`

  -- a forward jump that is left: into a block, which avoids another error, or not declared
  unfoldable pub left_jump : ℕ → Checker → Checker
  left_jump jump c = elim (lookup w p b (ident w p b jump) c.all) [
    | some alt ↦ error (fault w 7 jump ∷ []) (label_set_used alt c)
    | none ↦ error (fault w 8 jump ∷ []) c
  ]

  -- declared but not used
  unfoldable pub unused_label : ℕ → Checker → Checker
  unused_label o c = elim (contains o c.used) [ true ↦ c | false ↦ error (fault w 9 o ∷ []) c ]

module _ (build : Build) (w p b : List ℕ) where
  unfoldable mutual
    -- `block_branches`: a new block and a new context for the list
    pub block_branches : ℕ → List Block → Option ℕ → List ℕ → Checker → Outgoing
    block_branches zero parent lstmt l checker = record { checker = checker; fwd_jumps = [] }
    block_branches (suc f) parent lstmt l checker = outgoing (through (λ s state. stmt_branches f s state) l
        (record { checker = checker; blocks = new_block lstmt ∷ parent; ctx = new_context lstmt }))

    -- `stmt_branches`
    pub stmt_branches : ℕ → ℕ → State → State
    stmt_branches zero s state = state
    stmt_branches (suc f) s state = elim (class w s) [
      | declaration ↦ in_ctx (record_var_decl (position w s)) state
      | labeled ↦ after_labeled build state.ctx.lstmt
          (stmt_branches f (suc s) (elim (is_blank p b (name w s)) [ true ↦ state | false ↦ resolve_all w p b s (declare w p b s state) ]))
      | break ↦ labelled w s (labelled_break w p b is_breakable 4 s state) state
      | continue ↦ labelled w s (labelled_break w p b is_loop 5 s state) state
      | goto ↦ labelled w s (goto_branch w p b s state) state
      | fallthrough ↦ labelled w s (in_checker (error (fault w 6 s ∷ [])) state) state
      | block ↦ append state (block_branches f state.blocks state.ctx.lstmt (list w s) state.checker)
      | case_block ↦ append state (block_branches f state.blocks state.ctx.lstmt (list w s) state.checker)
      | comm_block ↦ append state (block_branches f state.blocks state.ctx.lstmt (list w s) state.checker)
      | if ↦ stmt_branches f (suc s) state
      | if_else ↦ stmt_branches f (end w (suc s)) (stmt_branches f (suc s) state)
      | case ↦ append state (block_branches f state.blocks none (list w s) state.checker)
      | default_case ↦ append state (block_branches f state.blocks none (list w s) state.checker)
      | comm ↦ append state (block_branches f state.blocks none (list w s) state.checker)
      | default_comm ↦ append state (block_branches f state.blocks none (list w s) state.checker)
      | switch ↦ stmt_branches f (suc s) state
      | type_switch ↦ stmt_branches f (suc s) state
      | select ↦ stmt_branches f (suc s) state
      | for ↦ stmt_branches f (suc s) state
      | for_cond ↦ stmt_branches f (suc s) state
      | plain ↦ state
      | empty ↦ state
      | stop ↦ state
    ]

  -- `labels`; a level takes a call for the statement and one for its list, so twice the rows are enough
  unfoldable pub labels : Checker
  labels =
      let o = block_branches (size w 0 + size w 0) [] none (list w 0) new_checker in
      let c = through (left_jump w p b) o.fwd_jumps o.checker in
      through (unused_label w p b) c.all c

  -- ---- as the label call gives them

  unfoldable pub sheet : List Fault
  sheet = labels.errors

  unfoldable pub bindings : List ℕ
  bindings = each (λ r. bound labels r ∷ []) (row_count w)
