-- What `stmt_branches` does at a row, by the arm of its match that the row's class takes: there the definition computes. Nobody else opens it.
-- Assumes nothing.
use mathlib.Core.Path.{◌≡◌, refl}
use mathlib.Core.Bool.{Bool, true, false}
use mathlib.Core.List.{List, [], ◌∷◌, ◌++◌}
use mathlib.Core.Option.{Option, none, some}
use Prim.Native.Nat.{ℕ, suc}
use borrow.Author.Tests.{eq-eqb, ne_eqb}
use Rattle.rules.specs.Rows.{position, name, end}
use Rattle.rules.specs.Names.{is_blank}
use Rattle.rules.specs.Class.{Class, plain, declaration, empty, labeled, stop, break, continue, goto, fallthrough, block, case_block, comm_block, if, if_else}
use Rattle.rules.specs.Class.{case, default_case, comm, default_comm, switch, type_switch, select, for, for_cond, one_of, is_breakable, is_loop, class}
use Rattle.rules.specs.Scope.{is_block}
use Rattle.rules.specs.Labels.{fault}
use Rattle.rules.proofs.ClassRules.{by_one}
use Rattle.goscript.specs.Build.{original, mended, Build}
use Rattle.goscript.specs.Syntax.{through, list, ident}
use Rattle.goscript.specs.Block.{Block, new as new_block, goto_target, enclosing_target}
use Rattle.goscript.specs.Context.{new as new_context, record_var_decl, with_jumps, with_lstmt}
use Rattle.goscript.specs.Checker.{Checker, error}
use Rattle.goscript.specs.Label.{State, in_checker, in_ctx, append, outgoing, after_labeled, declare, resolve_all, valid, record_label_use, labelled_break}
use Rattle.goscript.specs.Label.{goto_branch, labelled, block_branches, stmt_branches}
use Rattle.goscript.proofs.OneBlock.{has_block}

-- rows that change nothing; clauses
abbrev pub is_quiet : Class → Bool
is_quiet = one_of (plain ∷ empty ∷ stop ∷ [])

abbrev pub is_clause : Class → Bool
is_clause = one_of (case ∷ default_case ∷ comm ∷ default_comm ∷ [])

-- the arm that a class takes
pub data Arm (c : Class) : Type 0 where
  quiet : is_quiet c ≡ true → Arm c
  declares : c ≡ declaration → Arm c
  labels : c ≡ labeled → Arm c
  breaks : c ≡ break → Arm c
  continues : c ≡ continue → Arm c
  goes : c ≡ goto → Arm c
  falls : c ≡ fallthrough → Arm c
  nests : is_block c ≡ true → Arm c
  clauses : is_clause c ≡ true → Arm c
  one-part : has_block c ≡ true → Arm c
  two_parts : c ≡ if_else → Arm c

pub arm : (c : Class) → Arm c
arm plain = quiet refl
arm empty = quiet refl
arm stop = quiet refl
arm declaration = declares refl
arm labeled = labels refl
arm break = breaks refl
arm continue = continues refl
arm goto = goes refl
arm fallthrough = falls refl
arm block = nests refl
arm case_block = nests refl
arm comm_block = nests refl
arm case = clauses refl
arm default_case = clauses refl
arm comm = clauses refl
arm default_comm = clauses refl
arm if = one-part refl
arm switch = one-part refl
arm type_switch = one-part refl
arm select = one-part refl
arm for = one-part refl
arm for_cond = one-part refl
arm if_else = two_parts refl

-- ---- A: after a labelled statement the current label stays or, mended, the one before it is put back
module _ (build : Build) (lstmt : Option ℕ) (s : State) where
  pub stays : build.A ≡ original → after_labeled build lstmt s ≡ s
  stays q = rw (q, after_labeled)

  pub put_back : build.A ≡ mended → after_labeled build lstmt s ≡ in_ctx (with_lstmt lstmt) s
  put_back q = rw (q, after_labeled)

-- ---- branches
module _ (w p b : List ℕ) (s : ℕ) (state : State) where
  pub has-label : (labeled-state : State) → (name w s ≡ 0 → ⊥) → labelled w s labeled-state state ≡ labeled-state
  has-label labeled-state n = rw (ne_eqb (name w s) 0 n, labelled)

  pub has-none : (labeled-state : State) → name w s ≡ 0 → labelled w s labeled-state state ≡ state
  has-none labeled-state z = rw (eq-eqb (name w s) 0 z, labelled)

  pub break-used : (kinds : Class → Bool) (code : ℕ) → valid w kinds (enclosing_target w p b (ident w p b s) state.blocks) ≡ true
      → labelled_break w p b kinds code s state ≡ record_label_use w p b s state
  unfolding labelled_break
  break-used kinds code t = rw (t, labelled_break)

  pub break-reported : (kinds : Class → Bool) (code : ℕ) → valid w kinds (enclosing_target w p b (ident w p b s) state.blocks) ≡ false
      → labelled_break w p b kinds code s state ≡ in_checker (error (fault w code s ∷ [])) state
  unfolding labelled_break
  break-reported kinds code t = rw (t, labelled_break)

  pub goto-used : (t : ℕ) → goto_target w p b (ident w p b s) state.blocks ≡ some t → goto_branch w p b s state ≡ record_label_use w p b s state
  unfolding goto_branch
  goto-used t e = rw (e, goto_branch)

  pub goto-pushed : goto_target w p b (ident w p b s) state.blocks ≡ none
      → goto_branch w p b s state ≡ in_ctx (with_jumps (state.ctx.fwd_jumps ++ s ∷ [])) state
  unfolding goto_branch
  goto-pushed e = rw (e, goto_branch)

module _ (build : Build) (w p b : List ℕ) where
  -- ---- a list
  pub list-walk : (f : ℕ) (parent : List Block) (lstmt : Option ℕ) (l : List ℕ) (checker : Checker)
      → block_branches build w p b (suc f) parent lstmt l checker
      ≡ outgoing (through (λ s state. stmt_branches build w p b f s state) l
      (record { checker = checker; blocks = new_block lstmt ∷ parent; ctx = new_context lstmt }))
  unfolding block_branches
  list-walk f parent lstmt l checker = refl

  -- ---- a statement
  module _ (f s : ℕ) (state : State) where
    pub at-quiet : is_quiet (class w s) ≡ true → stmt_branches build w p b (suc f) s state ≡ state
    unfolding stmt_branches
    at-quiet t = by_one _ (plain ∷ empty ∷ stop ∷ []) (class w s) t (λ e. rw (e, stmt_branches)) (λ e. rw (e, stmt_branches)) (λ e. rw (e, stmt_branches))

    pub at-declaration : class w s ≡ declaration → stmt_branches build w p b (suc f) s state ≡ in_ctx (record_var_decl (position w s)) state
    unfolding stmt_branches
    at-declaration e = rw (e, stmt_branches)

    pub at-blank : class w s ≡ labeled → is_blank p b (name w s) ≡ true
        → stmt_branches build w p b (suc f) s state ≡ after_labeled build state.ctx.lstmt (stmt_branches build w p b f (suc s) state)
    unfolding stmt_branches
    at-blank e t = rw (e, t, stmt_branches)

    pub at_label : class w s ≡ labeled → is_blank p b (name w s) ≡ false
        → stmt_branches build w p b (suc f) s state
        ≡ after_labeled build state.ctx.lstmt (stmt_branches build w p b f (suc s) (resolve_all w p b s (declare w p b s state)))
    unfolding stmt_branches
    at_label e t = rw (e, t, stmt_branches)

    pub at-break : class w s ≡ break → stmt_branches build w p b (suc f) s state ≡ labelled w s (labelled_break w p b is_breakable 4 s state) state
    unfolding stmt_branches
    at-break e = rw (e, stmt_branches)

    pub at-continue : class w s ≡ continue → stmt_branches build w p b (suc f) s state ≡ labelled w s (labelled_break w p b is_loop 5 s state) state
    unfolding stmt_branches
    at-continue e = rw (e, stmt_branches)

    pub at-goto : class w s ≡ goto → stmt_branches build w p b (suc f) s state ≡ labelled w s (goto_branch w p b s state) state
    unfolding stmt_branches
    at-goto e = rw (e, stmt_branches)

    pub at-fallthrough : class w s ≡ fallthrough
        → stmt_branches build w p b (suc f) s state ≡ labelled w s (in_checker (error (fault w 6 s ∷ [])) state) state
    unfolding stmt_branches
    at-fallthrough e = rw (e, stmt_branches)

    pub at_block : is_block (class w s) ≡ true
        → stmt_branches build w p b (suc f) s state ≡ append state
        (block_branches build w p b f state.blocks state.ctx.lstmt (list w s) state.checker)
    unfolding stmt_branches
    at_block t =
        by_one _ (block ∷ case_block ∷ comm_block ∷ []) (class w s) t (λ e. rw (e, stmt_branches)) (λ e. rw (e, stmt_branches)) (λ e. rw (e, stmt_branches))

    pub at-clause : is_clause (class w s) ≡ true
        → stmt_branches build w p b (suc f) s state ≡ append state (block_branches build w p b f state.blocks none (list w s) state.checker)
    unfolding stmt_branches
    at-clause t = by_one _ (case ∷ default_case ∷ comm ∷ default_comm ∷ []) (class w s) t
        (λ e. rw (e, stmt_branches)) (λ e. rw (e, stmt_branches)) (λ e. rw (e, stmt_branches)) (λ e. rw (e, stmt_branches))

    pub at_body : has_block (class w s) ≡ true → stmt_branches build w p b (suc f) s state ≡ stmt_branches build w p b f (suc s) state
    unfolding stmt_branches
    at_body t = by_one _ (if ∷ switch ∷ type_switch ∷ select ∷ for ∷ for_cond ∷ []) (class w s) t
        (λ e. rw (e, stmt_branches)) (λ e. rw (e, stmt_branches)) (λ e. rw (e, stmt_branches))
        (λ e. rw (e, stmt_branches)) (λ e. rw (e, stmt_branches)) (λ e. rw (e, stmt_branches))

    pub at-else : class w s ≡ if_else
        → stmt_branches build w p b (suc f) s state ≡ stmt_branches build w p b f (end w (suc s)) (stmt_branches build w p b f (suc s) state)
    unfolding stmt_branches
    at-else e = rw (e, stmt_branches)
