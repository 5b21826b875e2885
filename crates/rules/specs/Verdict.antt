-- Document 01, "Verdict call": whether a body is terminating. The statement rule and the list rule call each other, downward.
-- Assumes nothing.
use Rattle.std.specs.Prelude.{Bool, true, false, ◌&&◌, ◌||◌, not, List, ℕ, zero, suc, ◌+◌, ltb, eqb}
use Rattle.rules.specs.Scan.{lowest}
use Rattle.rules.specs.Rows.{name, size, end}
use Rattle.rules.specs.Class.{plain, declaration, empty, labeled, stop, break, continue, goto, fallthrough, block, case_block, comm_block, if, if_else}
use Rattle.rules.specs.Class.{case, default_case, comm, default_comm, switch, type_switch, select, for, for_cond, is_breakable, is_default, class}
use Rattle.rules.specs.Scope.{around, innermost, only_empty}
use Rattle.rules.specs.Labels.{is_some, is, is_class, same_names}

module _ (w : List ℕ) where
  -- some item from c on, before e, is a default clause; the first argument bounds the steps
  unfoldable pub any_default : ℕ → ℕ → ℕ → Bool
  any_default zero e c = false
  any_default (suc f) e c = elim (ltb c e) [ true ↦ is_default (class w c) || any_default f e (end w c) | false ↦ false ]

  -- the switch r has a default
  unfoldable pub has_default : ℕ → Bool
  has_default r = any_default (size w r) (end w r) (suc (suc r))

module _ (w p b : List ℕ) where
  -- ---- what a break refers to

  -- the label directly on s, `_` too, has the name that row g carries
  unfoldable pub label_on : ℕ → ℕ → Bool
  label_on g s = elim s [ zero ↦ false | suc t ↦ is_class w labeled t && same_names w p b t g ]

  -- the break g, inside s, refers to s: unlabelled with s the innermost of kinds 15, 16, 18, 19, 20 around it, or naming the label directly on s
  unfoldable pub refers_to : ℕ → ℕ → Bool
  refers_to g s = (is_breakable (class w s) && (ltb s g && around w g s))
      && elim (eqb (name w g) 0) [ true ↦ is (innermost w is_breakable g) s | false ↦ label_on g s ]

  -- some break refers to s
  unfoldable pub has_own_break : ℕ → Bool
  has_own_break s = is_some (lowest (λ g. is_class w break g && refers_to g s) (end w s))

  -- ---- the rules; the first argument bounds the depth of calls
  unfoldable mutual
    -- the statement r is terminating
    pub terminating : ℕ → ℕ → Bool
    terminating zero r = false
    terminating (suc f) r = elim (class w r) [
      | plain ↦ false
      | declaration ↦ false
      | empty ↦ false
      | labeled ↦ terminating f (suc r)
      | stop ↦ true
      | break ↦ false
      | continue ↦ false
      | goto ↦ true
      | fallthrough ↦ true
      | block ↦ terminating_list f (end w r) (suc r)
      | case_block ↦ terminating_clauses f (end w r) (suc r)
      | comm_block ↦ terminating_clauses f (end w r) (suc r)
      | if ↦ false
      | if_else ↦ terminating f (suc r) && terminating f (end w (suc r))
      | case ↦ terminating_list f (end w r) (suc r)
      | default_case ↦ terminating_list f (end w r) (suc r)
      | comm ↦ terminating_list f (end w r) (suc r)
      | default_comm ↦ terminating_list f (end w r) (suc r)
      | switch ↦ (has_default w r && not (has_own_break r)) && terminating f (suc r)
      | type_switch ↦ (has_default w r && not (has_own_break r)) && terminating f (suc r)
      | select ↦ not (has_own_break r) && terminating f (suc r)
      | for ↦ not (has_own_break r)
      | for_cond ↦ false
    ]

    -- of the items from c on, before e, the last non-Empty one is terminating
    pub terminating_list : ℕ → ℕ → ℕ → Bool
    terminating_list zero e c = false
    terminating_list (suc f) e c = elim (ltb c e) [
      | true ↦ elim (only_empty w (end w c) e) [ true ↦ terminating f c | false ↦ terminating_list f e (end w c) ]
      | false ↦ false
    ]

    -- every clause from c on, before e, is terminating
    pub terminating_clauses : ℕ → ℕ → ℕ → Bool
    terminating_clauses zero e c = false
    terminating_clauses (suc f) e c = elim (ltb c e) [ true ↦ terminating f c && terminating_clauses f e (end w c) | false ↦ true ]

  -- `is_terminating` on row 0; a list takes a call for each item and for each level, so twice the rows are enough
  unfoldable pub verdict : Bool
  verdict = terminating (suc (size w 0 + size w 0)) 0
