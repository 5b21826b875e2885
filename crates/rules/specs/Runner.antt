-- Document 01, "Runner": states, the choices open at a state, one step, routes.
-- Assumes nothing.
use Rattle.std.specs.Prelude.{◌≡◌, true, false, ◌&&◌, List, [], ◌∷◌, ℕ, zero, suc, ◌<◌, ltb, eqb}
use Rattle.std.proofs.Math.Option.{Option, none, some}
use Rattle.rules.specs.Scan.{highest}
use Rattle.rules.specs.Rows.{name, size, end}
use Rattle.rules.specs.Class.{Class, plain, declaration, empty, labeled, stop, break, continue, goto, fallthrough, block, case_block, comm_block, if}
use Rattle.rules.specs.Class.{if_else, case, default_case, comm, default_comm, switch, type_switch, select, for, for_cond, is_loop, class}
use Rattle.rules.specs.Scope.{is_list, around, innermost, next_case}
use Rattle.rules.specs.Labels.{goto_label}
use Rattle.rules.specs.Verdict.{label_on, refers_to, has_default}

-- a row, stopped, or the closing brace
pub data State : Type 0 where
  at : ℕ → State
  stopped brace : State

-- what going on does past a row below one of this class: that row again, the next item, or further up
pub data Onward : Type 0 where
  again next up : Onward

abbrev pub onward : Class → Onward
onward c = elim (is_loop c) [ true ↦ again | false ↦ elim (is_list c) [ true ↦ next | false ↦ up ] ]

-- a place that a branch goes to, as a state
abbrev pub via : (ℕ → State) → Option ℕ → Option State
via f o = elim o [ none ↦ none | some s ↦ some (f s) ]

-- choice 1 is the body, choice 0 the other way
abbrev pub pick : {A : Type 0} → ℕ → A → A → A
pick c x y = elim c [ zero ↦ y | suc d ↦ x ]

module _ (w : List ℕ) where
  -- ---- clauses: the i-th item from c on, and how many there are before e; the first argument bounds the steps
  unfoldable pub item_at : ℕ → ℕ → ℕ
  item_at c zero = c
  item_at c (suc i) = item_at (end w c) i

  unfoldable pub item_count : ℕ → ℕ → ℕ → ℕ
  item_count zero e c = 0
  item_count (suc f) e c = elim (ltb c e) [ true ↦ suc (item_count f e (end w c)) | false ↦ 0 ]

  -- how many clauses the switch or Select r has
  unfoldable pub clause_count : ℕ → ℕ
  clause_count r = item_count (size w r) (end w r) (suc (suc r))

module _ (w : List ℕ) where
  -- ---- going on

  -- after s, where no row from k up to s is around s: the next item; past a list's end, after its Block, or after the switch or Select for a clause;
  -- past a For or Range body, that row again; past If or Labeled, after it; past row 0, the closing brace
  unfoldable pub climb : ℕ → ℕ → State
  climb zero s = brace
  climb (suc k) s = elim (around w s k) [
    | false ↦ climb k s
    | true ↦ elim (onward (class w k)) [
      | again ↦ at k
      | next ↦ elim (ltb (end w s) (end w k)) [ true ↦ at (end w s) | false ↦ climb k k ]
      | up ↦ climb k k
    ]
  ]

  unfoldable pub after : ℕ → State
  after s = climb s s

module _ (w p b : List ℕ) where
  -- ---- where branches go

  -- break goes on after the statement it refers to
  unfoldable pub break_to : ℕ → Option ℕ
  break_to g = highest (refers_to w p b g) g

  -- continue goes to the For or Range its label is directly on or, unlabelled, to the innermost around it
  unfoldable pub continue_to : ℕ → Option ℕ
  continue_to g = elim (eqb (name w g) 0) [
    | true ↦ innermost w is_loop g
    | false ↦ highest (λ s. around w g s && (is_loop (class w s) && label_on w p b g s)) g
  ]

  -- goto goes to its labelled row, the label that it binds to; fallthrough into the next Case
  unfoldable pub goto_to : ℕ → Option ℕ
  goto_to g = goto_label w p b g

  -- ---- the choices open at row r, and one step by choice c

  abbrev pub choices_as : Class → ℕ → ℕ
  choices_as c r = elim c [
    | plain ↦ 1
    | declaration ↦ 1
    | empty ↦ 1
    | labeled ↦ 1
    | stop ↦ 1
    | break ↦ 1
    | continue ↦ 1
    | goto ↦ 1
    | fallthrough ↦ 1
    | block ↦ 1
    | case_block ↦ 0
    | comm_block ↦ 0
    | if ↦ 2
    | if_else ↦ 2
    | case ↦ 1
    | default_case ↦ 1
    | comm ↦ 1
    | default_comm ↦ 1
    | switch ↦ elim (has_default w r) [ true ↦ clause_count w r | false ↦ suc (clause_count w r) ]
    | type_switch ↦ elim (has_default w r) [ true ↦ clause_count w r | false ↦ suc (clause_count w r) ]
    | select ↦ elim (clause_count w r) [ zero ↦ 1 | suc n ↦ suc n ]
    | for ↦ 1
    | for_cond ↦ 2
  ]

  -- the first item of a list, or past the list's end
  abbrev pub enter : ℕ → State
  enter r = elim (ltb 1 (size w r)) [ true ↦ at (suc r) | false ↦ after w r ]

  -- the clause of that number, or y past the last
  abbrev pub clause : ℕ → ℕ → State → State
  clause r c y = elim (ltb c (clause_count w r)) [ true ↦ at (item_at w (suc (suc r)) c) | false ↦ y ]

  abbrev pub step_as : Class → ℕ → ℕ → Option State
  step_as k r c = elim k [
    | plain ↦ some (after w r)
    | declaration ↦ some (after w r)
    | empty ↦ some (after w r)
    | labeled ↦ some (at (suc r))
    | stop ↦ some stopped
    | break ↦ via (after w) (break_to r)
    | continue ↦ via at (continue_to r)
    | goto ↦ via at (goto_to r)
    | fallthrough ↦ via at (next_case w r)
    | block ↦ some (enter r)
    | case_block ↦ none
    | comm_block ↦ none
    | if ↦ some (pick c (at (suc r)) (after w r))
    | if_else ↦ some (pick c (at (suc r)) (at (end w (suc r))))
    | case ↦ some (enter r)
    | default_case ↦ some (enter r)
    | comm ↦ some (enter r)
    | default_comm ↦ some (enter r)
    | switch ↦ some (clause r c (after w r))
    | type_switch ↦ some (clause r c (after w r))
    | select ↦ some (clause r c stopped)
    | for ↦ some (at (suc r))
    | for_cond ↦ some (pick c (at (suc r)) (after w r))
  ]

  unfoldable pub choices : State → ℕ
  choices s = elim s [ at r ↦ choices_as (class w r) r | stopped ↦ 0 | brace ↦ 0 ]

  -- none where the runner is stuck, has stopped or is at the brace
  unfoldable pub step : State → ℕ → Option State
  step s c = elim s [ at r ↦ step_as (class w r) r c | stopped ↦ none | brace ↦ none ]

  -- ---- routes

  -- the states after s, each a step from the one before by any choice open there
  pub data Walk : State → List State → Type 0 where
    done : {s : State} → Walk s []
    go : {s t : State} {l : List State} → (c : ℕ) → c < choices s → step s c ≡ some t → Walk t l → Walk s (t ∷ l)

  -- a route is a list of states from row 0 on
  abbrev pub Route : List State → Type 0
  Route l = elim l [ [] ↦ ⊥ | s ∷ r ↦ (s ≡ at 0) × Walk s r ]
