-- goscript's rule of a switch and of a Select is that of `rules`: every clause's list is terminating, no break leaves a clause, and a switch has a default.
-- goscript asks all of it clause by clause, and `rules` each of it of all clauses.
-- Assumes nothing.
use mathlib.Core.Path.{◌≡◌, refl, sym, ◌∙◌}
use mathlib.Core.Bool.{Bool, true, ◌&&◌, ◌||◌, not, and-true as true-and, or-false, or_assoc}
use mathlib.Core.List.{List, [], ◌∷◌}
use mathlib.Core.Option.{none}
use Prim.Native.Nat.{ℕ, suc, ◌*◌, ◌<◌}
use native.Mathlib.Omega.{arith}
use borrow.Author.Tests.{not-true}
use Rattle.rules.specs.Scan.{lowest}
use Rattle.rules.specs.Rows.{row_count, size, end, Child, here}
use Rattle.rules.specs.Class.{default_case, case_block, select, one_of, is_switch, is_case, is_default, class}
use Rattle.rules.specs.Scope.{is_block}
use Rattle.rules.specs.Labels.{is_class}
use Rattle.rules.specs.Body.{Body}
use Rattle.rules.proofs.Test.{case-of}
use Rattle.rules.proofs.Every.{every, same, same-eq}
use Rattle.rules.proofs.Nesting.{item_from}
use Rattle.rules.proofs.Shape.{opens}
use Rattle.rules.proofs.ClassRules.{class-rule, child-rule}
use Rattle.breaks.specs.Leaves.{label_number, Closed, any_leaves}
use Rattle.returns.specs.Search.{is_terminating_body, is_terminating_list as is_terminating_items}
use Rattle.breaks.proofs.Ranges.{closed-rest}
use Rattle.returns.proofs.Clauses.{is_clause, clause-list, left, left_ended, left_open, left-broken, left-next, clause-of, left-start}
use Rattle.goscript.specs.Build.{Build}
use Rattle.goscript.specs.Syntax.{any, all, list}
use Rattle.goscript.specs.Returns.{is_terminating_list, is_terminating_switch, has_break_list}
use Rattle.goscript.proofs.OneBlock.{has_block, block-below}
use Rattle.goscript.proofs.ListItems.{of-list}
use Rattle.goscript.proofs.VerdictSteps.{any_none, any-more, all_none, all_more, none-fails, switch-clauses}
use Rattle.goscript.proofs.VerdictSearch.{label_of, Handed}
use Rattle.goscript.proofs.VerdictBreaks.{list-breaks}
use Rattle.goscript.proofs.VerdictLists.{Answered, list-rule}

-- the clauses of the switch or Select s
module _ (build : Build) {w p b : List ℕ} (body : Body w p b) (s : ℕ) (row : s < row_count w) (handed : Handed build w p b s)
    (f : ℕ) (answered : Answered build w p b f) (x : 2 * size w s < suc (suc (suc f))) where
  abbrev ends : ℕ → Bool
  ends c = is_terminating_list build w p b (suc f) (list w c) none

  abbrev breaks : ℕ → Bool
  breaks c = has_break_list build w p b (suc f) (list w c) (label_of p b (label_number w s)) true

  -- what goscript asks of a clause
  abbrev passes : ℕ → Bool
  passes c = ends c && not (breaks c)

  block_of : opens (class w s) ≡ true → (suc s < end w s) × (end w (suc s) ≡ end w s) × (is_block (class w (suc s)) ≡ true)
  unfolding every lowest
  block_of t = block-below body s row (class-rule opens has_block refl (class w s) t)

  -- what is left of the clauses, with the default found so far
  module _ (t : opens (class w s) ≡ true) (default : ℕ → Bool) (agrees : (c : ℕ) → Child w (suc s) c → default c ≡ is_default (class w c)) where
    abbrev Left : ℕ → List ℕ → Type 0
    Left c l = (found : Bool) → all passes l && (found || any default l) ≡ left w p b (end w (suc s)) (label_number w s) c found

    next : (c : ℕ) (l : List ℕ) → Closed w c (end w (suc s)) → c < end w (suc s) → Child w (suc s) c → Left (end w c) l → Left c (c ∷ l)
    unfolding every lowest
    next c l a m i rest found =
        let (j, q, d) = block_of t in
        let from = item_from i in
        let o = (closed-rest body a m).order in
        let h : c < row_count w = omega (arith, a.within) in
        let clause = clause-of body s row t c (rw q at i) in
        let no_block = not-true (opens (class w c)) (class-rule is_clause (λ c. not (opens c)) refl (class w c) clause) in
        let ending = list-rule body c h build f answered (clause-list (class w c) clause) (omega arith) in
        let breaking = list-breaks body s row handed f c (omega arith) (omega arith) no_block (omega arith) in
        let n = label_number w s in
        case-of (is_terminating_items w p b (end w c) (suc c))
        (λ u. case-of (any_leaves w p b (suc c) (end w c) n true)
        (λ v. rw (all_more passes c l, ending, u, breaking, v) (sym (left-broken body n found a m clause v)))
        (λ v. rw (all_more passes c l, ending, u, breaking, v, any-more default c l, agrees c i, ← or_assoc found (is_default (class w c)) (any default l))
        (rest (found || is_default (class w c)) ∙ left-next body n found a m clause u v)))
        (λ u. rw (all_more passes c l, ending, u) (sym (left_open body n found a m clause u)))

    clauses-rule : all passes (list w (suc s)) && (is_class w select s || any default (list w (suc s))) ≡ is_terminating_body w p b s
    clauses-rule =
        let (j, q, d) = block_of t in
        of-list body (suc s) (omega (arith, body.sized.within s row)) Left
        (λ found. rw (all_none passes, any_none default)
        (rw or-false (sym (left_ended body (end w (suc s)) (label_number w s) (end w (suc s)) found (omega arith)))))
        next (is_class w select s)
        ∙ rw (← q) at (left-start body s row t)

  -- the clauses of a switch are Cases
  case-default : is_switch (class w s) ≡ true → (c : ℕ) → Child w (suc s) c → one_of (default_case ∷ []) (class w c) ≡ is_default (class w c)
  unfolding every lowest
  case-default t c i =
      let (j, q, d) = block_of (rw t) in
      let k = child-rule is_switch (one_of (case_block ∷ [])) refl (class w s) (class w (suc s)) t (body.child_fits s (suc s) row (here j)) in
      let h : suc s < row_count w = omega (arith, body.sized.within s row) in
      let e = child-rule (one_of (case_block ∷ [])) is_case refl (class w (suc s)) (class w c) k (body.child_fits (suc s) c h i) in
      same-eq _ _ (class-rule is_case (λ c. same (one_of (default_case ∷ []) c) (is_default c)) refl (class w c) e)

  pub switch-rule : is_switch (class w s) ≡ true
      → is_terminating_switch build w p b (suc (suc f)) (list w (suc s)) (label_of p b (label_number w s)) ≡ is_terminating_body w p b s
  unfolding every lowest
  switch-rule t =
      let n = not-true (is_class w select s) (class-rule is_switch (λ c. not (one_of (select ∷ []) c)) refl (class w s) t) in
      switch-clauses build w p b (suc f) (list w (suc s)) (label_of p b (label_number w s))
      ∙ rw n at (clauses-rule (rw t) (λ c. one_of (default_case ∷ []) (class w c)) (case-default t))

  pub select-rule : class w s ≡ select → not (any (λ c. not (ends c) || breaks c) (list w (suc s))) ≡ is_terminating_body w p b s
  select-rule e =
      none-fails ends breaks (list w (suc s)) ∙ sym (true-and (all passes (list w (suc s))))
      ∙ rw e at (clauses-rule (rw e) (λ c. is_default (class w c)) (λ c i. refl))
