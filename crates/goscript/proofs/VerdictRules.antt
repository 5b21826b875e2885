-- goscript's statement rule is that of `rules`, class by class, for every build whose break search keeps to the label of each statement that a break can leave.
-- A statement takes a call, its list one more and the clauses of a switch another; each goes at least one row deeper, so twice the rows are calls enough.
-- Assumes nothing.
use mathlib.Core.Path.{◌≡◌, refl, sym, ◌∙◌, ap}
use mathlib.Core.Bool.{true, ◌&&◌, not}
use mathlib.Core.List.{List, [], ◌∷◌}
use mathlib.Core.Option.{Option, none, some}
use Prim.Native.Nat.{ℕ, zero, suc, ◌+◌, ◌*◌, ◌≤◌, ◌<◌}
use native.Mathlib.Omega.{arith}
use borrow.Author.Tests.{not-true}
use Rattle.rules.specs.Scan.{lowest}
use Rattle.rules.specs.Rows.{row_count, name, size, end, here, later}
use Rattle.rules.specs.Class.{labeled, block, if_else, for, one_of, is_breakable, is_statement, class}
use Rattle.rules.specs.Scope.{is_list}
use Rattle.rules.specs.Verdict.{verdict as verdict_of}
use Rattle.rules.specs.Body.{Body}
use Rattle.rules.proofs.Test.{clash}
use Rattle.rules.proofs.Every.{every, is_one}
use Rattle.rules.proofs.RowNames.{labeled-named}
use Rattle.rules.proofs.ClassRules.{is_never, is_always, is_clause_block, class-rule, by-rule}
use Rattle.rules.proofs.Terminating as rules
use Rattle.rules.proofs.Terminating.{terminating-never, terminating-always}
use Rattle.breaks.specs.Leaves.{label_number}
use Rattle.returns.specs.Search.{is_terminating_body}
use Rattle.breaks.proofs.Ranges.{label-of-first, label-on, label_after}
use Rattle.returns.proofs.ByClass.{row_list, row-labeled, row-if_else, row-for}
use Rattle.returns.proofs.RowRule.{part_of}
use Rattle.goscript.specs.Build.{Build}
use Rattle.goscript.specs.Syntax.{list, ident}
use Rattle.goscript.specs.Returns.{is_terminating, is_terminating_list, verdict}
use Rattle.goscript.proofs.VerdictSteps.{statement-never, statement-always, statement-labeled, statement-block, statement-if_else, statement-switch}
use Rattle.goscript.proofs.VerdictSteps.{statement-select, statement-for, verdict-is}
use Rattle.goscript.proofs.VerdictSearch.{label_of, named-label, Handed}
use Rattle.goscript.proofs.VerdictBreaks.{block-breaks}
use Rattle.goscript.proofs.VerdictLists.{Answered, list-rule}
use Rattle.goscript.proofs.VerdictClauses.{switch-rule, select-rule}

module _ {build : Build} {w p b : List ℕ} (body : Body w p b)
    (handed : (s : ℕ) → s < row_count w → is_breakable (class w s) ≡ true → Handed build w p b s) where
  -- a statement, with three calls made
  module _ (f s : ℕ) (row : s < row_count w) (statement : is_statement (class w s) ≡ true) (x : 2 * size w s < suc (suc (suc f))) where
    abbrev label : Option (List ℕ)
    label = label_of p b (label_number w s)

    abbrev Answer : Type 0
    Answer = is_terminating build w p b (suc (suc (suc f))) s label ≡ is_terminating_body w p b s

    never-rule : is_never (class w s) ≡ true → Answer
    unfolding is_terminating_body
    never-rule t = statement-never build w p b (suc (suc f)) s label t ∙ sym (terminating-never w p b (suc (size w s + size w s)) s t)

    always-rule : is_always (class w s) ≡ true → Answer
    unfolding is_terminating_body
    always-rule t = statement-always build w p b (suc (suc f)) s label t ∙ sym (terminating-always w p b (size w s + size w s) s t)

    labeled-rule : Answered build w p b (suc (suc f)) → class w s ≡ labeled → Answer
    unfolding ident
    labeled-rule answered e =
        let (l, q) = body.one_statement s row (rw e) in
        let m = body.sized.within s row in
        let k = part_of (class w s) (class w (suc s)) (rw e) (body.child_fits s (suc s) row (here l)) in
        let n = labeled-named body s row e in
        let named : label_of p b (label_number w (suc s)) ≡ some (ident w p b s) = rw (label-on w s e) (named-label p b (name w s) n) in
        statement-labeled build w p b (suc (suc f)) s label e ∙ rw named at (answered (suc s) (omega arith) k (omega arith)) ∙ sym (row-labeled body s row e)

    -- the list of a Block
    block-list : Answered build w p b (suc f) → (q : ℕ) → q < row_count w → class w q ≡ block → size w q ≤ size w s
        → is_terminating_list build w p b (suc (suc f)) (list w q) none ≡ is_terminating_body w p b q
    block-list answered q h e l = list-rule body q h build (suc f) answered (rw e) (omega arith) ∙ sym (row_list body q h (rw e))

    if_else-rule : Answered build w p b (suc f) → Answered build w p b (suc (suc f)) → class w s ≡ if_else → Answer
    if_else-rule deeper answered e =
        let (l, c, i, q) = body.two_parts s row (rw e) in
        let m = body.sized.within s row in
        let h : suc s < row_count w = omega arith in
        let n = body.sized.some_rows (suc s) h in
        let k = part_of (class w s) (class w (end w (suc s))) (rw e) (body.child_fits s (end w (suc s)) row (later l (here i))) in
        let first = block-list deeper (suc s) h c (omega arith) in
        let second = rw (label_after body (suc s) h) at (answered (end w (suc s)) (omega arith) k (omega arith)) in
        statement-if_else build w p b (suc (suc f)) s label e ∙ rw (first, second) (sym (row-if_else body s row e))

    for-rule : class w s ≡ for → Answer
    for-rule e =
        statement-for build w p b (suc (suc f)) s label e
        ∙ ap not (block-breaks body s row (handed s row (rw e)) (suc f) (rw e) (omega arith)) ∙ sym (row-for body s row e)

    row-answered : Answered build w p b f → Answered build w p b (suc f) → Answered build w p b (suc (suc f)) → Answer
    unfolding every lowest
    row-answered clauses deeper answered =
        by-rule (class w s) never-rule always-rule
        (λ t.
        let e = is_one (class w s) block (class-rule (λ c. is_list c && is_statement c) (one_of (block ∷ [])) refl (class w s) (rw (t, statement))) in
        statement-block build w p b (suc (suc f)) s label e ∙ block-list deeper s row e (omega arith))
        (λ t. let z = not-true (is_statement (class w s)) (class-rule is_clause_block (λ c. not (is_statement c)) refl (class w s) t) in absurd (clash (cc)))
        (λ t. statement-switch build w p b (suc (suc f)) s label t ∙ switch-rule build body s row (handed s row (rw t)) f clauses x t)
        (labeled-rule answered)
        (if_else-rule deeper answered)
        (λ e. statement-select build w p b (suc (suc f)) s label e ∙ select-rule build body s row (handed s row (rw e)) (suc f) deeper (omega arith) e)
        for-rule

  -- ---- with calls enough
  rows-answered : (f : ℕ) → Answered build w p b f
  rows-answered zero s row statement x = absurd (omega arith)
  rows-answered (suc zero) s row statement x = absurd (omega (arith, body.sized.some_rows s row))
  rows-answered (suc (suc zero)) s row statement x = absurd (omega (arith, body.sized.some_rows s row))
  rows-answered (suc (suc (suc f))) s row statement x =
      row-answered f s row statement x (rows-answered f) (rows-answered (suc f)) (rows-answered (suc (suc f)))

  pub same-verdict : verdict build w p b ≡ verdict_of w p b
  unfolding is_terminating_body
  same-verdict =
      verdict-is build w p b
      ∙ rw (label-of-first w) at (rows-answered (suc (size w 0 + size w 0)) 0 body.some_rows (rw body.root_class) (omega arith))
      ∙ sym (rules.verdict-is w p b)
