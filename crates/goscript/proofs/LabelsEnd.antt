-- From the end of the walk to the answers of goscript's `labels`: after the loop over the jumps that are left, the loop over the scope, which is in the order
-- of the names, adds a 9 for each declared label that is not used. Neither loop changes what is recorded, so that the bindings are those of the walk: a
-- declared label's own row, the label to which a branch is bound, and nothing else.
-- Assumes nothing.
use mathlib.Core.Path.{◌≡◌, sym, ◌∙◌, ap}
use mathlib.Core.Bool.{true, false, ◌&&◌}
use mathlib.Core.List.{List, [], ◌∷◌, ◌++◌, append_assoc}
use mathlib.Core.Option.{none}
use Prim.Native.Nat.{ℕ, suc, ◌+◌, ◌<◌}
use native.Mathlib.Omega.{arith}
use borrow.Author.Tests.{lt-ltb}
use Rattle.rules.specs.Rows.{row_count, size}
use Rattle.rules.specs.Class.{is_branch, class}
use Rattle.rules.specs.Names.{count_of_pairs}
use Rattle.rules.specs.Body.{Body}
use Rattle.rules.specs.Labels.{Fault, each, is, fault, is_label, declared, binding, report, unresolved, used, declared_at, unused, sheet as sheet_of}
use Rattle.rules.specs.Labels.{bindings as bindings_of}
use Rattle.rules.proofs.Test.{case-of, case-found, clash}
use Rattle.rules.proofs.Each.{each-zero}
use Rattle.rules.proofs.ClassTests.{break-branch, branch-goto}
use Rattle.rules.proofs.Found.{is_found}
use Rattle.rules.proofs.BreakRows.{not-labelled}
use Rattle.rules.proofs.BindingRows.{binding-declared, binding-repeated, binding-other}
use Rattle.rules.proofs.RankRows.{label_at}
use Rattle.rules.proofs.SheetRows.{unused-none, unused-not, unused-is}
use Rattle.walk_state.specs.Walk.{faults_at}
use Rattle.tables.proofs.Labelling.{label-class}
use Rattle.goscript.specs.Build.{Build}
use Rattle.goscript.specs.Syntax.{through, contains, list}
use Rattle.goscript.specs.Checker.{Checker, new as new_checker, error, bound}
use Rattle.goscript.specs.Label.{Outgoing, block_branches, left_jump, unused_label, labels, sheet, bindings}
use Rattle.goscript.specs.Equal.{SameLabels}
use Rattle.goscript.proofs.Loops.{each_same, through-none, through-one, through-each}
use Rattle.goscript.proofs.Walking.{all_at, jumps_at, CheckerAt}
use Rattle.goscript.proofs.ScopeRows.{of_number, number-none, number-before}
use Rattle.goscript.proofs.UseRows.{use-branch, use-none}
use Rattle.goscript.proofs.CheckerRows.{error-none}
use Rattle.goscript.proofs.LeftJumps.{error-each, Left, binding-end, left-all, left-used}

-- ---- one label of the scope
module _ (w p b : List ℕ) (d : ℕ) (c : Checker) where
  label-used : contains d c.used ≡ true → unused_label w p b d c ≡ c
  unfolding unused_label
  label-used t = rw (t, unused_label)

  label-unused : contains d c.used ≡ false → unused_label w p b d c ≡ error (fault w 9 d ∷ []) c
  unfolding unused_label
  label-unused f = rw (f, unused_label)

-- the 9s of the first n names
abbrev nines : List ℕ → List ℕ → List ℕ → ℕ → List Fault
nines w p b n = each (λ i. unused w p b (suc i)) n

module _ {w p b : List ℕ} (body : Body w p b) (c : Checker) (at : CheckerAt w p b (row_count w) c) where
  -- ---- what is recorded of a row
  bound-is : (r : ℕ) → r < row_count w → bound c r ≡ binding w p b r
  unfolding bound
  bound-is r h = case-of (is_label w p b r)
      (λ t. case-of (is (declared w p b r) r)
      (λ u. rw (defined, t, u, bound) (sym (binding-declared w p b r t (is_found (declared w p b r) r u))))
      (λ u. rw (defined, t, u, bound)
      (at.uses-are r ∙ use-none w p b (row_count w) r (rw (label-class body r h t)) ∙ sym (binding-repeated w p b r t u))))
      (λ n. rw (defined, n, bound) (at.uses-are r ∙ case-of (is_branch (class w r))
      (λ t. use-branch w p b (row_count w) r h t ∙ binding-end body r)
      (λ t. use-none w p b (row_count w) r t ∙ sym (binding-other w p b r n
      (λ e. clash (cc (branch-goto (class w r) e)))
      (not-labelled w p b r (λ y. clash (cc (break-branch (class w r) y.breaks))))))))
    where
      defined : contains r c.defs ≡ (is_label w p b r && is (declared w p b r) r)
      defined = at.defs-are r ∙ rw (lt-ltb r (row_count w) h)

  module _ (c' : Checker) (left : Left w p b c (row_count w) c') where
    -- ---- the loop over the scope
    nine-turn : (i : ℕ) (c'' : Checker) → c'' ≡ error (nines w p b i) c'
        → through (unused_label w p b) (of_number w p b (row_count w) i) c'' ≡ error (nines w p b (suc i)) c'
    nine-turn i c'' e = case-found (declared_at w p b (suc i))
        (λ d q. rw (number-before w p b (row_count w) i d q (label_at body (suc i) d q).0, through-one (unused_label w p b) d c'') (case-of (used w p b d)
        (λ t. label-used w p b d c'' (its-use d ∙ t) ∙ none_more (unused-not w p b (suc i) d q t))
        (λ t.
        label-unused w p b d c'' (its-use d ∙ t) ∙ ap (error (fault w 9 d ∷ [])) e
        ∙ error-each c' (λ k. unused w p b (suc k)) i (fault w 9 d ∷ []) (unused-is w p b (suc i) d q t))))
        (λ q. rw (number-none w p b (row_count w) i q, through-none (unused_label w p b) c'') (none_more (unused-none w p b (suc i) q)))
      where
        its-use : (d : ℕ) → contains d c''.used ≡ used w p b d
        its-use d = ap (λ (s : Checker). contains d s.used) e ∙ left-used body c c' left d

        none_more : unused w p b (suc i) ≡ [] → c'' ≡ error (nines w p b (suc i)) c'
        none_more u = e ∙ sym (error-none (error (nines w p b i) c')) ∙ error-each c' (λ k. unused w p b (suc k)) i [] u

    nines-all : through (unused_label w p b) c'.all c' ≡ error (nines w p b (count_of_pairs p)) c'
    unfolding all_at
    nines-all =
        ap (λ (l : List ℕ). through (unused_label w p b) l c') (ap (λ (s : Checker). s.all) left.left_is ∙ at.all_are)
        ∙ through-each (unused_label w p b) (of_number w p b (row_count w)) (λ i s. s ≡ error (nines w p b i) c') c'
        (sym (rw (each-zero (λ k. unused w p b (suc k))) (error-none c'))) (count_of_pairs p) (λ i c'' h e. nine-turn i c'' e)

    -- ---- the answers
    module _ (build : Build) (ended : labels build w p b ≡ error (nines w p b (count_of_pairs p)) c') where
      same-sheet : sheet build w p b ≡ sheet_of w p b
      unfolding sheet sheet_of faults_at
      same-sheet =
          ap (λ (s : Checker). s.errors) (ended ∙ ap (error (nines w p b (count_of_pairs p))) left.left_is)
          ∙ ap (λ (l : List Fault). l ++ each (unresolved w p b) (row_count w) ++ nines w p b (count_of_pairs p)) at.errors-are
          ∙ append_assoc (each (report w p b) (row_count w)) (each (unresolved w p b) (row_count w)) (nines w p b (count_of_pairs p))

      same-bindings : bindings build w p b ≡ bindings_of w p b
      unfolding bindings bindings_of bound
      same-bindings =
          each_same (λ r. bound (labels build w p b) r ∷ []) (λ r. binding w p b r ∷ []) (row_count w)
          (λ r h. ap (λ (v : ℕ). v ∷ [])
          (ap (λ (s : Checker). bound s r) (ended ∙ ap (error (nines w p b (count_of_pairs p))) left.left_is) ∙ bound-is r (omega arith)))

-- the checker after the loop over the jumps
abbrev after_jumps : List ℕ → List ℕ → List ℕ → Outgoing → Checker
after_jumps w p b o = through (left_jump w p b) o.fwd_jumps o.checker

pub labels-end : {w p b : List ℕ} (body : Body w p b) (build : Build) (o : Outgoing)
    → o ≡ block_branches build w p b (size w 0 + size w 0) [] none (list w 0) new_checker
    → CheckerAt w p b (row_count w) o.checker → o.fwd_jumps ≡ jumps_at w p b 0 (row_count w) → SameLabels build w p b
unfolding labels
labels-end {w} {p} {b} body build o e at jumps =
    let left : Left w p b o.checker (row_count w) (after_jumps w p b o) = rw jumps (left-all body o.checker at) in
    let ended : labels build w p b ≡ error (nines w p b (count_of_pairs p)) (after_jumps w p b o) =
    ap (λ (q : Outgoing). through (unused_label w p b) (after_jumps w p b q).all (after_jumps w p b q)) (sym e)
    ∙ nines-all body o.checker at (after_jumps w p b o) left in (
      same-sheet body o.checker at (after_jumps w p b o) left build ended,
      same-bindings body o.checker at (after_jumps w p b o) left build ended,
    )
