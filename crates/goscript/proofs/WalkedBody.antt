-- The walk of the whole body: every statement is walked, by induction on the calls, and so the body's own list from row 1 to its end. There the state is that
-- of the walk at the end, of which the sheet and the bindings are made.
-- Assumes nothing.
use mathlib.Core.Path.{◌≡◌, refl, sym, ap}
use mathlib.Core.List.{List, []}
use mathlib.Core.Option.{none}
use Prim.Native.Nat.{ℕ, zero, suc, ◌+◌, ◌-◌, ◌<◌}
use native.Mathlib.Omega.{arith}
use borrow.Author.Tests.{le-ltb}
use Rattle.rules.specs.Rows.{row_count, size}
use Rattle.rules.specs.Class.{class}
use Rattle.rules.specs.Body.{Body}
use Rattle.rules.proofs.Test.{clash}
use Rattle.rules.proofs.LabelRows.{other-label}
use Rattle.walk_state.proofs.WalkFaults.{faults-zero}
use Rattle.goscript.specs.Build.{Build}
use Rattle.goscript.specs.Syntax.{any, contains, list}
use Rattle.goscript.specs.Checker.{new, used_by}
use Rattle.goscript.specs.Label.{block_branches, stmt_branches}
use Rattle.goscript.specs.Equal.{SameLabels}
use Rattle.goscript.proofs.Walking.{CheckerAt}
use Rattle.goscript.proofs.ScopeRows.{all-zero}
use Rattle.goscript.proofs.UseRows.{use-from}
use Rattle.goscript.proofs.CheckerRows.{quiet_row}
use Rattle.goscript.proofs.BlockRows.{blocks-first}
use Rattle.goscript.proofs.Arms.{Arm, quiet, declares, labels, breaks, continues, goes, falls, nests, clauses, one-part, two_parts, arm}
use Rattle.goscript.proofs.LeafRows.{Walked, quiet-walked, declaration-walked, fallthrough-walked, goto-walked, breaks-walked, continues-walked}
use Rattle.goscript.proofs.Positions.{stands, home-list, its-list}
use Rattle.goscript.proofs.WalkedLists.{Domain, Statements, list-walked}
use Rattle.goscript.proofs.WalkedRows.{parts-other, block_walked, clause-walked, body-walked, else-walked, label-walked, in_list}
use Rattle.goscript.proofs.LabelsEnd.{labels-end}

module _ (build : Build) {w p b : List ℕ} (body : Body w p b) (domain : Domain build w p b) where
  -- ---- a statement, with those of fewer calls walked
  step : (f : ℕ) → Statements build w p b f → Statements build w p b (suc f) → Statements build w p b (suc (suc f))
  step f fewer few l x s home row calls position a = by (arm (class w x))
    where
      by : Arm (class w x) → Walked build w p b l x s (stmt_branches build w p b (suc (suc f)) x s)
      by (quiet t) = quiet-walked build body l x row s (suc f) t a
      by (declares e) = let (i, n) = in_list (rw e) position in declaration-walked build body l x row s (suc f) e (its-list body home row n (rw e)) a
      by (labels e) = label-walked build body domain l x s home row position a (suc f) few calls e
      by (breaks e) =
          let (i, n) = in_list (rw e) position in breaks-walked build body l x row s (suc f) home (home-list body home row n (rw e)) n.stacked a e
      by (continues e) =
          let (i, n) = in_list (rw e) position in continues-walked build body l x row s (suc f) home (home-list body home row n (rw e)) n.stacked a e
      by (goes e) = let (h, m) = stands body home row position in goto-walked build body l x row s (suc f) e h m a
      by (falls e) = fallthrough-walked build body l x row s (suc f) e a
      by (nests t) = block_walked build body domain l x s home row position a f fewer calls t
      by (clauses t) = clause-walked build body domain l x s home row position a f fewer calls t
      by (one-part t) = body-walked build body domain l x s home row position a (suc f) few calls (parts-other (class w x) t) t
      by (two_parts e) = else-walked build body domain l x s home row position a (suc f) few calls (rw e) e

  walked : (f : ℕ) → Statements build w p b f
  walked zero = λ l x s home row calls. absurd (omega (arith, body.sized.some_rows x row))
  walked (suc zero) = λ l x s home row calls. absurd (omega (arith, body.sized.some_rows x row))
  walked (suc (suc f)) = step f (walked f) (walked (suc f))

  -- ---- the body's list
  first-checker : CheckerAt w p b 0 new
  unfolding contains any used_by
  first-checker = record {
    all_are = sym (all-zero body);
    errors-are = sym (faults-zero w p b);
    defs-are = λ r. sym (rw (le-ltb r 0 (omega arith)));
    uses-are = λ g. sym (use-from w p b 0 g (omega arith));
    used-by = λ d t. absurd (clash (cc));
    is-used = λ d g e. absurd (omega (arith, use-from w p b 0 g (omega arith)));
  }

  pub same-labels : SameLabels build w p b
  same-labels =
      let row : 0 < row_count w = body.some_rows in
      let some_rows = body.sized.some_rows 0 row in
      let f : ℕ = size w 0 + size w 0 - 1 in
      let e : size w 0 + size w 0 ≡ suc f = omega arith in
      let o = block_branches build w p b (suc f) [] none (list w 0) new in
      let whole : 0 + size w 0 ≡ row_count w = omega (arith, body.root_size) in
      let n = other-label w p b 0 (λ c. clash (cc body.root_class)) in
      let (c, jumps) = list-walked body domain f 0 row (rw body.root_class) (omega arith) (walked f) none [] new o refl
      (quiet_row body 0 new (rw body.root_class) n first-checker) (blocks-first body) in
      labels-end body build o (ap (λ (n : ℕ). block_branches build w p b n [] none (list w 0) new) (sym e)) (rw whole at c) (rw whole at jumps)
