-- What a label, not `_`, does to the checker. `declare` finds the declared label of its name before it, and reports both rows, or finds none, and places the
-- label: then it is the declared one. `resolve_all` goes through the jumps of the list: those of the label's name are the gotos before it that it resolves, so
-- each is bound to it, and is reported where it stands before the latest declaration of the list.
-- Assumes nothing.
use mathlib.Core.Path.{◌≡◌, refl, sym, ◌∙◌, ap, subst}
use mathlib.Core.Bool.{true, false, ◌&&◌}
use mathlib.Core.Logic.{inl, inr}
use mathlib.Core.List.{List, ◌++◌, append-nil, append_assoc}
use mathlib.Core.Option.{some}
use Prim.Native.Nat.{ℕ, suc, ◌<◌}
use native.Mathlib.Omega.{arith}
use native.Mathlib.Decide.{ℕ_discrete, dec_lt}
use lib.Dec.{ltb}
use borrow.Author.Tests.{lt-ltb, le-ltb, ne_eqb}
use Rattle.rules.specs.Rows.{row_count}
use Rattle.rules.specs.Scope.{list_of}
use Rattle.rules.specs.Body.{Body}
use Rattle.rules.specs.Labels.{Fault, each, is, is_label, declared, jumps_over, repeated}
use Rattle.rules.proofs.Test.{case-of, case-found}
use Rattle.rules.proofs.Found.{found-is}
use Rattle.rules.proofs.RowNames.{same-own}
use Rattle.rules.proofs.LabelRows.{labels-is, some-declared}
use Rattle.rules.proofs.SheetRows.{repeated-not, repeated-is, report-label}
use Rattle.walk_state.specs.Walk.{faults_at}
use Rattle.walk_state.proofs.WalkFaults.{faults-suc}
use Rattle.goscript.specs.Syntax.{through, contains, ident, lookup}
use Rattle.goscript.specs.Context.{Context}
use Rattle.goscript.specs.Checker.{Checker}
use Rattle.goscript.specs.Label.{State, declare, resolve, resolve_all}
use Rattle.goscript.proofs.Loops.{each_same}
use Rattle.goscript.proofs.Passing.{passing}
use Rattle.goscript.proofs.Walking.{all_at, use_at, CheckerAt, jumps_at, ContextAt}
use Rattle.goscript.proofs.ScopeRows.{all_placed, all_same, found_before, none_yet}
use Rattle.goscript.proofs.UseRows.{contains-more, contains-own, below_other}
use Rattle.goscript.proofs.ContextRows.{waits}
use Rattle.goscript.proofs.ResolveRows.{reports, reports-is, reports-not, Resolved, resolved}
use Rattle.goscript.proofs.TakenRows.{takes, use-taken, use-waits, use-other, over-taken, over-not}

-- `declare` leaves the context as it is
pub declare-ctx : (w p b : List ℕ) (x : ℕ) (s : State) → (declare w p b x s).ctx ≡ s.ctx
unfolding declare
declare-ctx w p b x s = case-found (lookup w p b (ident w p b x) s.checker.all) (λ d e. rw (e, declare)) (λ e. rw (e, declare))

module _ {w p b : List ℕ} (body : Body w p b) (x : ℕ) (row : x < row_count w) (label : is_label w p b x ≡ true) where
  -- ---- the label's own work
  record Placed (c e : Checker) : Type 0 where
    all_are : e.all ≡ all_at w p b (suc x)
    errors-are : e.errors ≡ c.errors ++ repeated w p b x
    defs-are : (r : ℕ) → contains r e.defs ≡ (ltb r (suc x) && (is_label w p b r && is (declared w p b r) r))
    same-uses : e.uses ≡ c.uses
    same-used : e.used ≡ c.used

  -- it is the first of its name, or a label before it is
  pub by_first : {G : Type 0} → (declared w p b x ≡ some x → G) → ((d : ℕ) → declared w p b x ≡ some d → d < x → G) → G
  by_first first again =
      let (d, e, h) = some-declared w p b x x (omega arith) (labels-is w p b x x label (same-own w p b x)) in
      elim (ℕ_discrete d x) [ yes i ↦ first (e ∙ ap some i) | no n ↦ again d e (omega arith) ]

  module _ (s : State) (at : CheckerAt w p b x s.checker) where
    -- the declared label of its name
    first-placed : declared w p b x ≡ some x → Placed s.checker (declare w p b x s).checker
    unfolding declare
    first-placed e =
        rw (none_yet body x x x s.checker at e (omega arith), declare) (record {
          all_are = rw at.all_are (all_placed body x row label e);
          errors-are = rw (repeated-not w p b x e) (sym (append-nil s.checker.errors));
          defs-are = λ r. elim (ℕ_discrete r x) [
            | yes i ↦ contains-own r x s.checker.defs i ∙ sym (rw (i, lt-ltb x (suc x) (omega arith), label) (found-is (declared w p b x) x e))
            | no o ↦ contains-more r x s.checker.defs ∙ rw (ne_eqb r x o, below_other r x o) (at.defs-are r)
          ];
          same-uses = refl;
          same-used = refl;
        })

    -- one more label of a name
    again-placed : (d : ℕ) → declared w p b x ≡ some d → d < x → Placed s.checker (declare w p b x s).checker
    unfolding declare
    again-placed d e h =
        let n : d ≡ x → ⊥ = λ i. omega arith in
        rw (found_before body x x d s.checker at e h, declare) (record {
          all_are = at.all_are ∙ sym (all_same body x (λ t f. n (cc)));
          errors-are = rw (repeated-is w p b x d e n);
          defs-are = λ r. at.defs-are r ∙ elim (ℕ_discrete r x) [
            | yes i ↦ rw (i, le-ltb x x (omega arith), lt-ltb x (suc x) (omega arith), label, e) (sym (ne_eqb d x n))
            | no o ↦ rw (below_other r x o)
          ];
          same-uses = refl;
          same-used = refl;
        })

    placed : Placed s.checker (declare w p b x s).checker
    placed = by_first first-placed again-placed

  -- ---- the jumps that it resolves
  module _ (l : ℕ) (listed : list_of w x ≡ some l) (c e : Checker) (ctx : Context) (at : CheckerAt w p b x c) (in_List : ContextAt w p b l x ctx)
      (first : Placed c e) where
    abbrev after : Checker
    after = through (resolve w p b x ctx) (passing (waits w p b l x) x) e

    gives : Resolved w p b x ctx (waits w p b l x) e x after
    gives = resolved w p b x ctx (waits w p b l x) e x

    abbrev found : ℕ → List Fault
    found = reports w p b x ctx (waits w p b l x)

    reported : each found x ≡ each (jumps_over w p b x) x
    reported = each_same found (jumps_over w p b x) x (λ g h. case-of (takes w p b l x g)
        (λ t. reports-is w p b x ctx (waits w p b l x) g t ∙ over-taken body l x row label listed g h ctx in_List t)
        (λ f. reports-not w p b x ctx (waits w p b l x) g f ∙ sym (over-not body l x row label listed g h f)))

    all-errors : e.errors ++ each found x ≡ faults_at w p b (suc x)
    all-errors = rw (first.errors-are, at.errors-are, reported)
        (append_assoc (faults_at w p b x) (repeated w p b x) (each (jumps_over w p b x) x) ∙ sym (faults-suc w p b x ∙ rw (report-label w p b x label)))

    by-taken : {G : Type 0} (g : ℕ) → (g < x → takes w p b l x g ≡ true → G) → ((g < x → takes w p b l x g ≡ false) → G) → G
    by-taken g yes-taken not_taken = elim (dec_lt g x) [
      | yes h ↦ case-of (takes w p b l x g) (λ t. yes-taken h t) (λ f. not_taken (λ m. f))
      | no n ↦ not_taken (λ m. absurd (n m))
    ]

    -- a use before the label is one after it
    use-stays : (g d : ℕ) → use_at w p b x g ≡ suc d → use_at w p b (suc x) g ≡ suc d
    use-stays g d u = by-taken g
        (λ h t. absurd (omega (arith, use-waits body l x row label listed g h t)))
        (λ f. use-other body l x row label listed g f ∙ u)

    resolved-checker : CheckerAt w p b (suc x) after
    resolved-checker = record {
      all_are = gives.all_same ∙ first.all_are;
      errors-are = gives.errors-are ∙ all-errors;
      defs-are = λ r. rw gives.defs-same (first.defs-are r);
      uses-are = λ g. by-taken g
          (λ h t. gives.taken-use g h t ∙ sym (use-taken body l x row label listed g h t))
          (λ f. gives.other-use g f ∙ rw first.same-uses (at.uses-are g) ∙ sym (use-other body l x row label listed g f));
      used-by = λ d t. elim (gives.used-cases d t) [
        | inl u ↦ let (g, i) = at.used-by d (rw first.same-used at u) in (g, use-stays g d i)
        | inr (i, (g, h, u)) ↦ (g, use-taken body l x row label listed g h u ∙ ap suc (sym i))
      ];
      is-used = λ d g u. by-taken g
          (λ h t. let i : d ≡ x = omega (arith, use-taken body l x row label listed g h t) in rw i (gives.label-used g h t))
          (λ f. gives.used-kept d (rw first.same-used (at.is-used d g (sym (use-other body l x row label listed g f) ∙ u))));
    }

pub label-checker : {w p b : List ℕ} (body : Body w p b) (l x : ℕ) (s : State)
    → x < row_count w → is_label w p b x ≡ true → list_of w x ≡ some l → CheckerAt w p b x s.checker → ContextAt w p b l x s.ctx
    → CheckerAt w p b (suc x) (resolve_all w p b x (declare w p b x s)).checker
unfolding resolve_all jumps_at
label-checker {w} {p} {b} body l x s row label listed at in_List =
    let e = (declare w p b x s).checker in
    let y = resolved-checker body x row label l listed s.checker e s.ctx at in_List (placed body x row label s at) in
    rw (declare-ctx w p b x s)
    (subst (λ (js : List ℕ). CheckerAt w p b (suc x) (through (resolve w p b x s.ctx) js e)) (sym in_List.jumps-are) y)
