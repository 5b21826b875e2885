-- What a row that is no label does to the checker: it reports its faults, and a branch that is bound to a label before it records that use. Nothing else
-- changes, since only a label is placed in the scope, has a definition, or resolves a goto before it.
-- Assumes nothing.
use mathlib.Core.Path.{◌≡◌, sym, ◌∙◌, ap, subst}
use mathlib.Core.Bool.{true, false, ◌&&◌}
use mathlib.Core.Logic.{inl, inr}
use mathlib.Core.List.{List, [], ◌∷◌, ◌++◌, append-nil}
use mathlib.Core.Option.{none, some}
use Prim.Native.Nat.{ℕ, suc, ◌<◌}
use native.Mathlib.Omega.{arith}
use native.Mathlib.Decide.{ℕ_discrete}
use lib.Dec.{ltb}
use borrow.Author.Tests.{lt-ltb, le-ltb}
use Rattle.rules.specs.Rows.{row_count, name}
use Rattle.rules.specs.Class.{Class, break, continue, goto, fallthrough, one_of, is_branch, class}
use Rattle.rules.specs.Body.{Body}
use Rattle.rules.specs.Labels.{Fault, fault, is, word, is_label, declared, earlier, labelled_break, valid_target, report}
use Rattle.rules.proofs.Test.{case-found, clash}
use Rattle.rules.proofs.ClassTests.{by-break, break-branch, branch-goto, branch-fallthrough}
use Rattle.rules.proofs.RowNames.{goto-named}
use Rattle.rules.proofs.LabelRows.{some-declared}
use Rattle.rules.proofs.GotoRows.{is-earlier}
use Rattle.rules.proofs.BreakRows.{is-target, is-valid, labelled-is, not-labelled, other-labelled}
use Rattle.rules.proofs.BindingRows.{branch-label, binding-break, binding-invalid, binding-other}
use Rattle.rules.proofs.SheetRows.{report-valid, report-break, report-continue, report-fallthrough, report-other}
use Rattle.walk_state.specs.Walk.{binding_at}
use Rattle.walk_state.proofs.WalkFaults.{faults-suc}
use Rattle.walk_state.proofs.WalkBindings.{at-goto, at-later, at_other, not-later, later-own, binding-same}
use Rattle.goscript.specs.Syntax.{ident, lookup}
use Rattle.goscript.specs.Checker.{Checker, error, label_set_used, record_use}
use Rattle.goscript.specs.Label.{State, record_label_use}
use Rattle.goscript.proofs.Walking.{all_at, use_at, CheckerAt}
use Rattle.goscript.proofs.ScopeRows.{all_same, found_before}
use Rattle.goscript.proofs.UseRows.{used-own, used-other, contains-own, contains-kept, contains-cases}
use Rattle.goscript.proofs.UseRows.{below_other, use-branch, use-from, use_kept, use-same}

-- the checker with other errors, and with none more
abbrev pub with-errors : Checker → List Fault → Checker
with-errors c es = record { all = c.all; used = c.used; errors = es; defs = c.defs; uses = c.uses }

pub error-none : (c : Checker) → error [] c ≡ c
error-none c = ap (with-errors c) (append-nil c.errors)

-- the code of a break or continue whose target is not valid
abbrev pub break_code : Class → ℕ
break_code k = elim (one_of (break ∷ []) k) [ true ↦ 4 | false ↦ 5 ]

module _ {w p b : List ℕ} (body : Body w p b) where
  -- ---- a row that is no label
  module _ (x : ℕ) (n : is_label w p b x ≡ false) where
    all-kept : all_at w p b (suc x) ≡ all_at w p b x
    all-kept = all_same body x (λ t d. clash (cc))

    definition-kept : (r : ℕ) → (ltb r (suc x) && (is_label w p b r && is (declared w p b r) r)) ≡ (ltb r x && (is_label w p b r && is (declared w p b r) r))
    definition-kept r = elim (ℕ_discrete r x) [
      | yes e ↦ rw (e, n, lt-ltb x (suc x) (omega arith), le-ltb x x (omega arith))
      | no o ↦ rw (below_other r x o)
    ]

    use-before : (g : ℕ) → (g ≡ x → ⊥) → use_at w p b (suc x) g ≡ use_at w p b x g
    use-before g o = use_kept w p b x g o (λ m. binding-same w p b x g (not-later w p b x g n))

    -- where it is bound to nothing
    none-used : (is_branch (class w x) ≡ true → binding_at w p b (suc x) x ≡ 0) → (g : ℕ) → use_at w p b (suc x) g ≡ use_at w p b x g
    none-used h g = use-same w p b x g h (λ m. binding-same w p b x g (not-later w p b x g n))

  -- one that reports these faults and is bound to nothing
  checker-error : (x : ℕ) (c : Checker) (fs : List Fault) → is_label w p b x ≡ false → report w p b x ≡ fs
      → (is_branch (class w x) ≡ true → binding_at w p b (suc x) x ≡ 0) → CheckerAt w p b x c → CheckerAt w p b (suc x) (error fs c)
  checker-error x c fs n r h y = record {
    all_are = y.all_are ∙ sym (all-kept x n);
    errors-are = ap (λ (es : List Fault). es ++ fs) y.errors-are ∙ sym (faults-suc w p b x ∙ rw r);
    defs-are = λ r. y.defs-are r ∙ sym (definition-kept x n r);
    uses-are = λ g. y.uses-are g ∙ sym (none-used x n h g);
    used-by = λ d t. let (g, e) = y.used-by d t in (g, none-used x n h g ∙ e);
    is-used = λ d g e. y.is-used d g (sym (none-used x n h g) ∙ e);
  }

  -- none at all
  checker-same : (x : ℕ) (c : Checker) → is_label w p b x ≡ false → report w p b x ≡ []
      → (is_branch (class w x) ≡ true → binding_at w p b (suc x) x ≡ 0) → CheckerAt w p b x c → CheckerAt w p b (suc x) c
  checker-same x c n r h y = subst (λ (e : Checker). CheckerAt w p b (suc x) e) (error-none c) (checker-error x c [] n r h y)

  -- ---- a branch that is bound to the label d
  checker-use : (x d : ℕ) (c : Checker) → is_branch (class w x) ≡ true → report w p b x ≡ [] → binding_at w p b (suc x) x ≡ suc d
      → CheckerAt w p b x c → CheckerAt w p b (suc x) (record_use x d (label_set_used d c))
  checker-use x d c t r e y = record {
    all_are = y.all_are ∙ sym (all-kept x n);
    errors-are = y.errors-are ∙ sym (faults-suc w p b x ∙ rw r (append-nil _));
    defs-are = λ r. y.defs-are r ∙ sym (definition-kept x n r);
    uses-are = λ g. elim (ℕ_discrete x g) [
      | yes i ↦ used-own c.uses x d g i ∙ sym (rw (← i) own)
      | no o ↦ used-other c.uses x d g o ∙ y.uses-are g ∙ sym (use-before x n g (λ i. o (sym i)))
    ];
    used-by = λ o u. elim (contains-cases o d c.used u) [
      | inl i ↦ (x, own ∙ ap suc (sym i))
      | inr v ↦ let (g, f) = y.used-by o v in (g, use-before x n g (not_own g o f) ∙ f)
    ];
    is-used = λ o g f. elim (ℕ_discrete g x) [
      | yes i ↦ let z : use_at w p b (suc x) x ≡ suc o = rw i at f in contains-own o d c.used (omega (arith, own))
      | no m ↦ contains-kept o d c.used (y.is-used o g (sym (use-before x n g m) ∙ f))
    ];
  }
    where
      n : is_label w p b x ≡ false
      n = branch-label w p b x t

      own : use_at w p b (suc x) x ≡ suc d
      own = use-branch w p b (suc x) x (omega arith) t ∙ e

      not_own : (g o : ℕ) → use_at w p b x g ≡ suc o → g ≡ x → ⊥
      not_own g o f i = omega (arith, use-from w p b x g (omega arith))

  -- ---- the rows by class
  module _ (x : ℕ) where
    -- a row that is neither a label nor a branch
    pub quiet_row : (c : Checker) → is_branch (class w x) ≡ false → is_label w p b x ≡ false → CheckerAt w p b x c → CheckerAt w p b (suc x) c
    quiet_row c f n y = checker-same x c n
        (report-other w p b x n
        (not-labelled w p b x (λ z. clash (cc (break-branch (class w x) z.breaks))))
        (λ z. clash (cc (branch-fallthrough (class w x) z.falls-through))))
        (λ t. absurd (clash (cc))) y

    -- a fallthrough with a label
    pub fallthrough-labelled : (c : Checker) → class w x ≡ fallthrough → 0 < name w x → CheckerAt w p b x c
        → CheckerAt w p b (suc x) (error (fault w 6 x ∷ []) c)
    fallthrough-labelled c k z y =
        let n = branch-label w p b x (branch-fallthrough (class w x) k) in
        let m = other-labelled w p b x (rw k) in
        let o : class w x ≡ goto → ⊥ = λ e. clash (cc) in
        checker-error x c (fault w 6 x ∷ []) n
        (report-fallthrough w p b x n m (record { falls-through = k; has-name = z }))
        (λ t. at_other w p b (suc x) x o ∙ binding-other w p b x n o m) y

    module _ (row : x < row_count w) where
      -- a branch without a label
      pub unlabelled : (c : Checker) → is_branch (class w x) ≡ true → name w x ≡ 0 → CheckerAt w p b x c → CheckerAt w p b (suc x) c
      unlabelled c t z y =
          let n = branch-label w p b x t in
          let m = not-labelled w p b x (λ u. omega (arith, u.has-name)) in
          let o : class w x ≡ goto → ⊥ = λ e. omega (arith, goto-named body x row e) in
          checker-same x c n (report-other w p b x n m (λ u. omega (arith, u.has-name)))
          (λ t. at_other w p b (suc x) x o ∙ binding-other w p b x n o m) y

      -- a branch bound to the declared label of its name, which stands before it
      use-recorded : (s : State) (d : ℕ) → declared w p b x ≡ some d → d < x → is_branch (class w x) ≡ true → report w p b x ≡ []
          → binding_at w p b (suc x) x ≡ suc d → CheckerAt w p b x s.checker → CheckerAt w p b (suc x) (record_label_use w p b x s).checker
      unfolding record_label_use
      use-recorded s d e h t r i y =
          rw (found_before body x x d s.checker y e h, record_label_use) (checker-use x d s.checker t r i y)

      -- a break or continue with a label
      module _ (k : Class) (e : class w x ≡ k) (breaks : one_of (break ∷ continue ∷ []) k ≡ true) (z : 0 < name w x) where
        break-class : one_of (break ∷ continue ∷ []) (class w x) ≡ true
        break-class = rw e breaks

        break-label : is_label w p b x ≡ false
        break-label = branch-label w p b x (break-branch (class w x) break-class)

        break-goto : class w x ≡ goto → ⊥
        break-goto i = let y : false ≡ true = rw i at break-class in clash (cc)

        has-label : labelled_break w p b x ≡ true
        has-label = labelled-is w p b x (record { breaks = break-class; has-name = z })

        pub break-invalid : (c : Checker) → valid_target w p b x ≡ false → CheckerAt w p b x c → CheckerAt w p b (suc x) (error (fault w (break_code k) x ∷ []) c)
        break-invalid c v y = checker-error x c (fault w (break_code k) x ∷ []) break-label
            (by-break k breaks
            (λ i. rw i (report-break w p b x break-label has-label v (e ∙ i)))
            (λ i. rw i (report-continue w p b x break-label has-label v (e ∙ i))))
            (λ t. at_other w p b (suc x) x break-goto ∙ binding-invalid w p b x break-label break-goto v) y

        pub break-valid : (s : State) → valid_target w p b x ≡ true → CheckerAt w p b x s.checker
            → CheckerAt w p b (suc x) (record_label_use w p b x s).checker
        break-valid s v y =
            let (t, f, u) = is-valid w p b x v in
            let a = is-target w p b x t f in
            let before = a.before in
            let (d, i, m) = some-declared w p b x t (omega arith) a.names in
            use-recorded s d i (omega arith) (break-branch (class w x) break-class) (report-valid w p b x break-label has-label v)
            (at_other w p b (suc x) x break-goto ∙ binding-break w p b x break-label break-goto has-label v ∙ ap word i) y

      -- a goto
      module _ (k : class w x ≡ goto) where
        goto-report : report w p b x ≡ []
        goto-report =
            report-other w p b x (branch-label w p b x (branch-goto (class w x) k)) (other-labelled w p b x (rw k)) (λ y. clash (cc y.falls-through))

        pub goto-bound : (s : State) (d : ℕ) → earlier w p b x ≡ some d → CheckerAt w p b x s.checker
            → CheckerAt w p b (suc x) (record_label_use w p b x s).checker
        goto-bound s d e y =
            let i = is-earlier w p b x d e in
            use-recorded s d i.0 i.1 (branch-goto (class w x) k) goto-report (at-goto w p b (suc x) x d k e) y

        pub goto-waits : (c : Checker) → earlier w p b x ≡ none → CheckerAt w p b x c → CheckerAt w p b (suc x) c
        goto-waits c e y = checker-same x c (branch-label w p b x (branch-goto (class w x) k)) goto-report
            (λ t. at-later w p b (suc x) x k e ∙ ap word (later-own w p b x)) y

-- ---- the rest of the state stays
module _ (w p b : List ℕ) (x : ℕ) (s : State) where
  pub uses-blocks : (record_label_use w p b x s).blocks ≡ s.blocks
  unfolding record_label_use
  uses-blocks = case-found (lookup w p b (ident w p b x) s.checker.all) (λ d e. rw (e, record_label_use)) (λ e. rw (e, record_label_use))

  pub uses-ctx : (record_label_use w p b x s).ctx ≡ s.ctx
  unfolding record_label_use
  uses-ctx = case-found (lookup w p b (ident w p b x) s.checker.all) (λ d e. rw (e, record_label_use)) (λ e. rw (e, record_label_use))
