-- The loop of `labels` over the forward jumps that are left: each is a goto that is pending at the end, and none is left out, since row 0 is a Block. Its error
-- is 7 or 8 by whether the scope has its name, and a 7 marks the label as used. So what is used then is what `rules` says: the labels to which a branch is
-- bound, which the walk marked, and those that a 7 names.
-- Assumes nothing.
use mathlib.Core.Path.{◌≡◌, sym, ◌∙◌, ap}
use mathlib.Core.Bool.{true, false, ◌&&◌}
use mathlib.Core.Logic.{inl, inr}
use mathlib.Core.List.{List, [], ◌∷◌, ◌++◌, append_assoc}
use mathlib.Core.Option.{none, some}
use Prim.Native.Nat.{ℕ, zero, suc, ◌<◌}
use native.Mathlib.Omega.{arith}
use native.Mathlib.Decide.{ℕ_discrete}
use lib.Dec.{ltb}
use borrow.Author.Tests.{lt-ltb, ltb-true}
use Rattle.rules.specs.Rows.{row_count}
use Rattle.rules.specs.Class.{goto, is_branch, class}
use Rattle.rules.specs.Body.{Body}
use Rattle.rules.specs.Labels.{Fault, each, is_class, fault, declared, goto_label, pending, binding, unresolved, used}
use Rattle.rules.proofs.Test.{case-of, case-found, clash, and-true}
use Rattle.rules.proofs.Each.{each-zero, each-suc}
use Rattle.rules.proofs.Every.{is_one}
use Rattle.rules.proofs.ClassTests.{branch-goto}
use Rattle.rules.proofs.LabelRows.{is_declared_lem}
use Rattle.rules.proofs.GotoRows.{is-pending}
use Rattle.rules.proofs.BindingRows.{branch-label, binding-goto}
use Rattle.rules.proofs.SheetRows.{unresolved-not, unresolved-declared, unresolved-none, uses, uses-binding, uses-pending, uses-cases, used-is, is-used}
use Rattle.walk_state.specs.Walk.{binding_at}
use Rattle.goscript.specs.Syntax.{through, contains, ident, lookup}
use Rattle.goscript.specs.Checker.{Checker, error, label_set_used}
use Rattle.goscript.specs.Label.{left_jump}
use Rattle.goscript.proofs.Passing.{through-passing}
use Rattle.goscript.proofs.Walking.{before, use_at, jumps_at, CheckerAt}
use Rattle.goscript.proofs.ScopeRows.{before-is, lookup-all}
use Rattle.goscript.proofs.UseRows.{contains-own, contains-kept, contains-cases, use-branch}
use Rattle.goscript.proofs.CheckerRows.{with-errors, error-none}
use Rattle.goscript.proofs.ContextRows.{waits, not-waits}

-- ---- the checker with other used labels, and with the errors of one number more
abbrev with-used : List ℕ → Checker → Checker
with-used used c = record { all = c.all; used = used; errors = c.errors; defs = c.defs; uses = c.uses }

pub error-each : (c : Checker) (f : ℕ → List Fault) (n : ℕ) (fs : List Fault) → f n ≡ fs → error fs (error (each f n) c) ≡ error (each f (suc n)) c
error-each c f n fs e =
    ap (with-errors c) (append_assoc c.errors (each f n) fs)
    ∙ ap (λ (l : List Fault). error l c) (sym (each-suc f n ∙ ap (λ (l : List Fault). each f n ++ l) e))

-- ---- a row that is bound to a label is a branch
module _ (w p b : List ℕ) (x g : ℕ) where
  use-of : (d : ℕ) → use_at w p b x g ≡ suc d → (g < x) × (is_branch (class w g) ≡ true) × (binding_at w p b x g ≡ suc d)
  unfolding use_at
  use-of d e = case-of (ltb g x && is_branch (class w g))
      (λ t. let y = and-true (ltb g x) (is_branch (class w g)) t in (ltb-true g x y.0, y.1, rw (t, use_at) at e))
      (λ t. let z : 0 ≡ suc d = rw (t, use_at) at e in absurd (omega arith))

module _ (w p b : List ℕ) where
  -- the checker c of the walk's end, when the jumps before row n are done
  pub record Left (c : Checker) (n : ℕ) (c' : Checker) : Type 0 where
    pub left_is : c' ≡ error (each (unresolved w p b) n) (with-used c'.used c)
    pub used-by : (d : ℕ) → contains d c'.used ≡ true → (g : ℕ) × (g < row_count w) × (uses w p b d g ≡ true)
    pub bound-used : (d g : ℕ) → use_at w p b (row_count w) g ≡ suc d → contains d c'.used ≡ true
    pub named-used : (d g : ℕ) → g < n → pending w p b (row_count w) g ≡ true → declared w p b g ≡ some d → contains d c'.used ≡ true

module _ {w p b : List ℕ} (body : Body w p b) where
  -- every pending goto is left
  left-pending : (g : ℕ) → waits w p b 0 (row_count w) g ≡ pending w p b (row_count w) g
  left-pending zero = case-of (pending w p b (row_count w) 0)
      (λ t. absurd (clash (cc ((is-pending w p b (row_count w) 0 t).gotos, body.root_class))))
      (λ f. not-waits w p b 0 (row_count w) 0 f ∙ sym f)
  left-pending (suc g) = rw (lt-ltb 0 (suc g) (omega arith))

  -- what is bound at the end of the walk is the binding
  pub binding-end : (g : ℕ) → binding_at w p b (row_count w) g ≡ binding w p b g
  unfolding binding_at goto_label
  binding-end g = case-of (is_class w goto g)
      (λ t.
      let c = is_one (class w g) goto t in
      rw (t, binding_at) (sym (binding-goto w p b g (branch-label w p b g (branch-goto (class w g) c)) c)))
      (λ t. rw (t, binding_at))

  module _ (c : Checker) (at : CheckerAt w p b (row_count w) c) where
    left-start : Left w p b c 0 c
    left-start = record {
      left_is = sym (rw (each-zero (unresolved w p b)) (error-none c));
      used-by = λ d t.
          let (g, e) = at.used-by d t in
          let (h, br, i) = use-of w p b (row_count w) g d e in
          (g, h, uses-binding w p b d g br (sym (binding-end g) ∙ i));
      bound-used = at.is-used;
      named-used = λ d g h. absurd (omega arith);
    }

    -- ---- one row further
    module _ (n : ℕ) (c' : Checker) (row : n < row_count w) (left : Left w p b c n c') where
      left-more : (us : List ℕ) (fs : List Fault) → unresolved w p b n ≡ fs
          → error fs (with-used us c') ≡ error (each (unresolved w p b) (suc n)) (with-used us c)
      left-more us fs e = ap (λ (s : Checker). error fs (with-used us s)) left.left_is ∙ error-each (with-used us c) (unresolved w p b) n fs e

      -- a row that names no label
      left-same : (fs : List Fault) → unresolved w p b n ≡ fs → ((d : ℕ) → pending w p b (row_count w) n ≡ true → declared w p b n ≡ some d → ⊥)
          → Left w p b c (suc n) (error fs c')
      left-same fs e none_named = record {
        left_is = left-more c'.used fs e;
        used-by = left.used-by;
        bound-used = left.bound-used;
        named-used = λ d g h q f. elim (ℕ_discrete g n) [
          | yes i ↦ absurd (none_named d (rw i at q) (rw i at f))
          | no o ↦ left.named-used d g (omega arith) q f
        ];
      }

      -- a pending goto of a declared label
      left-marked : (d : ℕ) → pending w p b (row_count w) n ≡ true → declared w p b n ≡ some d
          → Left w p b c (suc n) (error (fault w 7 n ∷ []) (label_set_used d c'))
      left-marked d q e = record {
        left_is = left-more (d ∷ c'.used) (fault w 7 n ∷ []) (unresolved-declared w p b n d q e);
        used-by = λ k t. elim (contains-cases k d c'.used t) [
          | inl i ↦ (
            n,
            row,
            uses-pending w p b k n (branch-goto (class w n) (is-pending w p b (row_count w) n q).gotos) q (e ∙ ap some (sym i)),
          )
          | inr u ↦ left.used-by k u
        ];
        bound-used = λ k g u. contains-kept k d c'.used (left.bound-used k g u);
        named-used = λ k g h r f. elim (ℕ_discrete g n) [
          | yes i ↦ let j : some k ≡ some d = sym f ∙ ap (declared w p b) i ∙ e in contains-own k d c'.used (cc)
          | no o ↦ contains-kept k d c'.used (left.named-used k g (omega arith) r f)
        ];
      }

      -- its name in the scope
      looked : lookup w p b (ident w p b n) c'.all ≡ before (row_count w) (declared w p b n)
      looked = ap (λ (s : Checker). lookup w p b (ident w p b n) s.all) left.left_is ∙ rw at.all_are (lookup-all body (row_count w) n)

      looked-declared : (d : ℕ) → declared w p b n ≡ some d → lookup w p b (ident w p b n) c'.all ≡ some d
      looked-declared d e =
          looked ∙ before-is (row_count w) d (declared w p b n) e (omega (arith, (is_declared_lem w p b n d e).0))

      looked-none : declared w p b n ≡ none → lookup w p b (ident w p b n) c'.all ≡ none
      looked-none e = looked ∙ ap (before (row_count w)) e

      -- a jump marks the label that its 7 names
      jump-left : pending w p b (row_count w) n ≡ true → Left w p b c (suc n) (left_jump w p b n c')
      unfolding left_jump
      jump-left q = case-found (declared w p b n)
          (λ d e. rw (looked-declared d e, left_jump) (left-marked d q e))
          (λ e. rw (looked-none e, left_jump)
          (left-same (fault w 8 n ∷ []) (unresolved-none w p b n q e) (λ d r f. clash (cc))))

      none_left : pending w p b (row_count w) n ≡ false → Left w p b c (suc n) c'
      none_left q = rw (error-none c') at (left-same [] (unresolved-not w p b n q) (λ d r f. clash (cc)))

    pub left-all : Left w p b c (row_count w) (through (left_jump w p b) (jumps_at w p b 0 (row_count w)) c)
    unfolding jumps_at
    left-all = through-passing (left_jump w p b) (waits w p b 0 (row_count w)) (Left w p b c) c left-start (row_count w)
        (λ n c' row t left. jump-left n c' row left (sym (left-pending n) ∙ t))
        (λ n c' row f left. none_left n c' row left (sym (left-pending n) ∙ f))

  -- ---- what is used then
  pub left-used : (c c' : Checker) → Left w p b c (row_count w) c' → (d : ℕ) → contains d c'.used ≡ used w p b d
  left-used c c' left d =
      case-of (used w p b d)
      (λ t.
      let (g, h, u) = is-used w p b d t in
      let (br, by) = uses-cases w p b d g u in
      let row : g < row_count w = omega arith in
      elim by [
        | inl e ↦ left.bound-used d g (use-branch w p b (row_count w) g row br ∙ binding-end g ∙ e)
        | inr y ↦ left.named-used d g row y.0 y.1
      ] ∙ sym t)
      (λ f. case-of (contains d c'.used)
      (λ t. let (g, h, u) = left.used-by d t in absurd (clash (cc (used-is w p b d g (omega arith) u))))
      (λ t. t ∙ sym f))
