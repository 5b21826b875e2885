-- The rows that change nothing by themselves, and the rows without rows below them. The next row begins where such a row ends, so what it leaves of the walk's
-- state is its own work: on the checker, the context and the blocks, each by its own laws.
-- Assumes nothing.
use mathlib.Core.Path.{◌≡◌, refl, sym, ◌∙◌, ap}
use mathlib.Core.Bool.{Bool, true, false, ◌||◌, not}
use mathlib.Core.List.{List, [], ◌∷◌, ◌++◌}
use mathlib.Core.Option.{none, some}
use Prim.Native.Nat.{ℕ, suc, ◌≤◌, ◌<◌}
use native.Mathlib.Omega.{arith}
use native.Mathlib.Decide.{ℕ_discrete}
use borrow.Author.Tests.{not-true}
use Rattle.rules.specs.Scan.{lowest}
use Rattle.rules.specs.Rows.{row_count, position, name, end}
use Rattle.rules.specs.Class.{Class, plain, declaration, empty, labeled, stop, break, continue, goto, fallthrough, one_of, is_branch, is_breakable, is_loop, class}
use Rattle.rules.specs.Body.{Body}
use Rattle.rules.specs.Refusals.{nothing, holding}
use Rattle.rules.specs.Scope.{is_list, list_of}
use Rattle.rules.specs.Labels.{fault, is_label, earlier, pending, needs, target, valid_target}
use Rattle.rules.proofs.Test.{case-of, case-found, clash, or-false}
use Rattle.rules.proofs.Every.{every}
use Rattle.rules.proofs.RowNames.{goto-named}
use Rattle.rules.proofs.BreakRows.{valid-found, valid-none, labelled-is}
use Rattle.rules.proofs.ClassRules.{by_one, class-rule}
use Rattle.rules.proofs.BindingRows.{branch-label}
use Rattle.rules.proofs.LabelRows.{other-label}
use Rattle.walk_state.proofs.WalkPending.{pending-other, pending-earlier}
use Rattle.goscript.specs.Build.{original, Build}
use Rattle.goscript.specs.Syntax.{ident}
use Rattle.goscript.specs.Block.{goto_target, enclosing_target}
use Rattle.goscript.specs.Context.{Context, record_var_decl, with_jumps}
use Rattle.goscript.specs.Checker.{error}
use Rattle.goscript.specs.Label.{State, in_checker, in_ctx, valid, record_label_use, labelled_break, goto_branch, labelled, stmt_branches}
use Rattle.goscript.proofs.Walking.{CheckerAt, ContextAt, At}
use Rattle.goscript.proofs.CheckerRows.{break_code, quiet_row, fallthrough-labelled, unlabelled, break-invalid, break-valid, goto-bound, goto-waits}
use Rattle.goscript.proofs.CheckerRows.{uses-blocks, uses-ctx}
use Rattle.goscript.proofs.ContextRows.{context-same, context-declares, context-waits}
use Rattle.goscript.proofs.BlockRows.{visible-earlier, blocks-same}
use Rattle.goscript.proofs.Stacked.{Stacked, target_is}
use Rattle.goscript.proofs.Arms.{is_quiet, has-label, has-none, break-used, break-reported, goto-used, goto-pushed, at-quiet, at-declaration}
use Rattle.goscript.proofs.Arms.{at-break, at-continue, at-goto, at-fallthrough}

-- neither label, branch nor declaration
abbrev pub is_other : Class → Bool
is_other c = not (is_branch c || one_of (labeled ∷ declaration ∷ []) c)

quiet-other : (c : Class) → is_quiet c ≡ true → is_other c ≡ true
unfolding every lowest
quiet-other = class-rule is_quiet is_other refl

-- ---- a row that changes nothing by itself
pub passed-row : {w p b : List ℕ} (body : Body w p b) (l x : ℕ) (s : State) → is_branch (class w x) ≡ false → is_label w p b x ≡ false
    → (class w x ≡ declaration → ⊥) → At w p b l x s → At w p b l (suc x) s
passed-row {w} {p} {b} body l x s f n d a = record {
  checker = quiet_row body x s.checker f n a.checker;
  ctx = context-same l x s.ctx n (pending-other w p b (suc x) x (λ e. let z : false ≡ true = sym f ∙ rw e in clash (cc))) (λ e i. d e) a.ctx;
  blocks = blocks-same body l x s.blocks (λ t e. clash (cc)) a.blocks;
}

module _ (w : List ℕ) (x : ℕ) (o : is_other (class w x) ≡ true) where
  pub no-labeled : class w x ≡ labeled → ⊥
  no-labeled e = let z : false ≡ true = rw e at o in clash (cc)

  pub passed : {p b : List ℕ} (body : Body w p b) (l : ℕ) (s : State) → At w p b l x s → At w p b l (suc x) s
  passed {p} {b} body l s a = passed-row body l x s (or-false (is_branch (class w x)) (one_of (labeled ∷ declaration ∷ []) (class w x)) (not-true _ o)).0
      (other-label w p b x no-labeled) (λ e. let z : false ≡ true = rw e at o in clash (cc)) a

-- ---- what a statement leaves

-- the current label after the statement x: as before or, in stock, that of a statement in x, where x is a label
pub data Leaves (build : Build) (w p b : List ℕ) (x : ℕ) (s s' : State) : Type 0 where
  kept : s'.ctx.lstmt ≡ s.ctx.lstmt → Leaves build w p b x s s'
  left : class w x ≡ labeled → build.A ≡ original → (t : ℕ) → s'.ctx.lstmt ≡ some t → is_label w p b t ≡ true → t < row_count w → end w t ≤ end w x
      → Leaves build w p b x s s'

pub record Walked (build : Build) (w p b : List ℕ) (l x : ℕ) (s s' : State) : Type 0 where
  pub state : At w p b l (end w x) s'
  pub targets-kept : (n : List ℕ) → enclosing_target w p b n s'.blocks ≡ enclosing_target w p b n s.blocks
  pub current : Leaves build w p b x s s'

module _ (build : Build) {w p b : List ℕ} (body : Body w p b) (l x : ℕ) (row : x < row_count w) (s : State) where
  -- a row without rows below, where neither the blocks nor the current label change
  leaf : (s' : State) → holding (class w x) ≡ nothing → s'.blocks ≡ s.blocks → s'.ctx.lstmt ≡ s.ctx.lstmt
      → CheckerAt w p b (suc x) s'.checker → ContextAt w p b l (suc x) s'.ctx → At w p b l x s → is_label w p b x ≡ false → Walked build w p b l x s s'
  leaf s' h e i c k a n =
      let one : end w x ≡ suc x = omega (arith, body.leaf x row h) in
      record {
        state = rw one (record { checker = c; ctx = k; blocks = rw e (blocks-same body l x s.blocks (λ t d. clash (cc)) a.blocks) });
        targets-kept = λ m. ap (enclosing_target w p b m) e;
        current = kept i;
      }

  -- ---- rows that are neither labels nor branches
  pub quiet-walked : (f : ℕ) → is_quiet (class w x) ≡ true → At w p b l x s → Walked build w p b l x s (stmt_branches build w p b (suc f) x s)
  quiet-walked f t a =
      let o = quiet-other (class w x) t in
      let z = passed w x o body l s a in
      let h : holding (class w x) ≡ nothing = by_one _ (plain ∷ empty ∷ stop ∷ []) (class w x) t (λ e. rw e) (λ e. rw e) (λ e. rw e) in
      rw (at-quiet build w p b f x s t) (leaf s h refl refl z.checker z.ctx a (other-label w p b x (no-labeled w x o)))

  pub declaration-walked : (f : ℕ) → class w x ≡ declaration → list_of w x ≡ some l → At w p b l x s
      → Walked build w p b l x s (stmt_branches build w p b (suc f) x s)
  declaration-walked f e i a =
      let n = other-label w p b x (λ c. clash (cc)) in
      rw (at-declaration build w p b f x s e)
      (leaf (in_ctx (record_var_decl (position w x)) s) (rw e) refl refl
      (quiet_row body x s.checker (rw e) n a.checker) (context-declares l x s.ctx e i a.ctx) a n)

  -- ---- branches
  module _ (t : is_branch (class w x) ≡ true) (h : holding (class w x) ≡ nothing) (d : class w x ≡ declaration → ⊥) (a : At w p b l x s) where
    no_label : is_label w p b x ≡ false
    no_label = branch-label w p b x t

    -- the checker alone changes, and no goto waits
    branch-walked : (s' : State) → s'.blocks ≡ s.blocks → s'.ctx ≡ s.ctx → pending w p b (suc x) x ≡ false → CheckerAt w p b (suc x) s'.checker
        → Walked build w p b l x s s'
    branch-walked s' e i f c = leaf s' h e (ap (λ (k : Context). k.lstmt) i) c (rw i (context-same l x s.ctx no_label f (λ e i. d e) a.ctx)) a no_label

    -- without a label nothing does
    unlabelled-walked : (s' : State) → (class w x ≡ goto → ⊥) → name w x ≡ 0 → Walked build w p b l x s (labelled w x s' s)
    unlabelled-walked s' n z = rw (has-none w p b x s s' z)
        (branch-walked s refl refl (pending-other w p b (suc x) x n) (unlabelled body x row s.checker t z a.checker))

  pub fallthrough-walked : (f : ℕ) → class w x ≡ fallthrough → At w p b l x s → Walked build w p b l x s (stmt_branches build w p b (suc f) x s)
  fallthrough-walked f e a = rw (at-fallthrough build w p b f x s e) (elim (ℕ_discrete (name w x) 0) [
    | yes z ↦ unlabelled-walked (rw e) (rw e) (λ c. clash (cc)) a _ (λ c. clash (cc)) z
    | no n ↦ rw (has-label w p b x s (in_checker (error (fault w 6 x ∷ [])) s) n)
        (branch-walked (rw e) (rw e) (λ c. clash (cc)) a (in_checker (error (fault w 6 x ∷ [])) s) refl refl (pending-other w p b (suc x) x (λ c. clash (cc)))
        (fallthrough-labelled body x s.checker e (omega arith) a.checker))
  ])

  -- a goto binds to what it sees, or waits
  pub goto-walked : (f : ℕ) → class w x ≡ goto → l < x → x < end w l → At w p b l x s → Walked build w p b l x s (stmt_branches build w p b (suc f) x s)
  goto-walked f e h m a =
      rw (at-goto build w p b f x s e, has-label w p b x s (goto_branch w p b x s) (λ z. omega (arith, goto-named body x row e)))
      (case-found (earlier w p b x) bound waits)
    where
      sees : goto_target w p b (ident w p b x) s.blocks ≡ earlier w p b x
      sees = a.blocks.gotos x h (omega arith) m ∙ visible-earlier w p b x

      bound : (t : ℕ) → earlier w p b x ≡ some t → Walked build w p b l x s (goto_branch w p b x s)
      bound t i = rw (goto-used w p b x s t (sees ∙ i)) (branch-walked (rw e) (rw e) (λ c. clash (cc)) a (record_label_use w p b x s)
          (uses-blocks w p b x s) (uses-ctx w p b x s) (pending-earlier w p b (suc x) x t i) (goto-bound body x row e s t i a.checker))

      waits : earlier w p b x ≡ none → Walked build w p b l x s (goto_branch w p b x s)
      waits i = rw (goto-pushed w p b x s (sees ∙ i)) (leaf (in_ctx (with_jumps (s.ctx.fwd_jumps ++ x ∷ [])) s) (rw e) refl refl
          (goto-waits body x row e s.checker i a.checker) (context-waits l x s.ctx h e i a.ctx) a (no_label (rw e) (rw e) (λ c. clash (cc)) a))

  -- a break or continue is bound where its target is of the kinds that it needs
  module _ (k : Class) (kinds : Class → Bool) (e : class w x ≡ k) (breaks : one_of (break ∷ continue ∷ []) k ≡ true) (same : (c : Class) → needs k c ≡ kinds c)
      (t : is_branch (class w x) ≡ true) (h : holding (class w x) ≡ nothing) (d : class w x ≡ declaration → ⊥) (n : class w x ≡ goto → ⊥)
      {i : ℕ} (in_rows : l < row_count w) (lists : is_list (class w l) ≡ true) (st : Stacked w l i x) (a : At w p b l x s) where
    its-target : 0 < name w x → enclosing_target w p b (ident w p b x) s.blocks ≡ target w p b x
    its-target z =
        a.blocks.targets x (omega (arith, st.after, st.upto)) st.inside (labelled-is w p b x (record { breaks = rw e breaks; has-name = z }))
        ∙ sym (target_is body in_rows lists st)

    valid_same : 0 < name w x → valid w kinds (enclosing_target w p b (ident w p b x) s.blocks) ≡ valid_target w p b x
    valid_same z = ap (valid w kinds) (its-target z) ∙ case-found (target w p b x)
        (λ g f. rw f (sym (valid-found w p b x g f ∙ ap (λ (c : Class). needs c (class w (suc g))) e ∙ same (class w (suc g)))))
        (λ f. rw f (sym (valid-none w p b x f)))

    break-walked : Walked build w p b l x s (labelled w x (labelled_break w p b kinds (break_code k) x s) s)
    break-walked = elim (ℕ_discrete (name w x) 0) [
      | yes z ↦ unlabelled-walked t h d a _ n z
      | no o ↦ rw (has-label w p b x s (labelled_break w p b kinds (break_code k) x s) o) (case-of (valid_target w p b x)
          (λ v. rw (break-used w p b x s kinds (break_code k) (valid_same (omega arith) ∙ v)) (branch-walked t h d a (record_label_use w p b x s)
          (uses-blocks w p b x s) (uses-ctx w p b x s) (pending-other w p b (suc x) x n)
          (break-valid body x row k e breaks (omega arith) s v a.checker)))
          (λ v. rw (break-reported w p b x s kinds (break_code k) (valid_same (omega arith) ∙ v)) (branch-walked t h d a
          (in_checker (error (fault w (break_code k) x ∷ [])) s) refl refl (pending-other w p b (suc x) x n)
          (break-invalid body x row k e breaks (omega arith) s.checker v a.checker))))
    ]

  module _ (f : ℕ) {i : ℕ} (in_rows : l < row_count w) (lists : is_list (class w l) ≡ true) (st : Stacked w l i x) (a : At w p b l x s) where
    pub breaks-walked : class w x ≡ break → Walked build w p b l x s (stmt_branches build w p b (suc f) x s)
    breaks-walked e = rw (at-break build w p b f x s e)
        (break-walked break is_breakable e refl (λ c. refl) (rw e) (rw e) (λ i. clash (cc)) (λ i. clash (cc)) in_rows lists st a)

    pub continues-walked : class w x ≡ continue → Walked build w p b l x s (stmt_branches build w p b (suc f) x s)
    continues-walked e = rw (at-continue build w p b f x s e)
        (break-walked continue is_loop e refl (λ c. refl) (rw e) (rw e) (λ i. clash (cc)) (λ i. clash (cc)) in_rows lists st a)
