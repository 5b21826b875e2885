-- What each row does to the context of a list. A goto that is pending at a row was pending at the rows before, so whether it jumps over a declaration
-- changes only where the list declares something; and of the pending gotos in the list, a label of the list resolves those of its name.
-- Assumes nothing.
use mathlib.Core.Path.{◌≡◌, sym, ◌∙◌, ap}
use mathlib.Core.Bool.{Bool, true, false, ◌&&◌, not, and-false, and-true as and_yes}
use mathlib.Core.List.{List, [], ◌∷◌, ◌++◌}
use mathlib.Core.Option.{Option, none, some}
use Prim.Native.Nat.{ℕ, suc, ◌≤◌, ◌<◌}
use native.Mathlib.Omega.{arith}
use native.Mathlib.Decide.{dec_lt}
use lib.Dec.{ltb}
use borrow.Author.Tests.{lt-ltb, le-ltb, ltb-true}
use Rattle.rules.specs.Rows.{row_count, position, end}
use Rattle.rules.specs.Class.{declaration, labeled, goto, class}
use Rattle.rules.specs.Names.{same_bytes}
use Rattle.rules.specs.Scope.{is_list, list_of, in_list_of}
use Rattle.rules.specs.Body.{Body}
use Rattle.rules.specs.Labels.{is, is_class, is_label, earlier, later, pending}
use Rattle.rules.proofs.Test.{case-of, clash, and-true}
use Rattle.rules.proofs.ClassTests.{one-is}
use Rattle.rules.proofs.Every.{is_one}
use Rattle.rules.proofs.Found.{is_found, found-is}
use Rattle.rules.proofs.Scan.{none-highest, highest-yes, highest-no}
use Rattle.rules.proofs.Around.{innermost-found}
use Rattle.rules.proofs.LabelRows.{other-label, is-labels, labels-is}
use Rattle.rules.proofs.RowNames.{same-sym}
use Rattle.rules.proofs.GotoRows.{list-some, is_later, later-parts, parts-later, later-none, none-later, pending-is, is-pending}
use Rattle.walk_state.specs.Walk.{latest_in}
use Rattle.walk_state.proofs.WalkPending.{pending-same, pending-found, pending-other, pending-own}
use Rattle.walk_state.proofs.WalkBindings.{not-later}
use Rattle.tables.proofs.Labelling.{label-class}
use Rattle.goscript.specs.Syntax.{filter, contains, ident}
use Rattle.goscript.specs.Context.{Context, new, record_var_decl, with_jumps, with_lstmt}
use Rattle.goscript.proofs.SameNames.{same-ident}
use Rattle.goscript.proofs.Passing.{passing, passing-none, passing-yes, passing-no, passing-same, contains-passing, filter-passing}
use Rattle.goscript.proofs.Walking.{jumps_at, ContextAt}

-- ---- the list of a row is around it, and around what stands between
pub list-around : (w : List ℕ) (l d : ℕ) → list_of w d ≡ some l → (l < d) × (d < end w l)
unfolding list_of
list-around w l d e = let i = innermost-found w is_list d l e in (i.before, i.reaches)

pub in-its-list : (w : List ℕ) (l d g : ℕ) → list_of w d ≡ some l → l < g → g < d → in_list_of w d g ≡ true
in-its-list w l d g e h m = list-some w d g l e ∙ rw (lt-ltb l g h, lt-ltb g (end w l) (omega (arith, (list-around w l d e).1)))

module _ (w p b : List ℕ) where
  -- ---- the pending gotos
  abbrev pub waits : ℕ → ℕ → ℕ → Bool
  waits l x g = ltb l g && pending w p b x g

  -- what is pending at one row is so at another where no label before that one resolves it
  pub pending-at : (x y g : ℕ) → later w p b x g ≡ none → pending w p b y g ≡ true → pending w p b x g ≡ true
  pending-at x y g n t =
      let i = is-pending w p b y g t in
      pending-is w p b x g (record { gotos = i.gotos; no-earlier = i.no-earlier; no-later = n })

  -- so at every row before
  pub pending-before : (x y g : ℕ) → x ≤ y → pending w p b y g ≡ true → pending w p b x g ≡ true
  pending-before x y g h t =
      pending-at x y g (none-later w p b x g (λ k l. later-none w p b y g k (is-pending w p b y g t).no-later (omega arith))) t

  pub not-waits : (l x g : ℕ) → pending w p b x g ≡ false → waits l x g ≡ false
  not-waits l x g f = rw (f, and-false (ltb l g))

  -- a row that is no label changes none of those before it
  waits-same : (l x : ℕ) → is_label w p b x ≡ false → passing (waits l (suc x)) x ≡ jumps_at w p b l x
  unfolding jumps_at
  waits-same l x n = passing-same (waits l (suc x)) (waits l x) x (λ g h. rw (pending-same w p b x g (not-later w p b x g n)))

  -- ---- the latest declaration of the list
  abbrev pub declares : ℕ → ℕ → Bool
  declares l d = is_class w declaration d && is (list_of w d) l

  pub not-declares : (l d : ℕ) → (class w d ≡ declaration → list_of w d ≡ some l → ⊥) → declares l d ≡ false
  not-declares l d n = case-of (declares l d)
      (λ t.
      let a = and-true (is_class w declaration d) (is (list_of w d) l) t in
      absurd (n (is_one (class w d) declaration a.0) (is_found (list_of w d) l a.1)))
      (λ f. f)

  latest-none : (l : ℕ) → latest_in w p b l (suc l) ≡ none
  unfolding latest_in
  latest-none l = none-highest (declares l) (suc l) (λ d h. not-declares l d (λ c e. omega (arith, (list-around w l d e).0)))

  latest-own : (l x : ℕ) → class w x ≡ declaration → list_of w x ≡ some l → latest_in w p b l (suc x) ≡ some x
  unfolding latest_in
  latest-own l x c e = highest-yes (declares l) x (rw (one-is (class w x) declaration c, found-is (list_of w x) l e))

  latest-same : (l x : ℕ) → (class w x ≡ declaration → list_of w x ≡ some l → ⊥) → latest_in w p b l (suc x) ≡ latest_in w p b l x
  unfolding latest_in
  latest-same l x n = highest-no (declares l) x (not-declares l x n)

  -- ---- from row x to row y: where no declaration of the list comes, only the jumps change
  pub context-kept : (l x y : ℕ) (ctx : Context) (jumps : List ℕ) → x ≤ y → latest_in w p b l y ≡ latest_in w p b l x → jumps ≡ jumps_at w p b l y
      → ContextAt w p b l x ctx → ContextAt w p b l y (with_jumps jumps ctx)
  context-kept l x y ctx jumps h e j c = record {
    jumps-are = j;
    over-is = λ g m t. rw e (c.over-is g m (λ k. pending-before x y g h (t (omega arith))));
    position-is = λ d f. c.position-is d (sym e ∙ f);
  }

  -- ---- the jumps, one row further
  jumps-no : (l x : ℕ) → is_label w p b x ≡ false → pending w p b (suc x) x ≡ false → jumps_at w p b l (suc x) ≡ jumps_at w p b l x
  unfolding jumps_at
  jumps-no l x n f = passing-no (waits l (suc x)) x (not-waits l (suc x) x f) ∙ waits-same l x n

  jumps-yes : (l x : ℕ) → l < x → is_label w p b x ≡ false → pending w p b (suc x) x ≡ true → jumps_at w p b l (suc x) ≡ jumps_at w p b l x ++ x ∷ []
  unfolding jumps_at
  jumps-yes l x h n t = passing-yes (waits l (suc x)) x (rw (lt-ltb l x h, t)) ∙ ap (λ (js : List ℕ). js ++ x ∷ []) (waits-same l x n)

  -- a goto from row x on is none of them, and one before it that is pending is one
  jumps-contain : (l x g : ℕ) → l < g → (g < x → pending w p b x g ≡ true) → contains g (jumps_at w p b l x) ≡ ltb g x
  unfolding jumps_at
  jumps-contain l x g h t = contains-passing (waits l x) x g ∙ elim (dec_lt g x) [
    | yes k ↦ rw (lt-ltb g x k, lt-ltb l g h, t k)
    | no k ↦ rw (le-ltb g x (omega arith))
  ]

  -- ---- the jumps at a label of the list: those of another name stay
  abbrev other : ℕ → ℕ → Bool
  other x g = not (same_bytes (ident w p b g) (ident w p b x))

  waits-label : (l x g : ℕ) → is_label w p b x ≡ true → list_of w x ≡ some l → g < x → waits l (suc x) g ≡ (waits l x g && other x g)
  waits-label l x g t e h = case-of (ltb l g)
      (λ u. rw u (case-of (same_bytes (ident w p b g) (ident w p b x))
      (λ v.
      let names = labels-is w p b g x t (same-sym w p b g x (sym (same-ident w p b g x) ∙ v)) in
      let z = parts-later w p b g x h names (in-its-list w l x g e (ltb-true l g u) h) in
      rw (v, pending-found w p b x g z, and-false (pending w p b x g)))
      (λ v.
      let z : is_later w p b g x ≡ false = case-of (is_later w p b g x)
      (λ y. let s = same-sym w p b x g (is-labels w p b g x (later-parts w p b g x y).1).1 in absurd (clash (cc (same-ident w p b g x))))
      (λ y. y) in
      rw (v, pending-same w p b x g z, and_yes (pending w p b x g)))))
      (λ u. rw u)

  jumps-label : (l x : ℕ) → class w x ≡ labeled → is_label w p b x ≡ true → list_of w x ≡ some l
      → filter (other x) (jumps_at w p b l x) ≡ jumps_at w p b l (suc x)
  unfolding jumps_at
  jumps-label l x c t e =
      filter-passing (other x) (waits l x) x
      ∙ sym (passing-no (waits l (suc x)) x (not-waits l (suc x) x (pending-other w p b (suc x) x (λ f. clash (cc))))
      ∙ passing-same (waits l (suc x)) (λ g. waits l x g && other x g) x (λ g h. waits-label l x g t e h))

module _ {w p b : List ℕ} where
  -- a new list: nothing waits, nothing is declared
  pub context-new : (l : ℕ) (lstmt : Option ℕ) → ContextAt w p b l (suc l) (new lstmt)
  unfolding jumps_at
  context-new l lstmt = record {
    jumps-are = sym (passing-none (waits w p b l (suc l)) (suc l) (λ k h. rw (le-ltb l k (omega arith))));
    over-is = λ g m t. rw (latest-none w p b l);
    position-is = λ d e. absurd (clash (cc (latest-none w p b l)));
  }

  -- the current label has no part in it
  pub context-lstmt : (l x : ℕ) (ctx : Context) (lstmt : Option ℕ) → ContextAt w p b l x ctx → ContextAt w p b l x (with_lstmt lstmt ctx)
  context-lstmt l x ctx lstmt c = record { jumps-are = c.jumps-are; over-is = c.over-is; position-is = c.position-is }

  -- a row of no interest: no label, no goto that waits, no declaration of this list
  pub context-same : (l x : ℕ) (ctx : Context) → is_label w p b x ≡ false → pending w p b (suc x) x ≡ false
      → (class w x ≡ declaration → list_of w x ≡ some l → ⊥) → ContextAt w p b l x ctx → ContextAt w p b l (suc x) ctx
  context-same l x ctx n f d c =
      context-kept w p b l x (suc x) ctx ctx.fwd_jumps (omega arith) (latest-same w p b l x d) (c.jumps-are ∙ sym (jumps-no w p b l x n f)) c

  -- a declaration of this list
  pub context-declares : (l x : ℕ) (ctx : Context) → class w x ≡ declaration → list_of w x ≡ some l → ContextAt w p b l x ctx
      → ContextAt w p b l (suc x) (record_var_decl (position w x) ctx)
  context-declares l x ctx d e c = record {
    jumps-are =
        c.jumps-are ∙ sym (jumps-no w p b l x (other-label w p b x (λ f. clash (cc))) (pending-other w p b (suc x) x (λ f. clash (cc))));
    over-is = λ g m t.
        rw (c.jumps-are, latest-own w p b l x d e)
        (jumps-contain w p b l x g m (λ k. pending-before w p b x (suc x) g (omega arith) (t (omega arith))));
    position-is = λ q f. let i : x ≡ q = cc (latest-own w p b l x d e) in ap (position w) i;
  }

  -- a goto that waits
  pub context-waits : (l x : ℕ) (ctx : Context) → l < x → class w x ≡ goto → earlier w p b x ≡ none → ContextAt w p b l x ctx
      → ContextAt w p b l (suc x) (with_jumps (ctx.fwd_jumps ++ x ∷ []) ctx)
  context-waits l x ctx h g e c =
      context-kept w p b l x (suc x) ctx (ctx.fwd_jumps ++ x ∷ []) (omega arith) (latest-same w p b l x (λ d i. clash (cc)))
      (ap (λ (js : List ℕ). js ++ x ∷ []) c.jumps-are
      ∙ sym (jumps-yes w p b l x h (other-label w p b x (λ d. clash (cc))) (pending-own w p b x g e)))
      c

  -- a label of this list: the jumps of its name go
  pub context-label : Body w p b → (l x : ℕ) (ctx : Context) → x < row_count w → is_label w p b x ≡ true → list_of w x ≡ some l → ContextAt w p b l x ctx
      → ContextAt w p b l (suc x) (with_lstmt (some x) (with_jumps (filter (other w p b x) ctx.fwd_jumps) ctx))
  context-label body l x ctx row t e c =
      let labels = label-class body x row t in
      context-lstmt l (suc x) (with_jumps (filter (other w p b x) ctx.fwd_jumps) ctx) (some x)
      (context-kept w p b l x (suc x) ctx (filter (other w p b x) ctx.fwd_jumps) (omega arith) (latest-same w p b l x (λ d i. clash (cc)))
      (ap (filter (other w p b x)) c.jumps-are ∙ jumps-label w p b l x labels t e) c)
