-- The gotos that the label x, not `_`, of the list l resolves: the jumps of the list that have its name. They stand before it in its list and are pending, so x
-- is the later label of each, and of no other goto that is pending. So each is bound to it, the others stay as they are, and those before the latest
-- declaration of the list are reported.
-- Assumes nothing.
use mathlib.Core.Path.{◌≡◌, sym, ◌∙◌, ap}
use mathlib.Core.Bool.{Bool, true, false, ◌&&◌}
use mathlib.Core.Logic.{inl, inr}
use mathlib.Core.List.{List, []}
use mathlib.Core.Option.{none, some}
use Prim.Native.Nat.{ℕ, suc, ◌<◌}
use native.Mathlib.Omega.{arith}
use lib.Dec.{ltb}
use borrow.Author.Tests.{ltb-true, lt-ltb}
use Rattle.rules.specs.Rows.{row_count, position}
use Rattle.rules.specs.Class.{declaration, goto, is_branch, class}
use Rattle.rules.specs.Scope.{list_of, in_list_of}
use Rattle.rules.specs.Body.{Body}
use Rattle.rules.specs.Labels.{Fault, only, is, is_class, word, is_label, labels, latest_declaration, pending, jumps_over}
use Rattle.rules.proofs.Test.{case-of, case-found, clash, and-true}
use Rattle.rules.proofs.Scan.{highest-same}
use Rattle.rules.proofs.Each.{none_only}
use Rattle.rules.proofs.ClassTests.{branch-goto, one-is}
use Rattle.rules.proofs.Every.{is_one}
use Rattle.rules.proofs.RowNames.{same-sym}
use Rattle.rules.proofs.LabelRows.{labels-is, is-labels}
use Rattle.rules.proofs.GotoRows.{in_list, is_later, later-parts, parts-later, is-pending, resolved}
use Rattle.rules.proofs.SheetRows.{is_over, is-over, jumps-none, jumps-some}
use Rattle.walk_state.specs.Walk.{binding_at, latest_in}
use Rattle.tables.proofs.Labelling.{label-class}
use Rattle.walk_state.proofs.WalkBindings.{at-goto, at-later, at_other, later-found, later-kept, binding-same}
use Rattle.goscript.specs.Context.{Context}
use Rattle.goscript.specs.Label.{var_decl}
use Rattle.goscript.proofs.SameNames.{same-ident}
use Rattle.goscript.proofs.Walking.{use_at, ContextAt, stands-before}
use Rattle.goscript.proofs.UseRows.{use-branch, use-same}
use Rattle.goscript.proofs.ContextRows.{in-its-list, waits, declares}
use Rattle.goscript.proofs.ResolveRows.{same_as, over_fault, over_report}

-- the latest declaration of the list of x
latest-in-list : (w p b : List ℕ) (l x : ℕ) → list_of w x ≡ some l → latest_declaration w p b x ≡ latest_in w p b l x
unfolding latest_declaration latest_in
latest-in-list w p b l x e = highest-same
    (λ d. is_class w declaration d && elim (list_of w x) [ none ↦ false | some k ↦ is (list_of w d) k ])
    (declares w p b l) x (λ d h. rw e)

-- the goto g of the list l waits at x and has the name of the label x
abbrev pub takes : List ℕ → List ℕ → List ℕ → ℕ → ℕ → ℕ → Bool
takes w p b l x g = waits w p b l x g && same_as w p b x g

module _ {w p b : List ℕ} (body : Body w p b) (l x : ℕ) (row : x < row_count w) (label : is_label w p b x ≡ true) (listed : list_of w x ≡ some l) where
  names : (g : ℕ) → same_as w p b x g ≡ true → labels w p b g x ≡ true
  names g t = labels-is w p b g x label (same-sym w p b g x (sym (same-ident w p b g x) ∙ t))

  named : (g : ℕ) → labels w p b g x ≡ true → same_as w p b x g ≡ true
  named g t = same-ident w p b g x ∙ same-sym w p b x g (is-labels w p b g x t).1

  record Taken (g : ℕ) : Type 0 where
    after : l < g
    waits : pending w p b x g ≡ true
    same-name : labels w p b g x ≡ true

  is-taken : (g : ℕ) → takes w p b l x g ≡ true → Taken g
  is-taken g t =
      let a = and-true (waits w p b l x g) (same_as w p b x g) t in
      let c = and-true (ltb l g) (pending w p b x g) a.0 in
      record { after = ltb-true l g c.0; waits = c.1; same-name = names g a.1 }

  taken_is : (g : ℕ) → Taken g → takes w p b l x g ≡ true
  taken_is g t = rw (lt-ltb l g t.after, t.waits) (named g t.same-name)

  -- ---- x is the later label of g
  module _ (g : ℕ) (h : g < x) where
    from-its-list : in_list_of w x g ≡ true → l < g
    from-its-list t =
        let (k, f, m, n) = in_list w x g t in
        let s : l ≡ k = cc in
        omega arith

    taken-later : Taken g → is_later w p b g x ≡ true
    taken-later t = parts-later w p b g x h t.same-name (in-its-list w l x g listed t.after h)

    later-taken : is_later w p b g x ≡ true → pending w p b x g ≡ true → Taken g
    later-taken t q =
        let k = later-parts w p b g x t in
        record { after = from-its-list k.2; waits = q; same-name = k.1 }

    -- ---- what it is bound to
    bound-taken : Taken g → binding_at w p b (suc x) g ≡ suc x
    bound-taken t =
        let q = is-pending w p b x g t.waits in
        at-later w p b (suc x) g q.gotos q.no-earlier ∙ ap word (later-found w p b x g (taken-later t) q.no-later)

    bound-waits : Taken g → binding_at w p b x g ≡ 0
    bound-waits t =
        let q = is-pending w p b x g t.waits in
        at-later w p b x g q.gotos q.no-earlier ∙ ap word q.no-later

    bound-kept : takes w p b l x g ≡ false → binding_at w p b (suc x) g ≡ binding_at w p b x g
    bound-kept f = case-of (is_later w p b g x)
        (λ t. case-of (pending w p b x g)
        (λ q. absurd (clash (cc (taken_is g (later-taken t q)))))
        (λ q. case-of (is_class w goto g)
        (λ c.
        let e = is_one (class w g) goto c in
        elim (resolved w p b x g e q) [
          | inl y ↦ at-goto w p b (suc x) g y.0 e y.1 ∙ sym (at-goto w p b x g y.0 e y.1)
          | inr y ↦
              at-later w p b (suc x) g e y.0 ∙ ap word (later-kept w p b x g y.1.0 y.1.1 ∙ sym y.1.1) ∙ sym (at-later w p b x g e y.0)
        ])
        (λ c.
        let n : class w g ≡ goto → ⊥ = λ e. clash (cc (one-is (class w g) goto e)) in
        at_other w p b (suc x) g n ∙ sym (at_other w p b x g n))))
        (λ u. binding-same w p b x g u)

    branch-taken : Taken g → is_branch (class w g) ≡ true
    branch-taken t = branch-goto (class w g) (is-pending w p b x g t.waits).gotos

    pub use-taken : takes w p b l x g ≡ true → use_at w p b (suc x) g ≡ suc x
    use-taken t = let k = is-taken g t in use-branch w p b (suc x) g (omega arith) (branch-taken k) ∙ bound-taken k

    pub use-waits : takes w p b l x g ≡ true → use_at w p b x g ≡ 0
    use-waits t = let k = is-taken g t in use-branch w p b x g h (branch-taken k) ∙ bound-waits k

    -- ---- what is reported of it
    pub over-taken : (ctx : Context) → ContextAt w p b l x ctx → takes w p b l x g ≡ true → over_report w ctx g ≡ jumps_over w p b x g
    over-taken ctx at t =
        let k = is-taken g t in
        let e = at.over-is g k.after (λ m. k.waits) in
        let over : ℕ → Fault = over_fault w g in
        case-found (latest_in w p b l x)
        (λ d f.
        let i : is_over w p b x g d ≡ ltb g d = rw (k.waits, k.same-name, in-its-list w l x g listed k.after h) in
        ap (λ (u : Bool). only u (over (var_decl ctx.var_decl_pos))) (e ∙ ap (stands-before w p b g) f)
        ∙ ap (λ (o : ℕ). only (ltb g d) (over o)) (at.position-is d f)
        ∙ sym (jumps-some w p b x g d (latest-in-list w p b l x listed ∙ f) ∙ rw i))
        (λ f.
        ap (λ (u : Bool). only u (over (var_decl ctx.var_decl_pos))) (e ∙ ap (stands-before w p b g) f)
        ∙ sym (jumps-none w p b x g (latest-in-list w p b l x listed ∙ f)))

    pub over-not : takes w p b l x g ≡ false → jumps_over w p b x g ≡ []
    over-not f = case-found (latest_declaration w p b x)
        (λ d e. jumps-some w p b x g d e ∙ none_only (is_over w p b x g d) (over_fault w g (position w d)) (case-of (is_over w p b x g d)
        (λ o.
        let k = is-over w p b x g d o in
        absurd (clash (cc (taken_is g (record { after = from-its-list k.in_list; waits = k.waits; same-name = k.names })))))
        (λ o. o)))
        (λ e. jumps-none w p b x g e)

  pub use-other : (g : ℕ) → (g < x → takes w p b l x g ≡ false) → use_at w p b (suc x) g ≡ use_at w p b x g
  use-other g h = use-same w p b x g
      (λ t. let z : false ≡ true = rw (label-class body x row label) at t in absurd (clash (cc)))
      (λ m. bound-kept g m (h m))
