-- The laws of a goto: the label that it is bound to, before it or after it, whether it is pending, and the latest declaration before a label.
-- Assumes nothing.
use mathlib.Core.Path.{◌≡◌, sym, ◌∙◌}
use mathlib.Core.Bool.{Bool, true, false, ◌&&◌, not}
use mathlib.Core.Logic.{◌⊎◌, inl, inr}
use mathlib.Core.List.{List}
use mathlib.Core.Option.{none, some}
use Prim.Native.Nat.{ℕ, ◌<◌, ◌≤◌}
use lib.Dec.{ltb}
use borrow.Author.Tests.{ltb-true, lt-ltb, le-ltb, not-true}
use Rattle.rules.specs.Rows.{row_count, end}
use Rattle.rules.specs.Class.{declaration, goto, class}
use Rattle.rules.specs.Scope.{list_of, in_list_of}
use Rattle.rules.specs.Labels.{is_some, is, is_class, labels, declared, earlier, later, goto_label, latest_declaration, pending}
use Rattle.rules.proofs.Test.{case-of, case-found, clash, and-true}
use Rattle.rules.proofs.Scan.{lowest-none, none-lowest, lowest-found, lowest-first, found-lowest, highest-found, highest-last, highest-none}
use Rattle.rules.proofs.Scan.{found-highest}
use Rattle.rules.proofs.ClassTests.{one-is}
use Rattle.rules.proofs.Found.{is_found, found-is, is_none}
use Rattle.rules.proofs.Every.{is_one}
use Rattle.rules.proofs.LabelRows.{is_declared_lem}

-- ---- in_list_of
module _ (w : List ℕ) (r g : ℕ) where
  pub list-some : (l : ℕ) → list_of w r ≡ some l → in_list_of w r g ≡ (ltb l g && ltb g (end w l))
  unfolding in_list_of
  list-some l e = rw (e, in_list_of)

  pub list-none : list_of w r ≡ none → in_list_of w r g ≡ false
  unfolding in_list_of
  list-none e = rw (e, in_list_of)

  pub in_list : in_list_of w r g ≡ true → (l : ℕ) × (list_of w r ≡ some l) × (l < g) × (g < end w l)
  in_list t = case-found (list_of w r)
      (λ l e.
      let x = and-true (ltb l g) (ltb g (end w l)) (sym (list-some l e) ∙ t) in
      (l, e, ltb-true l g x.0, ltb-true g (end w l) x.1))
      (λ e. absurd (clash (cc (list-none e))))

module _ (w p b : List ℕ) where
  -- ---- earlier
  pub is-earlier : (g d : ℕ) → earlier w p b g ≡ some d → (declared w p b g ≡ some d) × (d < g) × (in_list_of w d g ≡ true)
  unfolding earlier
  is-earlier g d e = case-found (declared w p b g)
      (λ k f. case-of (ltb k g && in_list_of w k g)
      (λ t.
      let z : some k ≡ some d = rw (f, t, earlier) at e in
      let i : k ≡ d = cc in
      let x = and-true (ltb d g) (in_list_of w d g) (rw i at t) in
      (rw i at f, ltb-true d g x.0, x.1))
      (λ t. let z : none ≡ some d = rw (f, t, earlier) at e in absurd (clash (cc))))
      (λ f. let z : none ≡ some d = rw (f, earlier) at e in absurd (clash (cc)))

  pub earlier-is : (g d : ℕ) → declared w p b g ≡ some d → d < g → in_list_of w d g ≡ true → earlier w p b g ≡ some d
  unfolding earlier
  earlier-is g d e h t = rw (e, lt-ltb d g h, t, earlier)

  pub earlier-after : (g d : ℕ) → declared w p b g ≡ some d → g ≤ d → earlier w p b g ≡ none
  unfolding earlier
  earlier-after g d e h = rw (e, le-ltb d g h, earlier)

  pub earlier-outside : (g d : ℕ) → declared w p b g ≡ some d → in_list_of w d g ≡ false → earlier w p b g ≡ none
  unfolding earlier
  earlier-outside g d e f = case-of (ltb d g) (λ t. rw (e, t, f, earlier)) (λ t. rw (e, t, earlier))

  pub earlier-none : (g : ℕ) → declared w p b g ≡ none → earlier w p b g ≡ none
  unfolding earlier
  earlier-none g e = rw (e, earlier)

  -- ---- later

  -- the label r, after the goto g, has its name and a list around it
  abbrev pub is_later : ℕ → ℕ → Bool
  is_later g r = ltb g r && (labels w p b g r && in_list_of w r g)

  pub later-parts : (g r : ℕ) → is_later g r ≡ true → (g < r) × (labels w p b g r ≡ true) × (in_list_of w r g ≡ true)
  later-parts g r t =
      let x = and-true (ltb g r) (labels w p b g r && in_list_of w r g) t in
      let y = and-true (labels w p b g r) (in_list_of w r g) x.1 in
      (ltb-true g r x.0, y.0, y.1)

  pub parts-later : (g r : ℕ) → g < r → labels w p b g r ≡ true → in_list_of w r g ≡ true → is_later g r ≡ true
  parts-later g r h t u = rw (lt-ltb g r h, t, u)

  pub is_later_lem : (x g r : ℕ) → later w p b x g ≡ some r → (r < x) × (is_later g r ≡ true)
  unfolding later
  is_later_lem x g r e = lowest-found (is_later g) x r e

  pub later_first : (x g r k : ℕ) → later w p b x g ≡ some r → k < r → is_later g k ≡ false
  unfolding later
  later_first x g r k e h = lowest-first (is_later g) x r k e h

  pub later-is : (x g r : ℕ) → r < x → is_later g r ≡ true → ((k : ℕ) → k < r → is_later g k ≡ false) → later w p b x g ≡ some r
  unfolding later
  later-is x g r h t below = found-lowest (is_later g) x r h t below

  pub later-none : (x g k : ℕ) → later w p b x g ≡ none → k < x → is_later g k ≡ false
  unfolding later
  later-none x g k e h = lowest-none (is_later g) x k e h

  pub none-later : (x g : ℕ) → ((k : ℕ) → k < x → is_later g k ≡ false) → later w p b x g ≡ none
  unfolding later
  none-later x g h = none-lowest (is_later g) x h

  -- ---- goto_label
  pub goto-earlier : (g d : ℕ) → earlier w p b g ≡ some d → goto_label w p b g ≡ some d
  unfolding goto_label
  goto-earlier g d e = rw (e, goto_label)

  pub goto-later : (g : ℕ) → earlier w p b g ≡ none → goto_label w p b g ≡ later w p b (row_count w) g
  unfolding goto_label
  goto-later g e = rw (e, goto_label)

  pub goto-label : (g d : ℕ) → goto_label w p b g ≡ some d → (d < row_count w) × (labels w p b g d ≡ true) × (in_list_of w d g ≡ true)
  goto-label g d e = case-found (earlier w p b g)
      (λ k f.
      let i : k ≡ d = cc (goto-earlier g k f) in
      let x = is-earlier g d (rw i at f) in
      let y = is_declared_lem w p b g d x.0 in
      (y.0, y.1, x.2))
      (λ f.
      let x = is_later_lem (row_count w) g d (sym (goto-later g f) ∙ e) in
      let y = later-parts g d x.1 in
      (x.0, y.1, y.2))

  -- ---- latest_declaration

  -- d is a declaration item of the list of r
  pub record Declares (r d : ℕ) : Type 0 where
    pub declares : class w d ≡ declaration
    pub list : (l : ℕ) × (list_of w r ≡ some l) × (list_of w d ≡ some l)

  abbrev declaring : ℕ → ℕ → Bool
  declaring r d = is_class w declaration d && elim (list_of w r) [ none ↦ false | some l ↦ is (list_of w d) l ]

  declaring-is : (r d : ℕ) → Declares r d → declaring r d ≡ true
  declaring-is r d x =
      let (l, e, f) = x.list in
      rw (one-is (class w d) declaration x.declares, e) (found-is (list_of w d) l f)

  is-declaring : (r d : ℕ) → declaring r d ≡ true → Declares r d
  is-declaring r d t =
      let y = and-true (is_class w declaration d) (elim (list_of w r) [ none ↦ false | some l ↦ is (list_of w d) l ]) t in
      record {
        declares = is_one (class w d) declaration y.0;
        list = case-found (list_of w r)
            (λ l e. (l, e, is_found (list_of w d) l (rw e at y.1)))
            (λ e. let z : false ≡ true = rw e at y.1 in absurd (clash (cc)));
      }

  pub is-latest : (r d : ℕ) → latest_declaration w p b r ≡ some d → (d < r) × Declares r d
  unfolding latest_declaration
  is-latest r d e = let x = highest-found (declaring r) r d e in (x.0, is-declaring r d x.1)

  pub latest-last : (r d k : ℕ) → latest_declaration w p b r ≡ some d → d < k → k < r → Declares r k → ⊥
  unfolding latest_declaration
  latest-last r d k e h l x = clash (cc (highest-last (declaring r) r d k e h l, declaring-is r k x))

  pub latest-is : (r d : ℕ) → d < r → Declares r d → ((k : ℕ) → d < k → k < r → Declares r k → ⊥) → latest_declaration w p b r ≡ some d
  unfolding latest_declaration
  latest-is r d h x above =
      found-highest (declaring r) r d h (declaring-is r d x)
      (λ k a l. case-of (declaring r k) (λ t. absurd (above k a l (is-declaring r k t))) (λ f. f))

  pub latest-none : (r k : ℕ) → latest_declaration w p b r ≡ none → k < r → Declares r k → ⊥
  unfolding latest_declaration
  latest-none r k e h x = clash (cc (highest-none (declaring r) r k e h, declaring-is r k x))

  -- ---- pending
  pub record Pending (x g : ℕ) : Type 0 where
    pub gotos : class w g ≡ goto
    pub no-earlier : earlier w p b g ≡ none
    pub no-later : later w p b x g ≡ none

  pub pending-is : (x g : ℕ) → Pending x g → pending w p b x g ≡ true
  unfolding pending
  pending-is x g y = rw (one-is (class w g) goto y.gotos, y.no-earlier, y.no-later, pending)

  pub is-pending : (x g : ℕ) → pending w p b x g ≡ true → Pending x g
  unfolding pending
  is-pending x g t =
      let no-earlier = not (is_some (earlier w p b g)) in
      let no-later = not (is_some (later w p b x g)) in
      let c = and-true (is_class w goto g) (no-earlier && no-later) t in
      let d = and-true no-earlier no-later c.1 in
      record {
        gotos = is_one (class w g) goto c.0;
        no-earlier = is_none (earlier w p b g) (not-true (is_some (earlier w p b g)) d.0);
        no-later = is_none (later w p b x g) (not-true (is_some (later w p b x g)) d.1);
      }

  -- a row that is no such goto is not pending
  pub not-pending : (x g : ℕ) → (Pending x g → ⊥) → pending w p b x g ≡ false
  not-pending x g n = case-of (pending w p b x g) (λ t. absurd (n (is-pending x g t))) (λ f. f)

  -- a goto that is not pending has its label
  pub resolved : (x g : ℕ) → class w g ≡ goto → pending w p b x g ≡ false →
      ((d : ℕ) × (earlier w p b g ≡ some d)) ⊎ ((earlier w p b g ≡ none) × ((r : ℕ) × (later w p b x g ≡ some r)))
  resolved x g c f = case-found (earlier w p b g)
      (λ d e. inl (d, e))
      (λ e. case-found (later w p b x g)
      (λ r l. inr (e, (r, l)))
      (λ l. absurd (clash (cc (pending-is x g (record { gotos = c; no-earlier = e; no-later = l }))))))

  pub some-goto-label : (g : ℕ) → class w g ≡ goto → pending w p b (row_count w) g ≡ false → (d : ℕ) × (goto_label w p b g ≡ some d)
  some-goto-label g c f = elim (resolved (row_count w) g c f) [
    | inl x ↦ (x.0, goto-earlier g x.0 x.1)
    | inr x ↦ (x.1.0, goto-later g x.0 ∙ x.1.1)
  ]
