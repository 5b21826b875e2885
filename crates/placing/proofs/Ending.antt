-- Where a fallthrough ends a Case, read from the words that name each row's list:
-- its list is the innermost row around it that holds items, and so is the Block around a Case, right before which the switch is.
-- Assumes nothing.
use mathlib.Core.Path.{◌≡◌, refl, sym, ◌∙◌, ap}
use mathlib.Core.Bool.{Bool, true, false, ◌&&◌}
use mathlib.Core.List.{List, [], ◌∷◌}
use mathlib.Core.Option.{Option, none, some}
use Prim.Native.Nat.{ℕ, suc, ◌+◌, ◌-◌, ◌≤◌, ◌<◌}
use native.Mathlib.Omega.{arith}
use native.Mathlib.Decide.{ℕ_discrete}
use native.Mathlib.Numerals.{add-one}
use lib.ListN.{get_or}
use borrow.Author.Tests.{eqb-true, eq-eqb, lt-ltb, le-ltb}
use Rattle.rules.specs.Rows.{row_count, kind, detail, end}
use Rattle.rules.specs.Class.{empty, case_block, switch, one_of, is_switch, is_case, is_statement, detail_allowed, class}
use Rattle.rules.specs.Scope.{is_list, innermost, list_of, only_empty, next_case}
use Rattle.rules.specs.Labels.{word}
use Rattle.rules.specs.Placing.{ends_case}
use Rattle.rules.proofs.Test.{case-of, clash}
use Rattle.rules.proofs.Every.{is_one}
use Rattle.rules.proofs.Around.{AllEmpty, innermost-found, only-empty}
use Rattle.rules.proofs.Lists.{row-empty, statement-list, case-home, case-switch}
use Rattle.rules.proofs.Placed.{ends-none, ends_by, in-switch}
use Rattle.placing.specs.Reach.{FormedLists}

-- ---- Empty rows, by their kind
module _ (w : List ℕ) (r : ℕ) (a : detail_allowed (kind w r) (detail w r) ≡ true) where
  pub empty-row : kind w r ≡ 2 → class w r ≡ empty
  empty-row z = is_one (class w r) empty (sym (row-empty w r (kind w r) refl a) ∙ eq-eqb (kind w r) 2 z)

  pub not-only-empty : (c x : ℕ) → (kind w r ≡ 2 → ⊥) → c ≤ r → r < x → false ≡ only_empty w c x
  not-only-empty c x n h l = case-of (only_empty w c x)
      (λ t.
      let y : one_of (empty ∷ []) (class w r) ≡ true = rw (only-empty w c x t r h l) in
      let z = row-empty w r (kind w r) refl a ∙ y in
      absurd (n (eqb-true (kind w r) 2 z)))
      (λ f. sym f)

pub all_more : (w : List ℕ) (c r : ℕ) → AllEmpty w c r → class w r ≡ empty → AllEmpty w c (r + 1)
all_more w c r a e k h l = elim (ℕ_discrete k r) [ yes y ↦ rw y e | no n ↦ a k h (omega arith) ]

-- ---- the words, as rows
pub row-none : (o : Option ℕ) → 0 ≡ word o → o ≡ none
row-none (some k) e = absurd (omega arith)
row-none none e = refl

pub row-some : (o : Option ℕ) (c : ℕ) → suc c ≡ word o → o ≡ some c
row-some (some k) c e = let i : k ≡ c = omega arith in ap some i
row-some none c e = absurd (omega arith)

module _ {w l : List ℕ} (f : FormedLists w l) (r : ℕ) (h : r < row_count w) where
  -- a statement's word is its list
  pub list-word : (v : ℕ) → is_statement (class w r) ≡ true → v ≡ get_or l r 0 → v ≡ word (list_of w r)
  list-word v s e = e ∙ f.listed r h ∙ ap word (sym (statement-list f.formed.2 r h s))

  -- which is a row before it
  pub list-before : (c : ℕ) → list_of w r ≡ some c → c < r
  unfolding list_of
  list-before c e = (innermost-found w is_list r c e).before

  -- a Case's word is the Block of its switch
  pub home-word : (u : ℕ) → is_case (class w r) ≡ true → u ≡ get_or l r 0 → u ≡ word (innermost w (one_of (case_block ∷ [])) r)
  home-word u t e =
      let body = f.formed.2 in
      let some-row : 0 < r = elim (ℕ_discrete r 0) [
        | yes z ↦ let x : false ≡ true = rw (z, body.root_class) at t in absurd (clash (cc))
        | no n ↦ omega arith
      ] in
      e ∙ f.listed r h ∙ ap word (sym (case-home body r h some-row t))

  -- and right before that Block is its switch
  pub switch-before : (s : ℕ) → is_case (class w r) ≡ true → innermost w (one_of (case_block ∷ [])) r ≡ some s
      → (1 ≤ s) × (innermost w is_switch r ≡ some (s - 1))
  switch-before s t e =
      let (q, before, found) = case-switch f.formed.2 r s h t e in
      let same : q ≡ s - 1 = omega arith in
      (omega arith, found ∙ ap some same)

-- ---- what ends a Case
module _ (w : List ℕ) (r : ℕ) where
  pub no-list : list_of w r ≡ none → false ≡ ends_case w r
  unfolding next_case
  no-list f = sym (ends-none w r (rw (f, next_case)))

  module _ (c : ℕ) (f : list_of w r ≡ some c) where
    pub no-case : is_case (class w c) ≡ false → false ≡ ends_case w r
    unfolding next_case
    no-case t = sym (ends-none w r (rw (f, next_case, t)))

    module _ (t : is_case (class w c) ≡ true) where
      pub no-home : innermost w (one_of (case_block ∷ [])) c ≡ none → false ≡ ends_case w r
      unfolding next_case
      no-home g = sym (ends-none w r (rw (f, next_case, t, g)))

      module _ (s : ℕ) (g : innermost w (one_of (case_block ∷ [])) c ≡ some s) where
        pub last-case : end w s ≤ end w c → false ≡ ends_case w r
        unfolding next_case
        last-case l = sym (ends-none w r (rw (f, next_case, t, g, le-ltb (end w c) (end w s) l)))

        module _ (l : end w c < end w s) (q : ℕ) (i : innermost w is_switch c ≡ some q) where
          by-switch : ends_case w r ≡ (one_of (switch ∷ []) (class w q) && only_empty w (suc r) (end w c))
          unfolding next_case
          by-switch =
              ends_by w r (end w c) c (rw (f, next_case, t, g, lt-ltb (end w c) (end w s) l)) f
              ∙ ap (λ (x : Bool). x && only_empty w (suc r) (end w c)) (in-switch w c q i)

          pub type-switch : one_of (switch ∷ []) (class w q) ≡ false → false ≡ ends_case w r
          type-switch n = rw (by-switch, n)

          pub by-rest : one_of (switch ∷ []) (class w q) ≡ true → only_empty w (r + 1) (end w c) ≡ ends_case w r
          by-rest y = rw (add-one, by-switch, y)
