-- goscript's statement rule, list rule, rule of a switch and break search with one call made: one law for each group of classes that they treat alike.
-- Nobody else opens these definitions.
-- Assumes nothing.
use mathlib.Core.Path.{◌≡◌, refl}
use mathlib.Core.Bool.{Bool, true, false, ◌&&◌, ◌||◌, not}
use mathlib.Core.List.{List, [], ◌∷◌}
use mathlib.Core.Option.{Option, none, some}
use Prim.Native.Nat.{ℕ, suc, ◌+◌}
use borrow.Author.Tests.{eq-eqb, ne_eqb}
use Rattle.rules.specs.Rows.{name, size, end}
use Rattle.rules.specs.Class.{Class, plain, declaration, empty, labeled, stop, break, continue, goto, fallthrough, block, if, if_else, case, default_case}
use Rattle.rules.specs.Class.{comm, default_comm, switch, type_switch, select, for, for_cond, one_of, is_switch, is_breakable, class}
use Rattle.rules.specs.Scope.{is_list}
use Rattle.rules.proofs.Test.{case-of}
use Rattle.rules.proofs.ClassRules.{is_never, is_always, by_one, breakable-one}
use Rattle.goscript.specs.Build.{Build}
use Rattle.goscript.specs.Syntax.{any, all, find_last, list, ident}
use Rattle.goscript.specs.Returns.{is, is_some, handed_label, handed_implicit, non_empty, is_terminating, is_terminating_list, is_terminating_switch}
use Rattle.goscript.specs.Returns.{has_break, has_break_list, verdict}

-- ---- lists of rows
module _ (P : ℕ → Bool) where
  pub any_none : any P [] ≡ false
  unfolding any
  any_none = refl

  pub any-more : (x : ℕ) (l : List ℕ) → any P (x ∷ l) ≡ (P x || any P l)
  unfolding any
  any-more x l = refl

  pub all_none : all P [] ≡ true
  unfolding all
  all_none = refl

  pub all_more : (x : ℕ) (l : List ℕ) → all P (x ∷ l) ≡ (P x && all P l)
  unfolding all
  all_more x l = refl

  pub last_none : find_last P [] ≡ none
  unfolding find_last
  last_none = refl

  pub last-later : (x y : ℕ) (l : List ℕ) → find_last P l ≡ some y → find_last P (x ∷ l) ≡ some y
  unfolding find_last
  last-later x y l e = rw (e, find_last)

  pub last-here : (x : ℕ) (l : List ℕ) → find_last P l ≡ none → P x ≡ true → find_last P (x ∷ l) ≡ some x
  unfolding find_last
  last-here x l e t = rw (e, find_last, t)

  pub last-passed : (x : ℕ) (l : List ℕ) → find_last P l ≡ none → P x ≡ false → find_last P (x ∷ l) ≡ none
  unfolding find_last
  last-passed x l e t = rw (e, find_last, t)

-- none fails exactly where all pass
pub none-fails : (A B : ℕ → Bool) (l : List ℕ) → not (any (λ x. not (A x) || B x) l) ≡ all (λ x. A x && not (B x)) l
unfolding any all
none-fails A B [] = refl
none-fails A B (x ∷ l) = case-of (A x) (λ t. case-of (B x) (λ u. rw (t, u)) (λ u. rw (t, u) (none-fails A B l))) (λ t. rw t)

-- the classes below which no break stands, and which are none themselves
abbrev pub is_breakless : Class → Bool
is_breakless = one_of (plain ∷ declaration ∷ empty ∷ stop ∷ continue ∷ goto ∷ fallthrough ∷ [])

module _ (build : Build) (w p b : List ℕ) where
  module _ (f s : ℕ) (label : Option (List ℕ)) where
    -- ---- the statement rule
    pub statement-never : is_never (class w s) ≡ true → is_terminating build w p b (suc f) s label ≡ false
    unfolding is_terminating
    statement-never t = by_one _ (plain ∷ declaration ∷ empty ∷ break ∷ continue ∷ if ∷ for_cond ∷ []) (class w s) t
        (λ e. rw (e, is_terminating)) (λ e. rw (e, is_terminating)) (λ e. rw (e, is_terminating)) (λ e. rw (e, is_terminating))
        (λ e. rw (e, is_terminating)) (λ e. rw (e, is_terminating)) (λ e. rw (e, is_terminating))

    pub statement-always : is_always (class w s) ≡ true → is_terminating build w p b (suc f) s label ≡ true
    unfolding is_terminating
    statement-always t = by_one _ (stop ∷ goto ∷ fallthrough ∷ []) (class w s) t
        (λ e. rw (e, is_terminating)) (λ e. rw (e, is_terminating)) (λ e. rw (e, is_terminating))

    pub statement-labeled : class w s ≡ labeled
        → is_terminating build w p b (suc f) s label ≡ is_terminating build w p b f (suc s) (some (ident w p b s))
    unfolding is_terminating
    statement-labeled e = rw (e, is_terminating)

    pub statement-block : class w s ≡ block → is_terminating build w p b (suc f) s label ≡ is_terminating_list build w p b f (list w s) none
    unfolding is_terminating
    statement-block e = rw (e, is_terminating)

    pub statement-if_else : class w s ≡ if_else → is_terminating build w p b (suc f) s label
        ≡ (is_terminating_list build w p b f (list w (suc s)) none && is_terminating build w p b f (end w (suc s)) none)
    unfolding is_terminating
    statement-if_else e = rw (e, is_terminating)

    pub statement-switch : is_switch (class w s) ≡ true
        → is_terminating build w p b (suc f) s label ≡ is_terminating_switch build w p b f (list w (suc s)) label
    unfolding is_terminating
    statement-switch t = by_one _ (switch ∷ type_switch ∷ []) (class w s) t (λ e. rw (e, is_terminating)) (λ e. rw (e, is_terminating))

    pub statement-select : class w s ≡ select → is_terminating build w p b (suc f) s label
        ≡ not (any (λ x. not (is_terminating_list build w p b f (list w x) none) || has_break_list build w p b f (list w x) label true) (list w (suc s)))
    unfolding is_terminating
    statement-select e = rw (e, is_terminating)

    pub statement-for : class w s ≡ for → is_terminating build w p b (suc f) s label ≡ not (has_break_list build w p b f (list w (suc s)) label true)
    unfolding is_terminating
    statement-for e = rw (e, is_terminating)

    -- ---- the break search
    module _ (implicit : Bool) where
      pub search-breakless : is_breakless (class w s) ≡ true → has_break build w p b (suc f) s label implicit ≡ false
      unfolding has_break
      search-breakless t = by_one _ (plain ∷ declaration ∷ empty ∷ stop ∷ continue ∷ goto ∷ fallthrough ∷ []) (class w s) t
          (λ e. rw (e, has_break)) (λ e. rw (e, has_break)) (λ e. rw (e, has_break)) (λ e. rw (e, has_break))
          (λ e. rw (e, has_break)) (λ e. rw (e, has_break)) (λ e. rw (e, has_break))

      pub search-labeled : class w s ≡ labeled → has_break build w p b (suc f) s label implicit
          ≡ has_break build w p b f (suc s) (handed_label build (ident w p b s) label) implicit
      unfolding has_break
      search-labeled e = rw (e, has_break)

      pub search-plain : class w s ≡ break → name w s ≡ 0 → has_break build w p b (suc f) s label implicit ≡ implicit
      unfolding has_break
      search-plain e z = rw (e, has_break, eq-eqb (name w s) 0 z)

      pub search-named : class w s ≡ break → (name w s ≡ 0 → ⊥) → has_break build w p b (suc f) s label implicit ≡ is (ident w p b s) label
      unfolding has_break
      search-named e n = rw (e, has_break, ne_eqb (name w s) 0 n)

      pub search-list : is_list (class w s) ≡ true
          → has_break build w p b (suc f) s label implicit ≡ has_break_list build w p b f (list w s) label implicit
      unfolding has_break
      search-list t = by_one _ (block ∷ case ∷ default_case ∷ comm ∷ default_comm ∷ []) (class w s) t
          (λ e. rw (e, has_break)) (λ e. rw (e, has_break)) (λ e. rw (e, has_break)) (λ e. rw (e, has_break)) (λ e. rw (e, has_break))

      pub search-if : class w s ≡ if → has_break build w p b (suc f) s label implicit ≡ has_break_list build w p b f (list w (suc s)) label implicit
      unfolding has_break
      search-if e = rw (e, has_break)

      pub search-if_else : class w s ≡ if_else → has_break build w p b (suc f) s label implicit
          ≡ (has_break_list build w p b f (list w (suc s)) label implicit || has_break build w p b f (end w (suc s)) label implicit)
      unfolding has_break
      search-if_else e = rw (e, has_break)

      pub search-breakable : is_breakable (class w s) ≡ true → has_break build w p b (suc f) s label implicit
          ≡ (is_some label && has_break_list build w p b f (list w (suc s)) label (handed_implicit build implicit))
      unfolding has_break
      search-breakable t = by_one _ (switch ∷ type_switch ∷ select ∷ for ∷ for_cond ∷ []) (class w s) (breakable-one (class w s) t)
          (λ e. rw (e, has_break)) (λ e. rw (e, has_break)) (λ e. rw (e, has_break)) (λ e. rw (e, has_break)) (λ e. rw (e, has_break))

  -- ---- the rules of a list, and of a switch
  module _ (f : ℕ) (l : List ℕ) (label : Option (List ℕ)) where
    pub list-empty : find_last (non_empty w) l ≡ none → is_terminating_list build w p b (suc f) l label ≡ false
    unfolding is_terminating
    list-empty e = rw (e, is_terminating_list)

    pub list-last : (s : ℕ) → find_last (non_empty w) l ≡ some s → is_terminating_list build w p b (suc f) l label ≡ is_terminating build w p b f s label
    unfolding is_terminating
    list-last s e = rw (e, is_terminating_list)

    pub switch-clauses : is_terminating_switch build w p b (suc f) l label
        ≡ (all (λ s. is_terminating_list build w p b f (list w s) none && not (has_break_list build w p b f (list w s) label true)) l
        && any (λ s. one_of (default_case ∷ []) (class w s)) l)
    unfolding is_terminating
    switch-clauses = refl

    pub list-search : (implicit : Bool) → has_break_list build w p b (suc f) l label implicit ≡ any (λ x. has_break build w p b f x label implicit) l
    unfolding has_break
    list-search implicit = refl

  -- ---- the verdict
  pub verdict-is : verdict build w p b ≡ is_terminating build w p b (suc (size w 0 + size w 0)) 0 none
  unfolding verdict
  verdict-is = refl
