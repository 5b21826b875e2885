-- What a kind alone says of the class and of what stands below the row: each rule is one test over the table of the allowed details.
-- Assumes nothing.
use mathlib.Core.Path.{◌≡◌, refl, sym, ◌∙◌, ap}
use mathlib.Core.Bool.{Bool, true, false, ◌&&◌, ◌||◌, not, or-false}
use mathlib.Core.List.{List, [], ◌∷◌}
use Prim.Native.Nat.{ℕ, zero, suc}
use lib.Dec.{eqb}
use lib.ListN.{get_or}
use borrow.Author.Tests.{eqb-true, ne_eqb}
use Rattle.rules.specs.Scan.{lowest}
use Rattle.rules.specs.Class.{Class, empty, labeled, block, if, if_else, switch, select, one_of, is_branch, is_switch, is_loop, is_breakable, is_case, is_comm}
use Rattle.rules.specs.Class.{is_statement, is_default, detail_allowed, class_of}
use Rattle.rules.specs.Scope.{holds_items}
use Rattle.rules.specs.Refusals.{Holding, nothing, statement, body, branches, statements, cases, comms, holding, may_hold}
use Rattle.rules.proofs.Every.{every, same, same-eq, implies, implied}
use Rattle.rules.proofs.Details.{of-allowed}

-- ---- a number that is none of a few, as the last arm of a match knows it
abbrev pub among : List ℕ → ℕ → Bool
among [] k = false
among (n ∷ ns) k = eqb k n || among ns k

abbrev pub NoneOf : List ℕ → ℕ → Type 0
NoneOf [] k = Unit
NoneOf (n ∷ ns) k = NoneOf ns k × (k ≡ n → ⊥)

pub none-among : (ns : List ℕ) (k : ℕ) → NoneOf ns k → among ns k ≡ false
none-among [] k h = refl
none-among (n ∷ ns) k h = rw (ne_eqb k n h.1, none-among ns k h.0)

pub among-last : (k m n : ℕ) → (k ≡ m → ⊥) → eqb k n ≡ among (m ∷ n ∷ []) k
among-last k m n h = rw (ne_eqb k m h, or-false)

-- ---- tests of the class that are tests of the kind
pub by_kind : (P : ℕ → Bool) (Q : Class → Bool)
    → every 21 (λ k. every 4 (λ d. implies (detail_allowed k d) (same (P k) (Q (class_of k d))))) ≡ true
    → (k d : ℕ) → detail_allowed k d ≡ true → P k ≡ Q (class_of k d)
by_kind P Q e k d a = same-eq (P k) (Q (class_of k d)) (of-allowed (λ j i. same (P j) (Q (class_of j i))) e k d a)

abbrev pub switches : List ℕ
switches = 16 ∷ 15 ∷ []

module _ (k d : ℕ) (a : detail_allowed k d ≡ true) where
  pub kind-block : eqb k 12 ≡ one_of (block ∷ []) (class_of k d)
  unfolding every lowest detail_allowed class_of
  kind-block = by_kind (λ j. eqb j 12) (one_of (block ∷ [])) refl k d a

  pub kind-branch : among (13 ∷ 12 ∷ []) k ≡ one_of (block ∷ if ∷ if_else ∷ []) (class_of k d)
  unfolding every lowest detail_allowed class_of
  kind-branch = by_kind (among (13 ∷ 12 ∷ [])) (one_of (block ∷ if ∷ if_else ∷ [])) refl k d a

  pub kind-case : eqb k 14 ≡ is_case (class_of k d)
  unfolding every lowest detail_allowed class_of
  kind-case = by_kind (λ j. eqb j 14) is_case refl k d a

  pub kind-comm : eqb k 17 ≡ is_comm (class_of k d)
  unfolding every lowest detail_allowed class_of
  kind-comm = by_kind (λ j. eqb j 17) is_comm refl k d a

  -- a default is a Case or Comm of detail 1
  pub kind-default : (eqb d 1 && among (14 ∷ 17 ∷ []) k) ≡ is_default (class_of k d)
  unfolding every lowest detail_allowed class_of
  kind-default = same-eq (eqb d 1 && among (14 ∷ 17 ∷ []) k) (is_default (class_of k d))
      (of-allowed (λ j i. same (eqb i 1 && among (14 ∷ 17 ∷ []) j) (is_default (class_of j i))) refl k d a)

  pub kind-statement : not (among (14 ∷ 17 ∷ []) k) ≡ is_statement (class_of k d)
  unfolding every lowest detail_allowed class_of
  kind-statement = by_kind (λ j. not (among (14 ∷ 17 ∷ []) j)) is_statement refl k d a

  pub kind-switch : among switches k ≡ is_switch (class_of k d)
  unfolding every lowest detail_allowed class_of
  kind-switch = by_kind (among switches) is_switch refl k d a

  pub kind-expression-switch : eqb k 15 ≡ one_of (switch ∷ []) (class_of k d)
  unfolding every lowest detail_allowed class_of
  kind-expression-switch = by_kind (λ j. eqb j 15) (one_of (switch ∷ [])) refl k d a

  pub kind-select : eqb k 18 ≡ one_of (select ∷ []) (class_of k d)
  unfolding every lowest detail_allowed class_of
  kind-select = by_kind (λ j. eqb j 18) (one_of (select ∷ [])) refl k d a

  pub kind-items : among (12 ∷ 14 ∷ 17 ∷ []) k ≡ holds_items (class_of k d)
  unfolding every lowest detail_allowed class_of
  kind-items = by_kind (among (12 ∷ 14 ∷ 17 ∷ [])) holds_items refl k d a

  pub kind-labeled : eqb k 3 ≡ one_of (labeled ∷ []) (class_of k d)
  unfolding every lowest detail_allowed class_of
  kind-labeled = by_kind (λ j. eqb j 3) (one_of (labeled ∷ [])) refl k d a

  pub kind-empty : eqb k 2 ≡ one_of (empty ∷ []) (class_of k d)
  unfolding every lowest detail_allowed class_of
  kind-empty = by_kind (λ j. eqb j 2) (one_of (empty ∷ [])) refl k d a

  pub kind-jump : eqb k 11 ≡ is_branch (class_of k d)
  unfolding every lowest detail_allowed class_of
  kind-jump = by_kind (λ j. eqb j 11) is_branch refl k d a

  pub kind-loop : among (19 ∷ 20 ∷ []) k ≡ is_loop (class_of k d)
  unfolding every lowest detail_allowed class_of
  kind-loop = by_kind (among (19 ∷ 20 ∷ [])) is_loop refl k d a

  pub kind-breakable : among (20 ∷ 19 ∷ 18 ∷ 16 ∷ 15 ∷ []) k ≡ is_breakable (class_of k d)
  unfolding every lowest detail_allowed class_of
  kind-breakable = by_kind (among (20 ∷ 19 ∷ 18 ∷ 16 ∷ 15 ∷ [])) is_breakable refl k d a

-- ---- what stands below the row, compared by number
abbrev holding_number : Holding → ℕ
holding_number h = elim h [ nothing ↦ 0 | statement ↦ 1 | body ↦ 2 | branches ↦ 3 | statements ↦ 4 | cases ↦ 5 | comms ↦ 6 ]

abbrev holding_numbered : ℕ → Holding
holding_numbered n = get_or (nothing ∷ statement ∷ body ∷ branches ∷ statements ∷ cases ∷ comms ∷ []) n nothing

numbered : (h : Holding) → holding_numbered (holding_number h) ≡ h
numbered h = elim h as (λ k. holding_numbered (holding_number k) ≡ k) [ nothing ↦ refl | statement ↦ refl | body ↦ refl | branches ↦ refl | statements ↦ refl | cases ↦ refl | comms ↦ refl ]

abbrev same_holding : Holding → Holding → Bool
same_holding g h = eqb (holding_number g) (holding_number h)

is-holding : (g h : Holding) → same_holding g h ≡ true → g ≡ h
is-holding g h e = sym (numbered g) ∙ ap holding_numbered (eqb-true (holding_number g) (holding_number h) e) ∙ numbered h

-- kinds that pass hold what H says
holding-by : (P : ℕ → Bool) (H : ℕ → Holding)
    → every 21 (λ k. every 4 (λ d. implies (detail_allowed k d) (implies (P k) (same_holding (holding (class_of k d)) (H k))))) ≡ true
    → (k d : ℕ) → detail_allowed k d ≡ true → P k ≡ true → holding (class_of k d) ≡ H k
holding-by P H e k d a p =
    is-holding (holding (class_of k d)) (H k)
    (implied (P k) (same_holding (holding (class_of k d)) (H k)) (of-allowed (λ j i. implies (P j) (same_holding (holding (class_of j i)) (H j))) e k d a) p)

-- but for If, the kind says it as its first detail does
pub first-detail : (k d : ℕ) → detail_allowed k d ≡ true → eqb k 13 ≡ false → holding (class_of k d) ≡ holding (class_of k 0)
unfolding every lowest detail_allowed class_of
first-detail k d a n = holding-by (λ j. not (eqb j 13)) (λ j. holding (class_of j 0)) refl k d a (rw n)

-- the kinds with something below them
abbrev pub holders : List ℕ
holders = 20 ∷ 19 ∷ 18 ∷ 17 ∷ 16 ∷ 15 ∷ 14 ∷ 13 ∷ 12 ∷ 3 ∷ []

pub leaf-kind : (k d : ℕ) → detail_allowed k d ≡ true → NoneOf holders k → holding (class_of k d) ≡ nothing
unfolding every lowest detail_allowed class_of
leaf-kind k d a n = holding-by (λ j. not (among holders j)) (λ j. nothing) refl k d a (ap not (none-among holders k n))

-- ---- whether child number i may be of a kind
module _ (k d : ℕ) (a : detail_allowed k d ≡ true) (i : ℕ) where
  pub one_statement : i ≡ 0 → is_statement (class_of k d) ≡ may_hold statement i (class_of k d)
  one_statement z = rw z

  pub one_block : i ≡ 0 → eqb k 12 ≡ may_hold body i (class_of k d)
  one_block z = kind-block k d a ∙ rw z

  pub first_block : i ≡ 0 → eqb k 12 ≡ may_hold branches i (class_of k d)
  first_block z = kind-block k d a ∙ rw z

  pub second-if : i ≡ 1 → k ≡ 13 → true ≡ may_hold branches i (class_of k d)
  second-if o e = sym (ap (among (13 ∷ 12 ∷ [])) e) ∙ kind-branch k d a ∙ rw o

  pub second_block : i ≡ 1 → (k ≡ 13 → ⊥) → eqb k 12 ≡ may_hold branches i (class_of k d)
  second_block o n = among-last k 13 12 n ∙ kind-branch k d a ∙ rw o

pub no-second-statement : (c : Class) (i : ℕ) → (i ≡ 0 → ⊥) → false ≡ may_hold statement i c
no-second-statement c zero n = absurd (n refl)
no-second-statement c (suc j) n = refl

pub no-second-block : (c : Class) (i : ℕ) → (i ≡ 0 → ⊥) → false ≡ may_hold body i c
no-second-block c zero n = absurd (n refl)
no-second-block c (suc j) n = refl

pub no_third : (c : Class) (i : ℕ) → (i ≡ 0 → ⊥) → (i ≡ 1 → ⊥) → false ≡ may_hold branches i c
no_third c zero n m = absurd (n refl)
no_third c (suc zero) n m = absurd (m refl)
no_third c (suc (suc k)) n m = refl
