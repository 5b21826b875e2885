-- A rule of a finite table is one test that computes at every entry, and one law that says it of each: for numbers below a bound, for pairs of them,
-- and for the classes, which are numbered.
-- Assumes nothing.
use mathlib.Core.Path.{◌≡◌, refl, sym, ◌∙◌, ap}
use mathlib.Core.Bool.{Bool, true, false, not}
use mathlib.Core.List.{[], ◌∷◌}
use mathlib.Core.Logic.{⊎_elim}
use mathlib.Core.Option.{none, some}
use Prim.Native.Nat.{ℕ, ◌<◌}
use lib.Dec.{eqb, lit<}
use lib.ListN.{get_or}
use borrow.Author.Tests.{eqb-true, not-false}
use Rattle.rules.specs.Scan.{lowest}
use Rattle.rules.specs.Class.{Class, plain, declaration, empty, labeled, stop, break, continue, goto, fallthrough, block, case_block, comm_block, if}
use Rattle.rules.specs.Class.{if_else, case, default_case, comm, default_comm, switch, type_switch, select, for, for_cond, code, one_of}
use Rattle.rules.proofs.Test.{case-found, clash, or-true}
use Rattle.rules.proofs.Scan.{lowest-none}

-- the test passes at each number below n
unfoldable pub every : ℕ → (ℕ → Bool) → Bool
every n P = elim (lowest (λ k. not (P k)) n) [ none ↦ true | some k ↦ false ]

pub every-at : (n : ℕ) (P : ℕ → Bool) → every n P ≡ true → (k : ℕ) → k < n → P k ≡ true
unfolding every
every-at n P e k h = case-found (lowest (λ j. not (P j)) n)
    (λ j f. let z : false ≡ true = rw (f, every) at e in absurd (clash (cc)))
    (λ f. not-false (P k) (lowest-none (λ j. not (P j)) n k f h))

pub every-pair : (n m : ℕ) (P : ℕ → ℕ → Bool) → every n (λ k. every m (P k)) ≡ true → (k d : ℕ) → k < n → d < m → P k d ≡ true
every-pair n m P e k d h l = every-at m (P k) (every-at n (λ j. every m (P j)) e k h) d l

-- ---- implication and sameness of tests
abbrev pub implies : Bool → Bool → Bool
implies true b = b
implies false b = true

pub implied : (a b : Bool) → implies a b ≡ true → a ≡ true → b ≡ true
implied true b e t = e
implied false b e t = absurd (clash (cc))

abbrev pub same : Bool → Bool → Bool
same true b = b
same false b = not b

pub same-eq : (a b : Bool) → same a b ≡ true → a ≡ b
same-eq true b e = sym e
same-eq false true e = absurd (clash (cc))
same-eq false false e = refl

-- ---- the classes by number
abbrev pub class_at : ℕ → Class
class_at n = get_or
    (plain ∷ declaration ∷ empty ∷ labeled ∷ stop ∷ break ∷ continue ∷ goto ∷ fallthrough ∷ block ∷ case_block ∷ comm_block ∷ if ∷ if_else
    ∷ case ∷ default_case ∷ comm ∷ default_comm ∷ switch ∷ type_switch ∷ select ∷ for ∷ for_cond ∷ [])
    n plain

pub class-at : (c : Class) → class_at (code c) ≡ c
class-at c = elim c as (λ k. class_at (code k) ≡ k) [
  | plain ↦ refl
  | declaration ↦ refl
  | empty ↦ refl
  | labeled ↦ refl
  | stop ↦ refl
  | break ↦ refl
  | continue ↦ refl
  | goto ↦ refl
  | fallthrough ↦ refl
  | block ↦ refl
  | case_block ↦ refl
  | comm_block ↦ refl
  | if ↦ refl
  | if_else ↦ refl
  | case ↦ refl
  | default_case ↦ refl
  | comm ↦ refl
  | default_comm ↦ refl
  | switch ↦ refl
  | type_switch ↦ refl
  | select ↦ refl
  | for ↦ refl
  | for_cond ↦ refl
]

code-small : (c : Class) → code c < 23
code-small c = elim c as (λ k. code k < 23) [
  | plain ↦ lit< tt
  | declaration ↦ lit< tt
  | empty ↦ lit< tt
  | labeled ↦ lit< tt
  | stop ↦ lit< tt
  | break ↦ lit< tt
  | continue ↦ lit< tt
  | goto ↦ lit< tt
  | fallthrough ↦ lit< tt
  | block ↦ lit< tt
  | case_block ↦ lit< tt
  | comm_block ↦ lit< tt
  | if ↦ lit< tt
  | if_else ↦ lit< tt
  | case ↦ lit< tt
  | default_case ↦ lit< tt
  | comm ↦ lit< tt
  | default_comm ↦ lit< tt
  | switch ↦ lit< tt
  | type_switch ↦ lit< tt
  | select ↦ lit< tt
  | for ↦ lit< tt
  | for_cond ↦ lit< tt
]

-- a rule of all classes
pub of-class : (P : Class → Bool) → every 23 (λ i. P (class_at i)) ≡ true → (c : Class) → P c ≡ true
of-class P e c = let r = every-at 23 (λ i. P (class_at i)) e (code c) (code-small c) in rw class-at at r

-- a rule of all pairs of classes
pub of-classes : (P : Class → Class → Bool) → every 23 (λ i. every 23 (λ j. P (class_at i) (class_at j))) ≡ true → (c d : Class) → P c d ≡ true
of-classes P e c d =
    of-class (P c) (of-class (λ k. every 23 (λ j. P k (class_at j))) e c) d

-- what passes for one class is that class
pub is-class : (c d : Class) → eqb (code c) (code d) ≡ true → c ≡ d
is-class c d e = sym (class-at c) ∙ ap class_at (eqb-true (code c) (code d) e) ∙ class-at d

-- and what is one of one class
pub is_one : (c d : Class) → one_of (d ∷ []) c ≡ true → c ≡ d
is_one c d t = is-class c d (⊎_elim (λ u. u) (λ (u : false ≡ true). absurd (clash (cc))) (or-true (eqb (code c) (code d)) false t))
