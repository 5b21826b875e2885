-- What may stand below what, and a law of some classes by the cases of just those: each rule of the classes is one computed test.
-- Assumes nothing.
use mathlib.Core.Path.{◌≡◌, refl}
use mathlib.Core.Bool.{Bool, true, false, ◌&&◌, ◌||◌, not}
use mathlib.Core.Logic.{⊎_elim}
use mathlib.Core.List.{List, [], ◌∷◌}
use lib.Dec.{eqb}
use borrow.Author.Tests.{not-true}
use Rattle.rules.specs.Scan.{lowest}
use Rattle.rules.specs.Class.{Class, plain, declaration, empty, labeled, stop, break, continue, goto, fallthrough, case_block, comm_block, if, if_else}
use Rattle.rules.specs.Class.{switch, type_switch, select, for, for_cond, code, one_of, is_switch, is_breakable}
use Rattle.rules.specs.Refusals.{body, holding}
use Rattle.rules.specs.Scope.{is_list}
use Rattle.rules.specs.Body.{fits}
use Rattle.rules.proofs.Test.{case-of, clash, or-true}
use Rattle.rules.proofs.Every.{every, implies, implied, class_at, of-class, of-classes, is-class, is_one}
use Rattle.rules.proofs.Shape.{opens}

-- ---- a class of a list, by the cases of the list
abbrev pub Cases : Class → Type 0 → List Class → Type 0
Cases c X [] = X
Cases c X (d ∷ ds) = (c ≡ d → X) → Cases c X ds

settled : (X : Type 0) (ds : List Class) (c : Class) → X → Cases c X ds
settled X [] c x = x
settled X (d ∷ ds) c x = λ g. settled X ds c x

pub by_one : (X : Type 0) (ds : List Class) (c : Class) → one_of ds c ≡ true → Cases c X ds
by_one X [] c t = absurd (clash (cc))
by_one X (d ∷ ds) c t = λ g. case-of (eqb (code c) (code d)) (λ e. settled X ds c (g (is-class c d e))) (λ e. by_one X ds c (rw e at t))

-- the Block of a switch or Select
abbrev pub is_clause_block : Class → Bool
is_clause_block = one_of (case_block ∷ comm_block ∷ [])

-- ---- a rule of all classes, of a child by its parent, and of a parent by its child
pub class-rule : (P Q : Class → Bool) → every 23 (λ i. implies (P (class_at i)) (Q (class_at i))) ≡ true → (c : Class) → P c ≡ true → Q c ≡ true
class-rule P Q e c = implied (P c) (Q c) (of-class (λ c. implies (P c) (Q c)) e c)

pub child-rule : (P Q : Class → Bool) → every 23 (λ i. every 23 (λ j. implies (P (class_at i) && fits (class_at i) (class_at j)) (Q (class_at j)))) ≡ true
    → (q c : Class) → P q ≡ true → fits q c ≡ true → Q c ≡ true
child-rule P Q e q c t u = implied (P q && fits q c) (Q c) (of-classes (λ q c. implies (P q && fits q c) (Q c)) e q c) (rw (t, u))

pub parent-rule : (P Q : Class → Bool) → every 23 (λ i. every 23 (λ j. implies (P (class_at j) && fits (class_at i) (class_at j)) (Q (class_at i)))) ≡ true
    → (q c : Class) → P c ≡ true → fits q c ≡ true → Q q ≡ true
parent-rule P Q e q c t u = implied (P c && fits q c) (Q q) (of-classes (λ q c. implies (P c && fits q c) (Q q)) e q c) (rw (t, u))

-- only a switch or Select has such a Block
pub only-opened : (q c : Class) → opens q ≡ false → fits q c ≡ true → is_clause_block c ≡ false
unfolding every lowest
only-opened q c n t = not-true (is_clause_block c) (child-rule (λ q. not (opens q)) (λ c. not (is_clause_block c)) refl q c (rw n) t)

pub opens-holds : (c : Class) → opens c ≡ true → holding c ≡ body
opens-holds c t = ⊎_elim
    (λ u. by_one _ (switch ∷ type_switch ∷ []) c u (λ e. rw e) (λ e. rw e))
    (λ u. by_one _ (select ∷ []) c u (λ e. rw e))
    (or-true (is_switch c) (one_of (select ∷ []) c) t)

-- ---- the classes by the verdict's rules

-- never terminating, and always
abbrev pub is_never : Class → Bool
is_never = one_of (plain ∷ declaration ∷ empty ∷ break ∷ continue ∷ if ∷ for_cond ∷ [])

abbrev pub is_always : Class → Bool
is_always = one_of (stop ∷ goto ∷ fallthrough ∷ [])

-- nothing stands below those that always are
pub always-leaf : (q c : Class) → is_always q ≡ true → fits q c ≡ true → ⊥
unfolding every lowest
always-leaf q c t u = let z : false ≡ true = child-rule is_always (λ c. false) refl q c t u in clash (cc)

-- each class has its rule
abbrev has_other : Class → Bool
has_other c = (is_never c || is_always c) || ((is_list c || is_clause_block c) || (is_switch c || one_of (labeled ∷ if_else ∷ select ∷ []) c))

pub by-rule : {X : Type 0} (c : Class) → (is_never c ≡ true → X) → (is_always c ≡ true → X) → (is_list c ≡ true → X) → (is_clause_block c ≡ true → X)
    → (is_switch c ≡ true → X) → (c ≡ labeled → X) → (c ≡ if_else → X) → (c ≡ select → X) → (c ≡ for → X) → X
unfolding every lowest
by-rule c never always list clauses switches label two choose loop =
    case-of (is_never c) never (λ a. case-of (is_always c) always (λ b. case-of (is_list c) list (λ d. case-of (is_clause_block c) clauses
    (λ e. case-of (is_switch c) switches (λ f. case-of (one_of (labeled ∷ if_else ∷ select ∷ []) c)
    (λ t. by_one _ (labeled ∷ if_else ∷ select ∷ []) c t label two choose)
    (λ g. loop (is_one c for (class-rule (λ c. not (has_other c)) (one_of (for ∷ [])) refl c (rw (a, b, d, e, f, g))))))))))

pub breakable-one : (c : Class) → is_breakable c ≡ true → one_of (switch ∷ type_switch ∷ select ∷ for ∷ for_cond ∷ []) c ≡ true
unfolding every lowest
breakable-one = class-rule is_breakable (one_of (switch ∷ type_switch ∷ select ∷ for ∷ for_cond ∷ [])) refl
