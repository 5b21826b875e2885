-- The label that the break search looks for, what is asked of the build for it, and the classes by how the search treats them.
-- Below a statement the search has to keep the label directly on it, and to hide the unlabelled breaks of what a break can leave; a build that is mended
-- does both, and stock does where there is no label to meet.
-- Assumes nothing.
use mathlib.Core.Path.{◌≡◌, refl}
use mathlib.Core.Bool.{Bool, true, false, ◌||◌, not}
use mathlib.Core.List.{List, [], ◌∷◌}
use mathlib.Core.Option.{Option, none, some}
use Prim.Native.Nat.{ℕ, zero, suc, ◌<◌}
use native.Mathlib.Omega.{arith}
use Rattle.rules.specs.Scan.{lowest}
use Rattle.rules.specs.Rows.{end}
use Rattle.rules.specs.Class.{Class, labeled, break, if, if_else, one_of, is_breakable, class}
use Rattle.rules.specs.Names.{name_bytes}
use Rattle.rules.specs.Scope.{is_list, holds_items}
use Rattle.rules.proofs.Test.{case-of}
use Rattle.rules.proofs.Every.{every}
use Rattle.rules.proofs.ClassRules.{is_clause_block, by_one, class-rule}
use Rattle.breaks.specs.Leaves.{label_number}
use Rattle.goscript.specs.Build.{Build}
use Rattle.goscript.specs.Syntax.{ident}
use Rattle.goscript.specs.Returns.{handed_label, handed_implicit}
use Rattle.goscript.proofs.VerdictSteps.{is_breakless}

-- the label whose name number is n: none for 0
abbrev pub label_of : List ℕ → List ℕ → ℕ → Option (List ℕ)
label_of p b n = elim n [ zero ↦ none | suc m ↦ some (name_bytes p b (suc m)) ]

pub named-label : (p b : List ℕ) (n : ℕ) → 0 < n → label_of p b n ≡ some (name_bytes p b n)
named-label p b zero l = absurd (omega arith)
named-label p b (suc m) l = refl

-- below the statement s the search keeps the label directly on s and, where there is one, hides the unlabelled breaks of a statement that they can leave
pub record Handed (build : Build) (w p b : List ℕ) (s : ℕ) : Type 0 where
  pub label : (t : ℕ) → s < t → t < end w s → class w t ≡ labeled
      → handed_label build (ident w p b t) (label_of p b (label_number w s)) ≡ label_of p b (label_number w s)
  pub implicit : 0 < label_number w s → (i : Bool) → handed_implicit build i ≡ false

-- ---- the classes by the search

-- what stands below is searched as it is
abbrev pub hides_none : Class → Bool
hides_none c = holds_items c || one_of (labeled ∷ if ∷ if_else ∷ []) c

abbrev has_other : Class → Bool
has_other c = is_clause_block c || ((is_breakable c || is_list c) || one_of (labeled ∷ break ∷ if ∷ if_else ∷ []) c)

pub by-search : {X : Type 0} (c : Class) → is_clause_block c ≡ false → (is_breakless c ≡ true → X) → (is_breakable c ≡ true → X) → (is_list c ≡ true → X)
    → (c ≡ labeled → X) → (c ≡ break → X) → (c ≡ if → X) → (c ≡ if_else → X) → X
unfolding every lowest
by-search c n breakless breakable lists label breaks one two =
    case-of (is_breakable c) breakable (λ x. case-of (is_list c) lists (λ y. case-of (one_of (labeled ∷ break ∷ if ∷ if_else ∷ []) c)
    (λ t. by_one _ (labeled ∷ break ∷ if ∷ if_else ∷ []) c t label breaks one two)
    (λ z. breakless (class-rule (λ c. not (has_other c)) is_breakless refl c (rw (n, x, y, z))))))
