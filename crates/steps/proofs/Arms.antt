-- The arms of the two matches on a row's class: each is the law of that class, with the places that the tables have.
-- Assumes nothing.
use mathlib.Core.Path.{◌≡◌, refl, sym, ◌∙◌, ap}
use mathlib.Core.Bool.{true}
use mathlib.Core.List.{List}
use mathlib.Core.Logic.{◌⊎◌, ⊎_elim}
use Prim.Native.Nat.{ℕ, suc, ◌+◌, ◌≤◌, ◌<◌}
use native.Mathlib.Omega.{arith}
use lib.ListN.{get_or}
use Rattle.rules.specs.Rows.{row_count, size, end}
use Rattle.rules.specs.Class.{is_branch, class}
use Rattle.rules.specs.Scope.{is_list}
use Rattle.rules.specs.Runner.{State, at, after, choices}
use Rattle.std.proofs.lemmas.Bool.{false≢true}
use Rattle.rules.proofs.ClassRules.{is_clause_block}
use Rattle.rules.proofs.Steps.{TwoWays, is_plain, plain-goes-on, stop-stops, labeled-enters, list-first-item, list-without-items, if-ways, if-else-ways}
use Rattle.rules.proofs.Steps.{for-condition-ways, for-enters}
use Rattle.classes.specs.Classes.{class_is}
use Rattle.classes.specs.declared.Class.{Class}
use Rattle.classes.specs.declared.Class.TheVariants.{Plain, Declaration, Empty, Labeled, Stop, Break, Continue, Goto, Fallthrough}
use Rattle.classes.specs.declared.Class.TheVariants.{CaseBlock, CommBlock, If, IfElse, Switch, TypeSwitch, Select, For, ForCond}
use Rattle.steps.specs.Written.{Tables, has_one_way, OnlyStep}
use Rattle.steps.proofs.Choices.{branch-choices, no-choices}
use Rattle.steps.proofs.Leads.{place-below, only-way}

-- ---- what the last arm takes: of the rows with one way the lists
abbrev pub NoSingle : Class → Type 0
NoSingle k = (k ≡ Labeled → ⊥) × (k ≡ For → ⊥) × (k ≡ Stop → ⊥) × (k ≡ Break → ⊥) × (k ≡ Continue → ⊥) × (k ≡ Goto → ⊥)
    × (k ≡ Fallthrough → ⊥) × (k ≡ Plain → ⊥) × (k ≡ Declaration → ⊥) × (k ≡ Empty → ⊥)

other-list : (k : Class) → NoSingle k → has_one_way (class_is k) ≡ true → is_list (class_is k) ≡ true
other-list Labeled n t = absurd (n.0 refl)
other-list For n t = absurd (n.1 refl)
other-list Stop n t = absurd (n.2 refl)
other-list Break n t = absurd (n.3 refl)
other-list Continue n t = absurd (n.4 refl)
other-list Goto n t = absurd (n.5 refl)
other-list Fallthrough n t = absurd (n.6 refl)
other-list Plain n t = absurd (n.7 refl)
other-list Declaration n t = absurd (n.8 refl)
other-list Empty n t = absurd (n.9 refl)
other-list If n t = absurd (false≢true t)
other-list ForCond n t = absurd (false≢true t)
other-list IfElse n t = absurd (false≢true t)
other-list Switch n t = absurd (false≢true t)
other-list TypeSwitch n t = absurd (false≢true t)
other-list Select n t = absurd (false≢true t)
other-list CaseBlock n t = absurd (false≢true t)
other-list CommBlock n t = absurd (false≢true t)
other-list k n t = refl

module _ {w p b afters destinations : List ℕ} (t : Tables w p b afters destinations) {r : ℕ} (l : r < row_count w) where
  branch-there : is_branch (class w r) ≡ true → OnlyStep w p b r (get_or destinations r 0)
  branch-there u = (branch-choices w p b r u, t.branch_rows r l u)

  plain-on : is_plain (class w r) ≡ true → OnlyStep w p b r (get_or afters r 0)
  plain-on u = only-way w p b r (get_or afters r 0) (plain-goes-on w p b r u) (t.after_rows r l)

  -- there is room for two steps
  pub two-room : (first : ℕ) {m : ℕ} {s u : State} → TwoWays w p b r s u → first + choices w p b (at r) ≤ m → (r < 2000) × (first + 2 ≤ m)
  two-room first x h = (omega (arith, t.body.most_rows), omega (arith, x.0))

module _ {w p b afters destinations : List ℕ} (t : Tables w p b afters destinations) {r : ℕ} (l : r < row_count w) {k : Class} (e : class_is k ≡ class w r) where
  is-class : (n : Class) → k ≡ n → class w r ≡ class_is n
  is-class n i = sym e ∙ ap class_is i

  -- ---- one way
  pub below : (k ≡ Labeled) ⊎ (k ≡ For) → OnlyStep w p b r (r + 3)
  below = ⊎_elim
      (λ i. only-way w p b r (r + 3) (labeled-enters w p b r (is-class Labeled i)) (place-below r (r + 3) refl))
      (λ i. only-way w p b r (r + 3) (for-enters w p b r (is-class For i)) (place-below r (r + 3) refl))

  pub stop-here : k ≡ Stop → OnlyStep w p b r 0
  stop-here i = only-way w p b r 0 (stop-stops w p b r (is-class Stop i)) refl

  pub there : (k ≡ Break) ⊎ ((k ≡ Continue) ⊎ ((k ≡ Goto) ⊎ (k ≡ Fallthrough))) → OnlyStep w p b r (get_or destinations r 0)
  there = ⊎_elim (λ i. branch-there t l (ap is_branch (is-class Break i))) (⊎_elim (λ i. branch-there t l (ap is_branch (is-class Continue i)))
      (⊎_elim (λ i. branch-there t l (ap is_branch (is-class Goto i))) (λ i. branch-there t l (ap is_branch (is-class Fallthrough i)))))

  pub on : (k ≡ Plain) ⊎ ((k ≡ Declaration) ⊎ (k ≡ Empty)) → OnlyStep w p b r (get_or afters r 0)
  on = ⊎_elim (λ i. plain-on t l (ap is_plain (is-class Plain i))) (⊎_elim (λ i. plain-on t l (ap is_plain (is-class Declaration i)))
      (λ i. plain-on t l (ap is_plain (is-class Empty i))))

  module _ (n : NoSingle k) (v : has_one_way (class w r) ≡ true) where
    listed : is_list (class w r) ≡ true
    listed = rw e at (other-list k n (rw e v))

    pub list-below : 1 < size w r → OnlyStep w p b r (r + 3)
    list-below h = only-way w p b r (r + 3) (list-first-item w p b r listed h) (place-below r (r + 3) refl)

    pub list_on : size w r ≤ 1 → OnlyStep w p b r (get_or afters r 0)
    list_on h = only-way w p b r (get_or afters r 0) (list-without-items w p b r listed h) (t.after_rows r l)

  -- ---- two ways
  pub on-two : (k ≡ If) ⊎ (k ≡ ForCond) → TwoWays w p b r (at (suc r)) (after w r)
  on-two = ⊎_elim (λ i. if-ways w p b r (is-class If i)) (λ i. for-condition-ways w p b r (is-class ForCond i))

  pub else-two : k ≡ IfElse → TwoWays w p b r (at (suc r)) (at (end w (suc r)))
  else-two i = if-else-ways w p b r (is-class IfElse i)

  -- ---- the Block of a fork
  pub block_none : (k ≡ CaseBlock) ⊎ (k ≡ CommBlock) → choices w p b (at r) ≡ 0
  block_none = ⊎_elim
      (λ i. no-choices w p b r (ap is_clause_block (is-class CaseBlock i)))
      (λ i. no-choices w p b r (ap is_clause_block (is-class CommBlock i)))
