-- The code's classes as those of the rules. A table is right if its entry is right at each allowed kind and detail, which is one computed test. Only a Block
-- is told apart by the row before it.
-- Assumes nothing.
use mathlib.Core.Path.{◌≡◌, refl, sym, ◌∙◌}
use mathlib.Core.Bool.{Bool, true, false, not}
use mathlib.Core.List.{List, [], ◌∷◌}
use mathlib.Core.Logic.{◌⊎◌, ⊎_elim}
use Prim.Native.Nat.{ℕ, ◌-◌, ◌<◌}
use native.Mathlib.Omega.{arith}
use lib.Dec.{eqb}
use lib.ListN.{get_or}
use denote.Enum.Bare.{sameb, differs_true, differs_false}
use Rattle.rules.specs.Rows.{kind, detail}
use Rattle.rules.specs.Class.{block, case_block, comm_block, one_of, code, detail_allowed, class_of, base, following, class}
use Rattle.rules.proofs.Every.{every, implies, is-class}
use Rattle.rules.proofs.Details.{allowed-small, of-allowed}
use Rattle.rules.proofs.Classes.{class-first, class-after, class-base}
use Rattle.classes.specs.Classes.{class_is}
use Rattle.classes.specs.contracts.Class.{the_type}
use Rattle.classes.specs.declared.Class.{Class}
use Rattle.classes.specs.declared.Class.TheVariants.{Plain, Block, Switch, TypeSwitch, Select}

-- ---- the table
abbrev pub right : List (List Class) → Bool
right t = every 21 (λ k. every 4 (λ d. implies (detail_allowed k d) (eqb (code (class_is (get_or (get_or t k []) d Plain))) (code (class_of k d)))))

module _ (w : List ℕ) (r : ℕ) {k d : ℕ} (a : detail_allowed (kind w r) (detail w r) ≡ true) (x : k ≡ kind w r) (y : d ≡ detail w r) where
  pub entry-small : (k < 21) × (d < 4)
  entry-small = rw (x, y) (allowed-small (kind w r) (detail w r) a)

  pub entry-class : (t : List (List Class)) → right t ≡ true → class_is (get_or (get_or t k []) d Plain) ≡ base w r
  unfolding base
  entry-class t e = rw (x, y) (is-class _ _
      (of-allowed (λ j i. eqb (code (class_is (get_or (get_or t j []) i Plain))) (code (class_of j i))) e (kind w r) (detail w r) a))

-- ---- the comparison `own != Class::Block`, as its flag x says it
module _ {k : Class} {x : Bool} (f : x ≡ not (sameb the_type k Block)) where
  pub is_no_block : x ≡ true → k ≡ Block → ⊥
  is_no_block e = differs_true the_type k Block (sym f ∙ e)

  pub is_block : x ≡ false → k ≡ Block
  is_block e = differs_false the_type tt k Block (sym f ∙ e)

-- ---- a row by its own class and that of the row before
no-block : (k : Class) → (k ≡ Block → ⊥) → one_of (block ∷ []) (class_is k) ≡ false
no-block Block n = absurd (n refl)
no-block k n = refl

no_switch : (k : Class) → (k ≡ Switch → ⊥) × (k ≡ TypeSwitch → ⊥) × (k ≡ Select → ⊥) → block ≡ following (class_is k) block
no_switch Switch n = absurd (n.0 refl)
no_switch TypeSwitch n = absurd (n.1 refl)
no_switch Select n = absurd (n.2 refl)
no_switch k n = refl

module _ (w : List ℕ) (r : ℕ) (k : Class) (e : class_is k ≡ base w r) where
  pub other_class : (k ≡ Block → ⊥) → class_is k ≡ class w r
  other_class n = e ∙ sym (class-base w r (rw (← e) (no-block k n)))

  pub first-class : r ≡ 0 → class_is k ≡ class w r
  first-class z = let f : class w r ≡ base w r = rw z (class-first w) in e ∙ sym f

  -- where the row is a Block, and m the class of the row before
  module _ (q : k ≡ Block) (z : r ≡ 0 → ⊥) (m : Class) (f : class_is m ≡ base w (r - 1)) where
    block-after : (n : Class) → m ≡ n → following (class_is n) block ≡ class w r
    block-after n i = rw (class-after w r (omega arith), ← f, ← e, q, i)

    pub after-switch : (m ≡ Switch) ⊎ (m ≡ TypeSwitch) → case_block ≡ class w r
    after-switch = ⊎_elim (block-after Switch) (block-after TypeSwitch)

    pub after-select : m ≡ Select → comm_block ≡ class w r
    after-select = block-after Select

    pub after-other : (m ≡ Switch → ⊥) × (m ≡ TypeSwitch → ⊥) × (m ≡ Select → ⊥) → block ≡ class w r
    after-other n = no_switch m n ∙ block-after m refl
