-- No row is a second default exactly where of the children of each row at most one is a default clause: a second default, told by children (Defaults),
-- is one of two default clauses below one row; and only the Block of a switch or Select has such children.
-- Assumes nothing.
use mathlib.Core.Path.{◌≡◌, refl}
use mathlib.Core.Bool.{true, false}
use mathlib.Core.List.{List}
use mathlib.Core.Option.{none}
use Prim.Native.Nat.{ℕ, zero, suc, ◌≤◌, ◌<◌}
use native.Mathlib.Omega.{arith}
use Rattle.rules.specs.Scan.{lowest}
use Rattle.rules.specs.Rows.{row_count, end, Child}
use Rattle.rules.specs.Class.{Class, is_default, base, following, class}
use Rattle.rules.specs.Refusals.{bad_shape, second_default}
use Rattle.rules.specs.Body.{Sized, Detailed, fits, OneDefault}
use Rattle.rules.proofs.Test.{case-of, clash}
use Rattle.rules.proofs.Scan.{lowest-none}
use Rattle.rules.proofs.Every.{every, implies, implied, of-classes}
use Rattle.rules.proofs.Nesting.{item-before}
use Rattle.rules.proofs.Shape.{child_within, child_fits}
use Rattle.rules.proofs.ClassRules.{is_clause_block, parent-rule}
use Rattle.rules.proofs.Defaults.{second-child, child-second}

module _ {w : List ℕ} (sized : Sized w) (inside : (p c : ℕ) → p < row_count w → Child w p c → end w c ≤ end w p) where
  -- none is found: of the children of each row at most one is a default clause
  pub one_default : lowest (second_default w) (row_count w) ≡ none → (p : ℕ) → p < row_count w → OneDefault w p
  one_default e p l r s =
      let h : r < row_count w = omega (arith, item-before s.child, sized.within p l) in
      let t = child-second sized inside p r l s in
      let f = lowest-none (second_default w) (row_count w) r e h in absurd (clash (cc))

-- ---- back, from the Blocks of switches and Selects alone

-- a default clause stays one whatever row it follows
following-default : (b c : Class) → is_default c ≡ true → is_default (following b c) ≡ true
unfolding every lowest
following-default b c = implied (is_default c) (is_default (following b c)) (of-classes (λ b c. implies (is_default c) (is_default (following b c))) refl b c)

class-default : (w : List ℕ) (r : ℕ) → is_default (base w r) ≡ true → is_default (class w r) ≡ true
unfolding class
class-default w zero t = t
class-default w (suc q) t = following-default (base w q) (base w (suc q)) t

holds-default : (p c : Class) → is_default c ≡ true → fits p c ≡ true → is_clause_block p ≡ true
unfolding every lowest
holds-default = parent-rule is_default is_clause_block refl

pub none-second : (w : List ℕ) (sized : Sized w) (detailed : Detailed w) (shaped : (r : ℕ) → r < row_count w → bad_shape w r ≡ false)
    → ((p : ℕ) → p < row_count w → is_clause_block (class w p) ≡ true → OneDefault w p) → (r : ℕ) → r < row_count w → second_default w r ≡ false
none-second w sized detailed shaped one r l = case-of (second_default w r)
    (λ t.
    let (p, h, s) = second-child sized (child_within w sized detailed shaped) r l t in
    let f = child_fits w sized detailed shaped p r h s.child in
    absurd (one p h (holds-default (class w p) (class w r) (class-default w r s.default) f) r s))
    (λ f. f)
