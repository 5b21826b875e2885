-- What makes a row right: its size, and its shape where its children fit.
-- Assumes nothing.
use mathlib.Core.Path.{◌≡◌, refl, sym, ◌∙◌, ap}
use mathlib.Core.Bool.{true, false, not}
use mathlib.Core.List.{List}
use Prim.Native.Nat.{ℕ, zero, suc, ◌+◌, ◌≤◌, ◌<◌}
use native.Mathlib.Omega.{arith}
use lib.Dec.{eqb}
use borrow.Author.Tests.{eqb-true, ne_eqb, le-ltb, le-leb, not-true}
use Rattle.rules.specs.Scan.{lowest}
use Rattle.rules.specs.Rows.{row_count, size, end}
use Rattle.rules.specs.Class.{Class, base, following, class}
use Rattle.rules.specs.Refusals.{holding, at_least, children_fit, is_body, bad_size, bad_shape}
use Rattle.rules.proofs.Test.{clash}
use Rattle.rules.proofs.Every.{every, of-classes}
use Rattle.rules.proofs.Nesting.{item_from, item-before}
use Rattle.rules.proofs.Children.{fits-ended, shape-fits}
use Rattle.row_checks.specs.Right.{RightBelow}

-- a test that failed claims nothing
pub never : {G : Type 0} → false ≡ true → G
never e = absurd (clash (cc))

-- a size that is neither 0 nor past the last row
pub right-size : (w : List ℕ) (r : ℕ) → 0 < size w r → end w r ≤ row_count w → bad_size w r ≡ false
unfolding bad_size
right-size w r z h = rw (ne_eqb (size w r) 0 (λ f. omega arith), le-ltb (row_count w) (end w r) h, bad_size)

-- the children of the row fit
abbrev pub Fit : List ℕ → ℕ → Type 0
Fit w r = children_fit (size w r) w (holding (class w r)) (end w r) 0 (suc r) ≡ true

-- the shape of a row whose children fit, and back
pub right-shape : (w : List ℕ) (r : ℕ) → (r ≡ 0 → is_body w ≡ true) → Fit w r → bad_shape w r ≡ false
right-shape w r b f = not-true (bad_shape w r) (shape-fits w r b ∙ f)

pub shape-right : (w : List ℕ) (r : ℕ) → 0 < r → bad_shape w r ≡ false → Fit w r
shape-right w r l f = sym (shape-fits w r (λ e. absurd (omega arith))) ∙ ap not f

-- a Block needs no children whatever it is the Block of
following-needs : (b c : Class) → at_least (holding (following b c)) ≡ at_least (holding c)
unfolding every lowest
following-needs b c = eqb-true (at_least (holding (following b c))) (at_least (holding c))
    (of-classes (λ b c. eqb (at_least (holding (following b c))) (at_least (holding c))) refl b c)

pub class-needs : (w : List ℕ) (r : ℕ) → at_least (holding (class w r)) ≡ at_least (holding (base w r))
unfolding class
class-needs w zero = refl
class-needs w (suc q) = following-needs (base w q) (base w (suc q))

-- a row of size 1 that needs no children
pub leaf-fits : (w : List ℕ) (r : ℕ) → size w r ≡ 1 → at_least (holding (class w r)) ≡ 0 → Fit w r
leaf-fits w r s z = rw s (fits-ended w (holding (class w r)) (r + 1) 0 (suc r) 0 (omega arith) ∙ le-leb (at_least (holding (class w r))) 0 (omega arith))

pub leaf-below : (w p : List ℕ) (r : ℕ) → size w r ≡ 1 → at_least (holding (class w r)) ≡ 0 → RightBelow w p r
leaf-below w p r s z =
    record {
      right = λ k l i. absurd (omega arith);
      inside = λ k l i. absurd (omega arith);
      children = leaf-fits w r s z;
      single = λ n k c. absurd (omega (arith, item_from c.child, item-before c.child));
    }
