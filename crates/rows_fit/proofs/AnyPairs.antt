-- Whether a row is allowed depends on the pairs only by their number: what holds with some pairs holds with any as many.
-- Assumes nothing.
use mathlib.Core.Path.{◌≡◌, ◌∙◌, sym}
use mathlib.Core.List.{List}
use Prim.Native.Nat.{ℕ, ◌*◌}
use native.Mathlib.Omega.{arith}
use lib.ListN.{replicate, length-replicate}
use Rattle.rules.specs.Names.{count_of_pairs}
use Rattle.rules.specs.Refusals.{bad_row}
use Rattle.row_checks.specs.Right.{Right, RightBelow}

-- as many pairs
unfoldable pub some_pairs : ℕ → List ℕ
some_pairs n = replicate (n * 2) 0

pub so-many : (n : ℕ) → count_of_pairs (some_pairs n) ≡ n
unfolding some_pairs
so-many n = omega (arith, length-replicate {A = ℕ} (n * 2) 0)

module _ (w p q : List ℕ) (e : count_of_pairs p ≡ count_of_pairs q) where
  same-bad : (r : ℕ) → bad_row w p r ≡ bad_row w q r
  unfolding bad_row
  same-bad r = rw (e, bad_row)

  same-right : (r : ℕ) → Right w p r → Right w q r
  same-right r a = record { allowed = sym (same-bad r) ∙ a.allowed; sized = a.sized; shaped = a.shaped; single = a.single; shallow = a.shallow }

module _ (w : List ℕ) {n r : ℕ} where
  pub right-below-any : RightBelow w (some_pairs n) r → (p : List ℕ) → count_of_pairs p ≡ n → RightBelow w p r
  right-below-any a p e =
      record {
        right = λ k l m. same-right w (some_pairs n) p (so-many n ∙ sym e) k (a.right k l m);
        inside = a.inside;
        children = a.children;
        single = a.single;
      }

  pub right-any : Right w (some_pairs n) r → (p : List ℕ) → count_of_pairs p ≡ n → Right w p r
  right-any a p e = same-right w (some_pairs n) p (so-many n ∙ sym e) r a
