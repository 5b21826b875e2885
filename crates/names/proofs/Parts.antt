-- The part of the bytes that the code takes for a name is the name's bytes, and two names are compared by their parts.
-- Assumes nothing.
use mathlib.Core.Path.{◌≡◌, sym}
use mathlib.Core.Bool.{Bool, true, false}
use mathlib.Core.List.{List, []}
use Prim.Native.Nat.{ℕ, ◌+◌, ◌-◌, ◌≤◌}
use native.Mathlib.Omega.{arith}
use lib.ListN.{length, take, drop}
use Rattle.rules.specs.Names.{count_of_pairs, offset, len, names_ok, name_bytes, same_bytes, same_name}
use Rattle.rules.proofs.Pairs.{ok-pair, name-part, refused-names}
use Rattle.rules.proofs.Test.{case-of, clash}

-- the part of the name n
module _ (p b : List ℕ) (n : ℕ) (ok : names_ok p b ≡ true) (z : n ≡ 0 → ⊥) (h : n ≤ count_of_pairs p) where
  pub part-within : offset p (n - 1) + len p (n - 1) ≤ length b
  part-within = (ok-pair p b ok (n - 1) (omega arith)).within

  pub part-name : take (offset p (n - 1) + len p (n - 1) - offset p (n - 1)) (drop (offset p (n - 1)) b) ≡ name_bytes p b n
  part-name =
      let m : offset p (n - 1) + len p (n - 1) - offset p (n - 1) ≡ len p (n - 1) = omega arith in
      rw m (sym (name-part p b n ok (omega arith) h))

-- the comparison of two names by the parts x and y
pub same_parts : (p b x y : List ℕ) (m n : ℕ) → x ≡ name_bytes p b m → y ≡ name_bytes p b n → same_bytes x y ≡ same_name p b m n
unfolding same_name
same_parts p b x y m n e f = rw (e, f)

-- no bytes where causes 2 or 3 refuse the names
pub part_refused : (p b : List ℕ) (n : ℕ) → (names_ok p b ≡ true → ◌≡◌ {A = Bool} false true) → [] ≡ name_bytes p b n
part_refused p b n f = case-of (names_ok p b) (λ t. let z = f t in absurd (clash (cc))) (λ e. sym (refused-names p b n e))
