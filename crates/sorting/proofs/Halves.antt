-- A list whose part up to m was replaced by e, and then its part from m on by f, is `e ++ f`: so where both hold the elements of the parts,
-- the whole holds the elements of the list.
-- Assumes nothing.
use mathlib.Core.Path.{◌≡◌, ap}
use mathlib.Core.List.{List, ◌++◌, append-nil}
use Prim.Native.Nat.{ℕ, ◌-◌, ◌/◌, ◌<◌, ◌≤◌}
use native.Mathlib.Omega.{arith}
use lib.ListN.{length, take, drop, get_or, length-take, length-drop, take-append-drop, drop_of_length-le}
use lib.Seq.{take_at, drop_at, take_all, length_front}
use Rattle.rules.specs.Names.{name_bytes}
use Rattle.rules.proofs.Order.{before-not-self}
use Rattle.sorting.specs.Sorted.{Sorted, SameElements, passing}
use Rattle.sorting.proofs.Elements.{passing-append}

-- a list of one element, or of none, is sorted
pub sorted-short : (p b s : List ℕ) → length s < 2 → Sorted p b s
sorted-short p b s h i j l m = let e : i ≡ j = omega arith in rw e (before-not-self (name_bytes p b (get_or s j 0)))

-- the part from m on, and the list with f in its place
abbrev pub rest : ℕ → List ℕ → List ℕ
rest m x = take (length x - m) (drop m x)

abbrev pub put : ℕ → List ℕ → List ℕ → List ℕ
put m x f = take m x ++ (f ++ drop (length x - m) (drop m x))

module _ (m : ℕ) (s e : List ℕ) (h : m ≤ length s) (k : length e ≡ length (take m s)) where
  pub first_part : length e ≡ m
  first_part = omega (arith, length-take m s)

  pub rest-is : rest m (e ++ drop m s) ≡ drop m s
  rest-is = rw (drop_at e (drop m s) m first_part) (take_all (length (e ++ drop m s) - m) (drop m s) (omega (arith, length_front s e m k, length-drop m s)))

  pub put_is : (f : List ℕ) → put m (e ++ drop m s) f ≡ e ++ f
  put_is f =
      rw (
        take_at e (drop m s) m first_part,
        drop_at e (drop m s) m first_part,
        drop_of_length-le (drop m s) {i = length (e ++ drop m s) - m} (omega (arith, length_front s e m k, length-drop m s)),
        append-nil f,
      )

-- with the first half of s replaced by e, and then the second by f, what has the elements of the whole has those of s
pub halves-same : (s e f o : List ℕ) → length e ≡ length (take (length s / 2) s) → SameElements (take (length s / 2) s) e
    → SameElements (rest (length s / 2) (e ++ drop (length s / 2) s)) f → SameElements (put (length s / 2) (e ++ drop (length s / 2) s) f) o → SameElements s o
halves-same s e f o l e-same f-same w P =
    let m : ℕ = length s / 2 in
    omega (
      arith,
      ap (passing P) (take-append-drop m s),
      passing-append P (take m s) (drop m s),
      e-same P,
      f-same P,
      ap (passing P) (rest-is m s e (omega arith) l),
      w P,
      ap (passing P) (put_is m s e (omega arith) l f),
      passing-append P e f,
    )
