-- A sort of two halves, one after the other: with the first half e sorted in place, and then the second f, both parts of the whole are sorted, and the
-- whole is as long as it was. No function cites these laws; docs/PORT.md names them.
-- Assumes nothing.
use mathlib.Core.Path.{◌≡◌, sym, ◌∙◌, ap}
use mathlib.Core.List.{List, ◌++◌}
use Prim.Native.Nat.{ℕ, ◌-◌, ◌/◌, ◌<◌, ◌≤◌}
use native.Mathlib.Omega.{arith}
use lib.ListN.{length, take, drop, length-append, length-take, length-drop}
use lib.Seq.{take_at, drop_at}
use Rattle.sorting.specs.Sorted.{Sorted, SameElements}
use Rattle.sorting.proofs.Halves.{rest, put, first_part, rest-is, put_is}

pub first-half : (s p : List ℕ) (t : ℕ) → length s ≡ t → 2 ≤ length s → length p ≡ length s
    → (length (take (length s / 2) s) < t) × (length (take (length s / 2) p) ≡ length (take (length s / 2) s))
first-half s p t z h q = (omega (arith, length-take (length s / 2) s), omega (arith, length-take (length s / 2) s, length-take (length s / 2) p))

module _ (m : ℕ) (s e : List ℕ) (h : m ≤ length s) (k : length e ≡ length (take m s)) where
  rest-length : length (rest m (e ++ drop m s)) ≡ length s - m
  rest-length = ap length (rest-is m s e h k) ∙ length-drop m s

  put-length : (f : List ℕ) → length f ≡ length (rest m (e ++ drop m s)) → length (put m (e ++ drop m s) f) ≡ length s
  put-length f l = omega (arith, ap length (put_is m s e h k f), length-append e f, first_part m s e h k, rest-length)

-- the names s and the spare words p, of which the first half has been replaced by e, the half sorted, and by g
pub record First (pairs bytes s p : List ℕ) : Type 0 where
  pub room : length p ≡ length s
  pub e : List ℕ
  pub g : List ℕ
  pub e-length : length e ≡ length (take (length s / 2) s)
  pub g-length : length g ≡ length (take (length s / 2) p)
  pub e-sorted : Sorted pairs bytes e
  pub e-same : SameElements (take (length s / 2) s) e

module _ {pairs bytes s p : List ℕ} (u : First pairs bytes s p) where
  abbrev first_names : List ℕ
  first_names = u.e ++ drop (length s / 2) s

  abbrev first_spare : List ℕ
  first_spare = u.g ++ drop (length s / 2) p

  pub second-half : (t : ℕ) → length s ≡ t → 2 ≤ length s
      → (length (rest (length s / 2) first_names) < t) × (length (rest (length s / 2) first_spare) ≡ length (rest (length s / 2) first_names))
  second-half t z two =
      let a = rest-length (length s / 2) s u.e (omega arith) u.e-length in
      let c = rest-length (length s / 2) p u.g (omega arith) u.g-length in
      (omega arith, omega arith)

  -- and then the second half by f and h
  pub record Second : Type 0 where
    pub f : List ℕ
    pub h : List ℕ
    pub f-length : length f ≡ length (rest (length s / 2) first_names)
    pub h-length : length h ≡ length (rest (length s / 2) first_spare)
    pub f-sorted : Sorted pairs bytes f
    pub f-same : SameElements (rest (length s / 2) first_names) f

  module _ (v : Second) where
    abbrev whole_names : List ℕ
    whole_names = put (length s / 2) first_names v.f

    abbrev whole_spare : List ℕ
    whole_spare = put (length s / 2) first_spare v.h

    names-length : length whole_names ≡ length s
    names-length = put-length (length s / 2) s u.e (omega arith) u.e-length v.f v.f-length

    spare-length : length whole_spare ≡ length p
    spare-length = put-length (length s / 2) p u.g (omega arith) u.g-length v.h v.h-length

    pub halves-sorted : ((length s / 2 ≤ length whole_names) × (length whole_spare ≡ length whole_names))
        × (Sorted pairs bytes (take (length s / 2) whole_names) × Sorted pairs bytes (drop (length s / 2) whole_names))
    halves-sorted =
        let i = first_part (length s / 2) s u.e (omega arith) u.e-length in
        let w = put_is (length s / 2) s u.e (omega arith) u.e-length v.f in (
          (omega (arith, names-length), spare-length ∙ u.room ∙ sym names-length),
          (rw (w, take_at u.e v.f (length s / 2) i) u.e-sorted, rw (w, drop_at u.e v.f (length s / 2) i) v.f-sorted),
        )

    -- what has the length, or the elements, of the whole so joined
    pub halves-length : (j : ℕ) → j ≡ length whole_names → j ≡ length s
    halves-length j d = d ∙ names-length

    pub spares-length : (j : ℕ) → j ≡ length whole_spare → j ≡ length p
    spares-length j d = d ∙ spare-length
