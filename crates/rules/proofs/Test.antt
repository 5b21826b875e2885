-- Tests that are true or false, and what follows of their parts.
-- Assumes nothing.
use mathlib.Core.Path.{◌≡◌, refl}
use mathlib.Core.Bool.{Bool, true, false, ◌&&◌, ◌||◌}
use mathlib.Core.Logic.{◌⊎◌, inl, inr}
use mathlib.Core.Option.{Option, none, some}
use Prim.Native.Nat.{ℕ}
use native.Mathlib.Omega.{arith}
use lib.Dec.{T}

-- by cases on a test, with what it gave
pub case-of : {G : Type 0} (t : Bool) → (t ≡ true → G) → (t ≡ false → G) → G
case-of true f g = f refl
case-of false f g = g refl

pub case-found : {G : Type 0} (o : Option ℕ) → ((k : ℕ) → o ≡ some k → G) → (o ≡ none → G) → G
case-found (some k) f g = f k refl
case-found none f g = g refl

-- two constructors differ: `clash (cc)` closes a case in which both are claimed
pub clash : ◌≡◌ {A = ℕ} 0 1 → ⊥
clash e = omega arith

pub os : (t : Bool) → T t → t ≡ true
os true u = refl
os false u = absurd u

-- ---- conjunction and disjunction
pub and-true : (a b : Bool) → a && b ≡ true → (a ≡ true) × (b ≡ true)
and-true true b e = (refl, e)
and-true false b e = absurd (clash (cc))

pub true-and : (a b : Bool) → a ≡ true → b ≡ true → a && b ≡ true
true-and a b e f = rw (e, f)

pub or-false : (a b : Bool) → a || b ≡ false → (a ≡ false) × (b ≡ false)
or-false false b e = (refl, e)
or-false true b e = absurd (clash (cc))

pub or-true : (a b : Bool) → a || b ≡ true → (a ≡ true) ⊎ (b ≡ true)
or-true true b e = inl refl
or-true false b e = inr e
