-- The tests of an optional row, and its binding word, say which row it is.
-- Assumes nothing.
use mathlib.Core.Path.{◌≡◌, refl, ap}
use mathlib.Core.Bool.{true, false}
use mathlib.Core.Option.{Option, none, some}
use Prim.Native.Nat.{ℕ, suc}
use native.Mathlib.Omega.{arith}
use borrow.Author.Tests.{eqb-true, eq-eqb}
use Rattle.rules.specs.Labels.{is_some, is, word}
use Rattle.rules.proofs.Test.{clash}

pub is-some : (o : Option ℕ) → is_some o ≡ true → (k : ℕ) × (o ≡ some k)
is-some (some k) t = (k, refl)
is-some none t = absurd (clash (cc))

pub is_none : (o : Option ℕ) → is_some o ≡ false → o ≡ none
is_none (some k) t = absurd (clash (cc))
is_none none t = refl

pub some_is : (o : Option ℕ) (k : ℕ) → o ≡ some k → is_some o ≡ true
some_is o k e = rw e

pub none_is : (o : Option ℕ) → o ≡ none → is_some o ≡ false
none_is o e = rw e

-- which row
pub is_found : (o : Option ℕ) (r : ℕ) → is o r ≡ true → o ≡ some r
is_found (some k) r t = ap some (eqb-true k r t)
is_found none r t = absurd (clash (cc))

pub found-is : (o : Option ℕ) (r : ℕ) → o ≡ some r → is o r ≡ true
found-is o r e = rw e (eq-eqb r r refl)

-- the binding word
pub word-found : (o : Option ℕ) (r : ℕ) → word o ≡ suc r → o ≡ some r
word-found (some k) r e = let i : k ≡ r = omega arith in ap some i
word-found none r e = absurd (omega arith)
