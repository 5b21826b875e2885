-- Lists made number by number, and loops over them: two are the same where they are at each number; a loop through two lists in a row goes through the one
-- and then the other, so what each number's part carries on to the next number holds after all of them.
-- Assumes nothing.
use mathlib.Core.Path.{◌≡◌, refl}
use mathlib.Core.List.{List, [], ◌∷◌, ◌++◌}
use Prim.Native.Nat.{ℕ, zero, suc, ◌<◌}
use native.Mathlib.Omega.{arith}
use Rattle.rules.specs.Labels.{each}
use Rattle.rules.proofs.Each.{each-zero, each-suc}
use Rattle.goscript.specs.Syntax.{through}

pub each_same : {A : Type 0} (f g : ℕ → List A) (n : ℕ) → ((k : ℕ) → k < n → f k ≡ g k) → each f n ≡ each g n
unfolding each
each_same f g zero e = refl
each_same f g (suc n) e = rw (each_same f g n (λ k h. e k (omega arith)), e n (omega arith))

module _ {S : Type 0} (f : ℕ → S → S) where
  through-append : (xs ys : List ℕ) (s : S) → through f (xs ++ ys) s ≡ through f ys (through f xs s)
  unfolding through
  through-append [] ys s = refl
  through-append (x ∷ xs) ys s = through-append xs ys (f x s)

  pub through-none : (s : S) → through f [] s ≡ s
  unfolding through
  through-none s = refl

  pub through-one : (x : ℕ) (s : S) → through f (x ∷ []) s ≡ f x s
  unfolding through
  through-one x s = refl

  -- P holds of the state before the first number, and from each number to the next
  pub through-each : (l : ℕ → List ℕ) (P : ℕ → S → Type 0) (s : S) → P 0 s → (n : ℕ)
      → ((k : ℕ) (t : S) → k < n → P k t → P (suc k) (through f (l k) t)) → P n (through f (each l n) s)
  through-each l P s start zero turn = rw (each-zero l, through-none s) start
  through-each l P s start (suc n) turn =
      rw (each-suc l n, through-append (each l n) (l n) s)
      (turn n (through f (each l n) s) (omega arith) (through-each l P s start n (λ k t h. turn k t (omega arith))))
