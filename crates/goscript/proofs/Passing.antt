-- The numbers below n that pass a test, in order. What a filter leaves of them, and whether a number is among them, is told number by number; and where the
-- tests agree below m and no other passes there, those from m on come behind those below it. A loop over them passes by every number below n.
-- Assumes nothing.
use mathlib.Core.Path.{◌≡◌, refl, sym, ◌∙◌}
use mathlib.Core.Bool.{Bool, true, false, ◌&&◌, ◌||◌, or-false}
use mathlib.Core.List.{List, [], ◌∷◌, ◌++◌, append-nil, append_assoc}
use Prim.Native.Nat.{ℕ, zero, suc, ◌≤◌, ◌<◌}
use native.Mathlib.Omega.{arith}
use native.Mathlib.Decide.{ℕ_discrete, dec_lt}
use lib.Dec.{ltb, eqb}
use borrow.Author.Tests.{lt-ltb, le-ltb, eq-eqb, ne_eqb}
use Rattle.rules.specs.Labels.{each, only}
use Rattle.rules.proofs.Test.{case-of}
use Rattle.rules.proofs.Each.{none_only, none_each}
use Rattle.goscript.specs.Syntax.{any, filter, through, contains}
use Rattle.goscript.proofs.Loops.{each_same, through-none, through-one, through-each}

abbrev pub passing : (ℕ → Bool) → ℕ → List ℕ
passing P n = each (λ g. only (P g) g) n

module _ (P : ℕ → Bool) (n : ℕ) where
  pub passing-none : ((k : ℕ) → k < n → P k ≡ false) → passing P n ≡ []
  passing-none h = none_each (λ g. only (P g) g) n (λ k l. none_only (P k) k (h k l))

  -- one number more
  pub passing-yes : P n ≡ true → passing P (suc n) ≡ passing P n ++ n ∷ []
  unfolding each
  passing-yes t = rw t

  pub passing-no : P n ≡ false → passing P (suc n) ≡ passing P n
  unfolding each
  passing-no f = rw f (append-nil (passing P n))

-- two tests that agree below n
pub passing-same : (P Q : ℕ → Bool) (n : ℕ) → ((k : ℕ) → k < n → P k ≡ Q k) → passing P n ≡ passing Q n
passing-same P Q n h = each_same (λ g. only (P g) g) (λ g. only (Q g) g) n (λ k l. rw (h k l))

-- ---- is a number among them?
any_append : (T : ℕ → Bool) (xs ys : List ℕ) → any T (xs ++ ys) ≡ (any T xs || any T ys)
unfolding any
any_append T [] ys = refl
any_append T (x ∷ xs) ys = case-of (T x) (λ t. rw t) (λ f. rw f (any_append T xs ys))

pub contains-passing : (P : ℕ → Bool) (n g : ℕ) → contains g (passing P n) ≡ (ltb g n && P g)
unfolding contains any each
contains-passing P zero g = rw (le-ltb g 0 (omega arith))
contains-passing P (suc n) g =
    rw (any_append (eqb g) (passing P n) (only (P n) n), contains-passing P n g) (elim (ℕ_discrete g n) [
      | yes e ↦ rw (e, le-ltb n n (omega arith), lt-ltb n (suc n) (omega arith))
          (case-of (P n) (λ t. rw (t, eq-eqb n n refl)) (λ f. rw f))
      | no o ↦
          let last : any (eqb g) (only (P n) n) ≡ false = case-of (P n) (λ t. rw (t, ne_eqb g n o)) (λ f. rw f) in
          rw last (elim (dec_lt g n) [
            | yes l ↦ rw (lt-ltb g n l, lt-ltb g (suc n) (omega arith)) (or-false (P g))
            | no m ↦ rw (le-ltb g n (omega arith), le-ltb g (suc n) (omega arith))
          ])
    ])

-- ---- what a filter leaves
filter-append : (Q : ℕ → Bool) (xs ys : List ℕ) → filter Q (xs ++ ys) ≡ filter Q xs ++ filter Q ys
unfolding filter
filter-append Q [] ys = refl
filter-append Q (x ∷ xs) ys = case-of (Q x) (λ t. rw (t, filter-append Q xs ys, filter)) (λ f. rw (f, filter-append Q xs ys, filter))

pub filter-passing : (Q P : ℕ → Bool) (n : ℕ) → filter Q (passing P n) ≡ passing (λ g. P g && Q g) n
unfolding filter each
filter-passing Q P zero = refl
filter-passing Q P (suc n) =
    let last : filter Q (only (P n) n) ≡ only (P n && Q n) n = case-of (P n) (λ t. rw t) (λ f. rw f) in
    rw (filter-append Q (passing P n) (only (P n) n), filter-passing Q P n, last)

-- ---- those below m, and those from m on
module _ (P Q R : ℕ → Bool) where
  passing-all : (n : ℕ) → ((k : ℕ) → k < n → P k ≡ Q k) → ((k : ℕ) → k < n → R k ≡ false) → passing P n ≡ passing Q n ++ passing R n
  passing-all n a c = rw (passing-none R n c) (passing-same P Q n a ∙ sym (append-nil (passing Q n)))

  pub passing-split : (m n : ℕ) → m ≤ n → ((k : ℕ) → k < m → P k ≡ Q k) → ((k : ℕ) → k < m → R k ≡ false) → ((k : ℕ) → m ≤ k → k < n → P k ≡ R k)
      → passing P n ≡ passing Q m ++ passing R n
  unfolding each
  passing-split m zero l a c h = let e : m ≡ 0 = omega arith in rw e
  passing-split m (suc n) l a c h = elim (ℕ_discrete m (suc n)) [
    | yes e ↦ rw e (passing-all (suc n) (λ k i. a k (omega arith)) (λ k i. c k (omega arith)))
    | no o ↦
        rw (passing-split m n (omega arith) a c (λ k i j. h k i (omega arith)), h n (omega arith) (omega arith))
        (append_assoc (passing Q m) (passing R n) (only (R n) n))
  ]

-- ---- a loop over them: P holds before the first number, and from each to the next, whether it passes or not
pub through-passing : {S : Type 0} (f : ℕ → S → S) (Q : ℕ → Bool) (P : ℕ → S → Type 0) (s : S) → P 0 s → (n : ℕ)
    → ((k : ℕ) (t : S) → k < n → Q k ≡ true → P k t → P (suc k) (f k t)) → ((k : ℕ) (t : S) → k < n → Q k ≡ false → P k t → P (suc k) t)
    → P n (through f (passing Q n) s)
through-passing f Q P s start n passes fails = through-each f (λ g. only (Q g) g) P s start n (λ k t h r. case-of (Q k)
    (λ u. rw (u, through-one f k t) (passes k t h u r))
    (λ u. rw (u, through-none f t) (fails k t h u r)))
