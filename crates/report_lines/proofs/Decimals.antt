-- A number's digits, as few as hold it, are the number in decimal: with one digit fewer it doesn't fit, so it fits with no fewer still. A number below a power
-- of ten has no more digits than the power, and never more than 20.
-- Assumes nothing.
use mathlib.Core.Path.{◌≡◌, refl, sym, ◌∙◌, ap}
use mathlib.Core.Bool.{Bool, false}
use mathlib.Core.List.{[], ◌∷◌, ◌++◌}
use mathlib.Core.Option.{none, some}
use Prim.Native.Nat.{ℕ, zero, suc, ◌+◌, ◌-◌, ◌/◌, ◌%◌, ◌^◌, ◌≤◌, ◌<◌}
use native.Mathlib.Nat.{pow-le-pow_right}
use native.Mathlib.Omega.{arith}
use native.Mathlib.Decide.{dec_lt}
use lib.Dec.{ltb}
use lib.ListN.{length, length-append}
use borrow.Author.Tests.{lt-ltb, le-ltb}
use Rattle.rules.specs.Scan.{lowest}
use Rattle.rules.proofs.Scan.{found-lowest, lowest-none, lowest-found, lowest-first}
use Rattle.rules.proofs.Test.{case-found, clash}
use Rattle.io.specs.Digits.{hex_digit_ascii, last_digits, IsDigitCount}
use Rattle.report_lines.specs.Text.{decimal}

abbrev holds : ℕ → ℕ → Bool
holds n k = ltb n (10 ^ suc k)

decimal-found : (n k : ℕ) → lowest (holds n) 20 ≡ some k → decimal n ≡ last_digits 10 (suc k) n
unfolding decimal
decimal-found n k e = rw (e, decimal)

decimal-none : (n : ℕ) → lowest (holds n) 20 ≡ none → decimal n ≡ []
unfolding decimal
decimal-none n e = rw (e, decimal)

-- ---- as few digits as hold the number
fewer : (n k j : ℕ) → 10 ^ k ≤ n → j < k → holds n j ≡ false
fewer n k j h l = le-ltb n (10 ^ suc j) (omega (arith, pow-le-pow_right {n = 10} (omega arith) {i = suc j} {j = k} l))

few-digits : (n k : ℕ) → n < 10 ^ suc k → (0 < k → 10 ^ k ≤ n) → k < 20 → decimal n ≡ last_digits 10 (suc k) n
few-digits n k h least most =
    decimal-found n k (found-lowest (holds n) 20 k most (lt-ltb n (10 ^ suc k) h) (λ j l. fewer n k j (least (omega arith)) l))

suc-sub-one : (k : ℕ) → suc k - 1 ≡ k
suc-sub-one k = omega arith

-- a u64 has at most 20 digits
pub fewest-twenty : (n r : ℕ) → n < 100000000000000000000 → IsDigitCount 10 1 n r → r ≤ 20
fewest-twenty n r h f = elim (dec_lt 20 r) [
  | yes l ↦ absurd (omega (arith, f.2 (omega arith), pow-le-pow_right {n = 10} (omega arith) {i = 20} {j = r - 1} (omega arith)))
  | no l ↦ omega arith
]

pub fewest-decimal : (n r : ℕ) → IsDigitCount 10 1 n r → r ≤ 20 → last_digits 10 r n ≡ decimal n
fewest-decimal n zero f h = absurd (omega (arith, f.0))
fewest-decimal n (suc k) f h = sym (few-digits n k f.1 (λ l. rw (suc-sub-one k) at (f.2 (omega arith))) (omega arith))

-- ---- how many digits there are
digits-length : (b k n : ℕ) → length (last_digits b k n) ≡ k
digits-length b zero n = refl
digits-length b (suc k) n = length-append (last_digits b k (n / b)) (hex_digit_ascii (n % b) ∷ []) ∙ omega (arith, digits-length b k (n / b))

pub decimal-most : (n k : ℕ) → n < 10 ^ suc k → k < 20 → length (decimal n) ≤ suc k
decimal-most n k h l = case-found (lowest (holds n) 20)
    (λ j e. elim (dec_lt k j) [
      | yes m ↦ absurd (clash (cc (lowest-first (holds n) 20 j k e m, lt-ltb n (10 ^ suc k) h)))
      | no m ↦ omega (arith, ap length (decimal-found n j e), digits-length 10 (suc j) n)
    ])
    (λ e. absurd (clash (cc (lowest-none (holds n) 20 k e l, lt-ltb n (10 ^ suc k) h))))

pub decimal_twenty : (n : ℕ) → length (decimal n) ≤ 20
decimal_twenty n = case-found (lowest (holds n) 20)
    (λ j e. omega (arith, ap length (decimal-found n j e), digits-length 10 (suc j) n, (lowest-found (holds n) 20 j e).0))
    (λ e. omega (arith, ap length (decimal-none n e)))

-- ---- a number with the byte behind it: any, a word of 32 bits, a row
behind-length : (n k after : ℕ) → length (decimal n) ≤ k → length (decimal n ++ (after ∷ [])) ≤ k + 1
behind-length n k after h = omega (arith, length-append (decimal n) (after ∷ []))

pub any_length : (n after : ℕ) → length (decimal n ++ (after ∷ [])) ≤ 21
any_length n after = behind-length n 20 after (decimal_twenty n)

pub word_length : (n after : ℕ) → n < 4294967296 → length (decimal n ++ (after ∷ [])) ≤ 11
word_length n after h = behind-length n 10 after (decimal-most n 9 (omega arith) (omega arith))

pub row_length : (n after : ℕ) → n < 10000 → length (decimal n ++ (after ∷ [])) ≤ 5
row_length n after h = behind-length n 4 after (decimal-most n 3 (omega arith) (omega arith))
