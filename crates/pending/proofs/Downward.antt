-- The numbers below n that pass a test, the highest first: the links of a `highest` scan lead through them, what each gives is given in order by turning
-- them around, and a store at each changes those words alone.
-- Assumes nothing.
use mathlib.Core.Path.{◌≡◌, refl, ◌∙◌}
use mathlib.Core.Bool.{Bool, true, false, ◌&&◌}
use mathlib.Core.List.{List, [], ◌∷◌, append-nil}
use Prim.Native.Nat.{ℕ, zero, suc, ◌≤◌, ◌<◌}
use native.Mathlib.Omega.{arith}
use native.Mathlib.Decide.{ℕ_discrete}
use lib.Dec.{leb}
use lib.ListN.{length, get_or, set, drop, length-set}
use lib.Seq.{get_or-set_same, get_or-set_other, drop-set-lt}
use borrow.Author.Tests.{le-leb, lt-leb}
use Rattle.rules.specs.Scan.{highest}
use Rattle.rules.specs.Labels.{Fault, each, word}
use Rattle.rules.proofs.Test.{case-of, case-found, clash}
use Rattle.rules.proofs.Scan.{highest-found}
use Rattle.rules.proofs.Each.{each-zero, each-suc}
use Rattle.pending.specs.Chain.{Chain, ended, linked, over_fault, over_faults, stored}
use Rattle.rules.proofs.Scan.{highest-same, highest-yes, highest-no}

unfoldable pub down : (ℕ → Bool) → ℕ → List ℕ
down Q zero = []
down Q (suc n) = elim (Q n) [ true ↦ n ∷ down Q n | false ↦ down Q n ]

module _ (Q : ℕ → Bool) where
  down-zero : down Q 0 ≡ []
  unfolding down
  down-zero = refl

  down-yes : (n : ℕ) → Q n ≡ true → down Q (suc n) ≡ n ∷ down Q n
  unfolding down
  down-yes n t = rw (t, down)

  down-no : (n : ℕ) → Q n ≡ false → down Q (suc n) ≡ down Q n
  unfolding down
  down-no n t = rw (t, down)

  down-none : (n : ℕ) → ((k : ℕ) → k < n → Q k ≡ false) → down Q n ≡ []
  unfolding down
  down-none zero h = refl
  down-none (suc n) h = rw (h n (omega arith), down) (down-none n (λ k l. h k (omega arith)))

-- ---- the links
pub highest-word : (P : ℕ → Bool) (n : ℕ) → word (highest P n) ≤ n
highest-word P n = case-found (highest P n) (λ k e. rw e (omega (arith, (highest-found P n k e).0))) (λ e. rw e (omega arith))

-- those from lo on
abbrev pub onward : ℕ → (ℕ → Bool) → ℕ → Bool
onward lo P g = leb lo g && P g

module _ (P : ℕ → Bool) (lo : ℕ) (links : List ℕ) where
  at_low : (n : ℕ) → lo ≡ n → Chain links lo (word (highest P n)) (down (onward lo P) n) (word (highest P lo))
  at_low n e = rw (down-none (onward lo P) n (λ k h. rw (lt-leb lo k (omega arith))), e) (ended (highest-word P n))

  pub chain-down : (n : ℕ) → lo ≤ n → ((g : ℕ) → g < n → P g ≡ true → get_or links g 0 ≡ word (highest P g))
      → Chain links lo (word (highest P n)) (down (onward lo P) n) (word (highest P lo))
  chain-down zero h e = at_low zero (omega arith)
  chain-down (suc m) h e = elim (ℕ_discrete lo (suc m)) [
    | yes i ↦ at_low (suc m) i
    | no o ↦
        let l : lo ≤ m = omega arith in
        let r = chain-down m l (λ g k. e g (omega arith)) in
        case-of (P m)
        (λ t. rw (highest-yes P m t, down-yes (onward lo P) m (rw (le-leb lo m l, t)))
        (linked {last = word (highest P lo)} {gs = down (onward lo P) m} l (rw (e m (omega arith) t) (highest-word P m)) (rw (e m (omega arith) t) r)))
        (λ t. rw (highest-no P m t, down-no (onward lo P) m (rw (le-leb lo m l, t))) r)
  ]

-- ---- what each gives, in order
pub each-down : (f : ℕ → List Fault) (w : List ℕ) (latest : ℕ) (Q : ℕ → Bool) (n : ℕ)
    → ((g : ℕ) → g < n → Q g ≡ true → f g ≡ over_fault w latest g) → ((g : ℕ) → g < n → Q g ≡ false → f g ≡ []) → over_faults w latest (down Q n) ≡ each f n
each-down f w latest Q zero y z = rw (down-zero Q, each-zero f)
each-down f w latest Q (suc n) y z =
    let r = each-down f w latest Q n (λ g l. y g (omega arith)) (λ g l. z g (omega arith)) in
    case-of (Q n)
    (λ t. rw (down-yes Q n t, each-suc f n, y n (omega arith) t, r))
    (λ t. rw (down-no Q n t, each-suc f n, z n (omega arith) t, append-nil) r)

-- ---- a store at each
pub stored-length : (t gs : List ℕ) (v : ℕ) → length (stored t gs v) ≡ length t
stored-length t [] v = refl
stored-length t (g ∷ gs) v = stored-length (set t g v) gs v ∙ length-set t g v

module _ (Q : ℕ → Bool) (v : ℕ) where
  pub stored-not : (n k : ℕ) (t : List ℕ) → (k < n → Q k ≡ false) → get_or (stored t (down Q n) v) k 0 ≡ get_or t k 0
  stored-not zero k t h = rw (down-zero Q)
  stored-not (suc n) k t h = case-of (Q n)
      (λ u. rw (down-yes Q n u)
      (stored-not n k (set t n v) (λ l. h (omega arith))
      ∙ get_or-set_other t n k v 0 (λ e. let z : Q n ≡ false = rw e at (h (omega arith)) in clash (cc))))
      (λ u. rw (down-no Q n u) (stored-not n k t (λ l. h (omega arith))))

  pub stored_at : (n k : ℕ) (t : List ℕ) → n ≤ length t → k < n → Q k ≡ true → get_or (stored t (down Q n) v) k 0 ≡ v
  stored_at zero k t room h q = absurd (omega arith)
  stored_at (suc n) k t room h q = elim (ℕ_discrete k n) [
    | yes e ↦
        let u : Q n ≡ true = rw e at q in
        rw (e, down-yes Q n u) (stored-not n n (set t n v) (λ l. absurd (omega arith)) ∙ get_or-set_same t n v 0 (omega arith))
    | no o ↦ case-of (Q n)
        (λ u. rw (down-yes Q n u) (stored_at n k (set t n v) (rw length-set (omega arith)) (omega arith) q))
        (λ u. rw (down-no Q n u) (stored_at n k t (omega arith) (omega arith) q))
  ]

  pub stored-drop : (n m : ℕ) (t : List ℕ) → n ≤ m → drop m (stored t (down Q n) v) ≡ drop m t
  stored-drop zero m t h = rw (down-zero Q)
  stored-drop (suc n) m t h = case-of (Q n)
      (λ u. rw (down-yes Q n u) (stored-drop n m (set t n v) (omega arith) ∙ drop-set-lt m t n v (omega arith)))
      (λ u. rw (down-no Q n u) (stored-drop n m t (omega arith)))

-- ---- a scan whose test fails from lo on
pub highest-cut : (P R : ℕ → Bool) (lo n : ℕ) → lo ≤ n → ((k : ℕ) → k < lo → P k ≡ R k) → ((k : ℕ) → lo ≤ k → k < n → P k ≡ false) → highest P n ≡ highest R lo
unfolding highest
highest-cut P R lo zero h same fails = let e : lo ≡ 0 = omega arith in rw e
highest-cut P R lo (suc n) h same fails = elim (ℕ_discrete lo (suc n)) [
  | yes e ↦ rw e (highest-same P R (suc n) (λ k l. same k (omega arith)))
  | no o ↦ highest-no P n (fails n (omega arith) (omega arith)) ∙ highest-cut P R lo n (omega arith) same (λ k l m. fails k l (omega arith))
]
