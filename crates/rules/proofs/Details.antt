-- The table of the allowed details: it has 21 lines of at most 4 entries, and it says of which rows a name is due, of which it may stand, and of which not.
-- Each rule of the table is one test that computes at every entry. Assumes nothing.
use mathlib.Core.Path.{◌≡◌, refl, sym, ◌∙◌}
use mathlib.Core.Bool.{Bool, true, false, ◌&&◌, ◌||◌, not}
use mathlib.Core.List.{[], ◌∷◌}
use Prim.Native.Nat.{ℕ, zero, suc, ◌<◌, ◌≤◌}
use native.Mathlib.Omega.{arith}
use lib.Dec.{ltb, leb, eqb}
use lib.ListN.{length, get_or, get_or-eq_default}
use borrow.Author.Tests.{ltb-true, ltb-false, leb-true, le-ltb, le-leb, lt-leb, ne_eqb}
use Rattle.rules.specs.Scan.{lowest}
use Rattle.rules.specs.Class.{Class, labeled, goto, classes, detail_allowed, class_of, one_of, is_branch}
use Rattle.rules.specs.Refusals.{name_allowed}
use Rattle.rules.proofs.Test.{case-of, clash}
use Rattle.rules.proofs.Every.{every, every-at, every-pair, implies, implied, same, same-eq}

-- ---- the table's bounds
pub past-kinds : (k d : ℕ) → 21 ≤ k → detail_allowed k d ≡ false
unfolding detail_allowed
past-kinds k d h = let e : get_or classes k [] ≡ [] = get_or-eq_default classes [] h in le-ltb d (length (get_or classes k [])) (rw e (omega arith))

few-details : (k : ℕ) → k < 21 → length (get_or classes k []) ≤ 4
unfolding every lowest
few-details k h = leb-true (length (get_or classes k [])) 4 (every-at 21 (λ j. leb (length (get_or classes j [])) 4) refl k h)

pub allowed-small : (k d : ℕ) → detail_allowed k d ≡ true → (k < 21) × (d < 4)
unfolding detail_allowed
allowed-small k d a = case-of (ltb k 21)
    (λ t. let h = ltb-true k 21 t in (h, omega (arith, few-details k h, ltb-true d (length (get_or classes k [])) a)))
    (λ f. let z : false ≡ true = sym (past-kinds k d (ltb-false k 21 f)) ∙ a in absurd (clash (cc)))

-- a rule of all allowed kinds and details
pub of-allowed : (P : ℕ → ℕ → Bool) → every 21 (λ k. every 4 (λ d. implies (detail_allowed k d) (P k d))) ≡ true →
    (k d : ℕ) → detail_allowed k d ≡ true → P k d ≡ true
of-allowed P e k d a =
    let s = allowed-small k d a in
    implied (detail_allowed k d) (P k d) (every-pair 21 4 (λ j i. implies (detail_allowed j i) (P j i)) e k d s.0 s.1) a

-- ---- which rows have a name: Labeled and goto must, the other Branches may, the rest have none
abbrev must : Class → Bool
must = one_of (labeled ∷ goto ∷ [])

abbrev may : Class → Bool
may c = one_of (labeled ∷ []) c || is_branch c

module _ (k d : ℕ) (a : detail_allowed k d ≡ true) where
  must-of : must (class_of k d) ≡ (eqb k 3 || (eqb k 11 && eqb d 2))
  unfolding every lowest detail_allowed class_of
  must-of = same-eq (must (class_of k d)) (eqb k 3 || (eqb k 11 && eqb d 2))
      (of-allowed (λ j i. same (must (class_of j i)) (eqb j 3 || (eqb j 11 && eqb i 2))) refl k d a)

  may_of : may (class_of k d) ≡ (eqb k 3 || eqb k 11)
  unfolding every lowest detail_allowed class_of
  may_of = same-eq (may (class_of k d)) (eqb k 3 || eqb k 11) (of-allowed (λ j i. same (may (class_of j i)) (eqb j 3 || eqb j 11)) refl k d a)

-- what that says of a name's number
pub past_pairs : (c : Class) (p n : ℕ) → p < n → name_allowed c p n ≡ false
unfolding name_allowed
past_pairs c p n h = rw (lt-leb n p h, name_allowed)

has-name : (c : Class) (p n : ℕ) → n ≤ p → must c ≡ true → may c ≡ true → name_allowed c p n ≡ not (eqb n 0)
unfolding name_allowed
has-name c p zero h t u = rw (le-leb 0 p h, t, name_allowed)
has-name c p (suc n) h t u = rw (le-leb (suc n) p h, u, ne_eqb (suc n) 0 (λ e. omega arith), name_allowed)

has-name-or-not : (c : Class) (p n : ℕ) → n ≤ p → must c ≡ false → may c ≡ true → name_allowed c p n ≡ true
unfolding name_allowed
has-name-or-not c p zero h t u = rw (le-leb 0 p h, t, name_allowed)
has-name-or-not c p (suc n) h t u = rw (le-leb (suc n) p h, u, name_allowed)

has-none : (c : Class) (p n : ℕ) → n ≤ p → must c ≡ false → may c ≡ false → name_allowed c p n ≡ eqb n 0
unfolding name_allowed
has-none c p zero h t u = rw (le-leb 0 p h, t, name_allowed)
has-none c p (suc n) h t u = rw (le-leb (suc n) p h, u, ne_eqb (suc n) 0 (λ e. omega arith), name_allowed)

-- and of the row's kind and detail
module _ (k d p n : ℕ) (a : detail_allowed k d ≡ true) (h : n ≤ p) where
  pub labeled-name : k ≡ 3 → name_allowed (class_of k d) p n ≡ not (eqb n 0)
  labeled-name e = has-name (class_of k d) p n h (must-of k d a ∙ rw e refl) (may_of k d a ∙ rw e refl)

  pub goto-name : k ≡ 11 → d ≡ 2 → name_allowed (class_of k d) p n ≡ not (eqb n 0)
  goto-name e f = has-name (class_of k d) p n h (must-of k d a ∙ rw (e, f) refl) (may_of k d a ∙ rw e refl)

  pub branch-name : k ≡ 11 → (d ≡ 2 → ⊥) → name_allowed (class_of k d) p n ≡ true
  branch-name e f = has-name-or-not (class_of k d) p n h (must-of k d a ∙ rw (e, ne_eqb d 2 f) refl) (may_of k d a ∙ rw e refl)

  pub other_name : (k ≡ 3 → ⊥) → (k ≡ 11 → ⊥) → name_allowed (class_of k d) p n ≡ eqb n 0
  other_name e f =
      has-none (class_of k d) p n h (must-of k d a ∙ rw (ne_eqb k 3 e, ne_eqb k 11 f) refl) (may_of k d a ∙ rw (ne_eqb k 3 e, ne_eqb k 11 f) refl)
