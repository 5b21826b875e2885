-- From kind 21 on nothing is allowed, and no kind has a detail from 8 on. Below both, bit d of the kind's entry is set exactly when detail d is allowed,
-- which one test computes at each bit of DETAILS.
-- Assumes nothing.
use mathlib.Core.Path.{◌≡◌, refl, sym}
use mathlib.Core.Bool.{Bool, true, false}
use mathlib.Core.List.{List, [], ◌∷◌}
use Prim.Native.Nat.{ℕ, ◌/◌, ◌%◌, ◌^◌, ◌<◌, ◌≤◌}
use native.Mathlib.Omega.{arith}
use lib.Dec.{eqb}
use lib.ListN.{get_or}
use Rattle.rules.specs.Scan.{lowest}
use Rattle.rules.specs.Class.{detail_allowed}
use Rattle.rules.proofs.Test.{case-of}
use Rattle.rules.proofs.Every.{every, every-pair, same, same-eq}
use Rattle.rules.proofs.Details.{past-kinds, allowed-small}
use Rattle.rows.proofs.details.detail_allowed.Goals as goal

-- DETAILS
abbrev entries : List ℕ
entries = 0b0001 ∷ 0b0011 ∷ 0b0001 ∷ 0b0001 ∷ 0b0011 ∷ 0b0001 ∷ 0b0001 ∷ 0b0011 ∷ 0b0001 ∷ 0b0001 ∷ 0b0001 ∷ 0b1111 ∷ 0b0001 ∷ 0b0011 ∷ 0b0011
    ∷ 0b0001 ∷ 0b0001 ∷ 0b0011 ∷ 0b0001 ∷ 0b0011 ∷ 0b0001 ∷ []

-- whether bit d is set
abbrev bit : ℕ → ℕ → Bool
bit byte d = eqb (byte / 2 ^ d % 2) 1

-- bytes, bit d of entry k set exactly when detail d of kind k is allowed
abbrev right : List ℕ → Bool
right l = every 21 (λ k. every 8 (λ d. same (bit (get_or l k 0) d) (detail_allowed k d)))

by_bits : (l : List ℕ) (k d : ℕ) {byte : ℕ} → right l ≡ true → k < 21 → d < 8 → byte ≡ get_or l k 0 → bit byte d ≡ detail_allowed k d
by_bits l k d e h s b =
    rw b (same-eq (bit (get_or l k 0) d) (detail_allowed k d) (every-pair 21 8 (λ j i. same (bit (get_or l j 0) i) (detail_allowed j i)) e k d h s))

past-bits : (k d : ℕ) → 8 ≤ d → detail_allowed k d ≡ false
past-bits k d h = case-of (detail_allowed k d) (λ t. absurd (omega (arith, (allowed-small k d t).1))) (λ f. f)

pub returns-then-kind-ge21 : goal.returns-then-kind-ge21
returns-then-kind-ge21 c = sym (past-kinds _ _ c.if-kind-ge21.true)

pub returns-then-detail-ge8 : goal.returns-then-detail-ge8
returns-then-detail-ge8 c = sym (past-bits _ _ c.if-detail-ge8.true)

pub returns : goal.returns
unfolding every lowest detail_allowed
returns c = by_bits entries _ _ refl c.if-kind-ge21.false c.if-detail-ge8.false c.from-byte.ensures
