-- What the header's tests say: a start that passes has the length it says, and counts that nothing refuses are within their limits.
-- Assumes nothing.
use mathlib.Core.Path.{◌≡◌, refl, sym, ◌∙◌}
use mathlib.Core.Bool.{Bool, true, false, ◌||◌, not}
use mathlib.Core.List.{List}
use Prim.Native.Nat.{ℕ, ◌≤◌, ◌<◌}
use native.Mathlib.Omega.{arith}
use lib.Dec.{ltb, eqb}
use lib.ListN.{length}
use borrow.Author.Tests.{ltb-false, eqb-true, eqb-false, not-false}
use Rattle.rules.proofs.Test.{case-of, clash, or-false}
use Rattle.bodyfile.specs.File.{rows, names, bytes}
use Rattle.bodyfile.specs.Limits.{said, bad_start, count_refusal, Within}

pub or-last : (a : Bool) → a || true ≡ true
or-last true = refl
or-last false = refl

-- ---- a start that passes
pub start-passes : (file : List ℕ) (n : ℕ) → bad_start file n ≡ false → (12 ≤ length file) × (n ≡ said file)
unfolding bad_start
start-passes file n e =
    let o = or-false (ltb (length file) 12) (not (eqb n (said file))) e in
    (ltb-false (length file) 12 o.0, eqb-true n (said file) (not-false (eqb n (said file)) o.1))

-- ---- the counts
module _ (f : List ℕ) where
  pub rows-good : (eqb (rows f) 0 || ltb 2000 (rows f)) ≡ false → (0 < rows f) × (rows f ≤ 2000)
  rows-good t =
      let o = or-false (eqb (rows f) 0) (ltb 2000 (rows f)) t in
      let z = eqb-false (rows f) 0 o.0 in (omega arith, ltb-false 2000 (rows f) o.1)

  pub names-good : (ltb 500 (names f) || ltb 8000 (bytes f)) ≡ false → (names f ≤ 500) × (bytes f ≤ 8000)
  names-good t =
      let o = or-false (ltb 500 (names f)) (ltb 8000 (bytes f)) t in (ltb-false 500 (names f) o.0, ltb-false 8000 (bytes f) o.1)

  pub count-1 : (eqb (rows f) 0 || ltb 2000 (rows f)) ≡ true → count_refusal f ≡ 1
  unfolding count_refusal
  count-1 t = rw (t, count_refusal)

  pub count-2 : (eqb (rows f) 0 || ltb 2000 (rows f)) ≡ false → (ltb 500 (names f) || ltb 8000 (bytes f)) ≡ true → count_refusal f ≡ 2
  unfolding count_refusal
  count-2 t u = rw (t, u, count_refusal)

  pub count-0 : (eqb (rows f) 0 || ltb 2000 (rows f)) ≡ false → (ltb 500 (names f) || ltb 8000 (bytes f)) ≡ false → count_refusal f ≡ 0
  unfolding count_refusal
  count-0 t u = rw (t, u, count_refusal)

  pub within : count_refusal f ≡ 0 → Within f
  within e = case-of (eqb (rows f) 0 || ltb 2000 (rows f))
      (λ t. absurd (clash (sym e ∙ count-1 t)))
      (λ t. case-of (ltb 500 (names f) || ltb 8000 (bytes f))
      (λ u. absurd (omega (arith, count-2 t u)))
      (λ u.
      let r = rows-good t in
      let n = names-good u in record { some_rows = r.0; most_rows = r.1; most_names = n.0; most_bytes = n.1 }))
