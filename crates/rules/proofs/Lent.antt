-- The lent sheet and bindings: when they are too short (refusal 7), and what writing leaves in them. Only the lengths decide; new words stand at the
-- start, and every word past them is the one that was lent. Then both on small buffers, each side of the limit.
-- Assumes nothing.
use mathlib.Core.Path.{◌≡◌, refl, sym, ap, ◌∙◌}
use mathlib.Core.Bool.{true, false}
use mathlib.Core.List.{List, [], ◌∷◌, ◌++◌}
use Prim.Native.Nat.{ℕ, ◌*◌, ◌≤◌, ◌<◌}
use native.Mathlib.Omega.{arith}
use lib.Dec.{ltb}
use lib.ListN.{length, take, drop, replicate, length-append, length-drop, take-append-drop}
use lib.Seq.{take-append_seam, drop-append_seam}
use borrow.Author.Tests.{ltb-false, lt-ltb, le-ltb}
use Rattle.rules.specs.Rows.{row_count}
use Rattle.rules.specs.Calls.{too_short, written}
use Rattle.rules.specs.Bodies.{body1}
use Rattle.rules.proofs.Test.{or-false}

-- ---- 7
module _ (w s t : List ℕ) where
  pub short-sheet : length s < row_count w * 8 → too_short w s t ≡ true
  unfolding too_short
  short-sheet h = rw (lt-ltb (length s) (row_count w * 8) h, too_short)

  pub short-bindings : row_count w * 8 ≤ length s → length t < row_count w → too_short w s t ≡ true
  unfolding too_short
  short-bindings h l = rw (le-ltb (length s) (row_count w * 8) h, lt-ltb (length t) (row_count w) l, too_short)

  pub room : row_count w * 8 ≤ length s → row_count w ≤ length t → too_short w s t ≡ false
  unfolding too_short
  room h l = rw (le-ltb (length s) (row_count w * 8) h, le-ltb (length t) (row_count w) l, too_short)

  pub has_room : too_short w s t ≡ false → (row_count w * 8 ≤ length s) × (row_count w ≤ length t)
  unfolding too_short
  has_room e =
      let o = or-false (ltb (length s) (row_count w * 8)) (ltb (length t) (row_count w)) e in
      (ltb-false (length s) (row_count w * 8) o.0, ltb-false (length t) (row_count w) o.1)

-- ---- what writing leaves
module _ (new old : List ℕ) where
  pub written_start : take (length new) (written new old) ≡ new
  written_start = take-append_seam new (drop (length new) old)

  pub written-rest : drop (length new) (written new old) ≡ drop (length new) old
  written-rest = drop-append_seam new (drop (length new) old)

  pub written-length : length new ≤ length old → length (written new old) ≡ length old
  written-length h = omega (arith, length-append new (drop (length new) old), length-drop (length new) old)

  -- and so nothing else can be left
  pub is-written : (after : List ℕ) (n : ℕ) → n ≡ length new → take n after ≡ new → drop n after ≡ drop n old → after ≡ written new old
  is-written after n e f g =
      sym (take-append-drop n after)
      ∙ ap (λ (l : List ℕ). l ++ drop n after) f
      ∙ ap (λ (l : List ℕ). new ++ l) g
      ∙ ap (λ (k : ℕ). new ++ drop k old) e

-- ---- on buffers: body 1 has five rows, so 40 words of sheet and 5 of bindings are the least
pub least-room : (too_short body1 (replicate 40 7) (replicate 5 7) ≡ false)
    × (too_short body1 (replicate 39 7) (replicate 5 7) ≡ true)
    × (too_short body1 (replicate 40 7) (replicate 4 7) ≡ true)
    × (too_short body1 [] [] ≡ true)
unfolding too_short
least-room = (refl, refl, refl, refl)

pub two-of-three : written (1 ∷ 2 ∷ []) (7 ∷ 8 ∷ 9 ∷ []) ≡ 1 ∷ 2 ∷ 9 ∷ []
two-of-three = refl
