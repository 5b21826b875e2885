-- The pending gotos of the walk, one row further: a goto before the row stays pending unless the row is a later label of its; the row itself is pending
-- where it is a goto without an earlier label.
-- Assumes nothing.
use mathlib.Core.Path.{◌≡◌}
use mathlib.Core.Bool.{Bool, true, false, ◌&&◌}
use mathlib.Core.List.{List}
use mathlib.Core.Option.{none, some}
use Prim.Native.Nat.{ℕ, suc}
use native.Mathlib.Omega.{arith}
use lib.Dec.{eqb}
use borrow.Author.Tests.{eq-eqb, ne_eqb}
use Rattle.rules.specs.Class.{goto, class}
use Rattle.rules.specs.Labels.{is_label, earlier, pending}
use Rattle.rules.proofs.Test.{clash}
use Rattle.rules.proofs.Scan.{highest-same, highest-yes, highest-no}
use Rattle.rules.proofs.GotoRows.{is_later, later-none, pending-is, not-pending}
use Rattle.tables.specs.Canon.{row_canon}
use Rattle.walk_state.specs.Walk.{previous_pending}
use Rattle.walk_state.proofs.WalkBindings.{later_same, later-own, not-later}

module _ (w p b : List ℕ) where
  -- ---- one goto
  pub pending-same : (x g : ℕ) → is_later w p b g x ≡ false → pending w p b (suc x) g ≡ pending w p b x g
  unfolding pending
  pending-same x g f = rw (later_same w p b x g f, pending)

  -- it is resolved at x
  pub pending-found : (x g : ℕ) → is_later w p b g x ≡ true → pending w p b (suc x) g ≡ false
  pending-found x g t = not-pending w p b (suc x) g
      (λ y. clash (cc (later-none w p b (suc x) g x y.no-later (omega arith))))

  -- a row that is no goto, or has an earlier label
  pub pending-other : (x g : ℕ) → (class w g ≡ goto → ⊥) → pending w p b x g ≡ false
  pending-other x g n = not-pending w p b x g (λ y. n y.gotos)

  pub pending-earlier : (x g d : ℕ) → earlier w p b g ≡ some d → pending w p b x g ≡ false
  pending-earlier x g d e = not-pending w p b x g (λ y. clash (cc y.no-earlier))

  -- a goto when the walk has just passed it
  pub pending-own : (g : ℕ) → class w g ≡ goto → earlier w p b g ≡ none → pending w p b (suc g) g ≡ true
  pending-own g c e = pending-is w p b (suc g) g (record { gotos = c; no-earlier = e; no-later = later-own w p b g })

  -- ---- the latest of a name
  abbrev pub waits : ℕ → ℕ → ℕ → Bool
  waits x c h = pending w p b x h && eqb (row_canon w p b h) c

  -- a row that is no label changes none of those before it
  pub previous-same : (x c g : ℕ) → is_label w p b x ≡ false → previous_pending w p b (suc x) c g ≡ previous_pending w p b x c g
  unfolding previous_pending
  previous-same x c g n =
      highest-same (waits (suc x) c) (waits x c) g (λ h l. rw (pending-same x h (not-later w p b x h n)))

  -- the row x comes on top, or does not
  pub previous-top : (x g c : ℕ) → pending w p b x g ≡ true → row_canon w p b g ≡ c → previous_pending w p b x c (suc g) ≡ some g
  unfolding previous_pending
  previous-top x g c t e = highest-yes (waits x c) g (rw (t, eq-eqb (row_canon w p b g) c e))

  pub previous-other : (x g c : ℕ) → pending w p b x g ≡ true → (row_canon w p b g ≡ c → ⊥) → previous_pending w p b x c (suc g) ≡ previous_pending w p b x c g
  unfolding previous_pending
  previous-other x g c t n = highest-no (waits x c) g (rw (t, ne_eqb (row_canon w p b g) c n))

  pub previous-not : (x g c : ℕ) → pending w p b x g ≡ false → previous_pending w p b x c (suc g) ≡ previous_pending w p b x c g
  unfolding previous_pending
  previous-not x g c f = highest-no (waits x c) g (rw f)
