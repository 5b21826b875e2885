-- Bytes put behind bytes: the two together are put at the place of the first. So a function that puts several pieces, one behind the other, puts them all.
-- Assumes nothing.
use mathlib.Core.Path.{◌≡◌, ◌∙◌, ap}
use mathlib.Core.List.{List, ◌++◌, append_assoc}
use Prim.Native.Nat.{ℕ}
use native.Mathlib.Omega.{arith}
use lib.ListN.{take, length-append}
use Rattle.report_lines.specs.Wrote.{Wrote}

pub behind : {o o₁ o₂ : List ℕ} {at m e : ℕ} (x y : List ℕ) → Wrote o o₁ at x m → Wrote o₁ o₂ m y e → Wrote o o₂ at (x ++ y) e
behind {o} {o₁} {o₂} {at} {m} {e} x y f g = record {
  ends = omega (arith, f.ends, g.ends, length-append x y);
  same_length = g.same_length ∙ f.same_length;
  text = g.text ∙ ap (λ (l : List ℕ). l ++ y) f.text ∙ append_assoc (take at o) x y;
}

pub same_text : {o o' : List ℕ} {at e : ℕ} {x y : List ℕ} → x ≡ y → Wrote o o' at x e → Wrote o o' at y e
same_text q f = rw q at f
