-- With B and C mended goscript's verdict is that of `rules` on every body: its search keeps the label that it was given, and hides the unlabelled breaks
-- of every statement that a break can leave.
-- Assumes nothing.
use mathlib.Core.Path.{◌≡◌, refl}
use mathlib.Core.List.{List}
use Prim.Native.Nat.{ℕ}
use Rattle.rules.specs.Verdict.{verdict as verdict_of}
use Rattle.rules.specs.Body.{Body}
use Rattle.goscript.specs.Build.{mended_build}
use Rattle.goscript.specs.Returns.{verdict}
use Rattle.goscript.proofs.VerdictRules.{same-verdict}

pub mended-verdict : {w p b : List ℕ} → Body w p b → verdict mended_build w p b ≡ verdict_of w p b
mended-verdict body = same-verdict body (λ s row t. record { label = λ r l m e. refl; implicit = λ l i. refl })
