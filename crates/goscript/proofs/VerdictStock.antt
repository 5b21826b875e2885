-- Stock's verdict is that of `rules` where no statement that a break can leave carries or holds a label: its search of such a statement then has no label
-- to look for and meets none, and without one it goes into no other such statement. So B and C change nothing.
-- Assumes nothing.
use mathlib.Core.Path.{◌≡◌}
use mathlib.Core.Bool.{true, false}
use mathlib.Core.List.{List}
use Prim.Native.Nat.{ℕ, zero, suc}
use native.Mathlib.Omega.{arith}
use Rattle.rules.specs.Verdict.{verdict as verdict_of}
use Rattle.rules.specs.Body.{Body}
use Rattle.breaks.specs.Leaves.{label_number}
use Rattle.breaks.proofs.Ranges.{label-of-first, no-label-on}
use Rattle.goscript.specs.Build.{stock}
use Rattle.goscript.specs.Returns.{verdict}
use Rattle.goscript.specs.Domains.{carries_label, none_labelled}
use Rattle.goscript.proofs.DomainRows.{not-labelled, holds-none}
use Rattle.goscript.proofs.VerdictRules.{same-verdict}

carries-none : (w : List ℕ) (s : ℕ) → carries_label w s ≡ false → label_number w s ≡ 0
unfolding carries_label
carries-none w zero f = label-of-first w
carries-none w (suc t) f = no-label-on w t f

pub stock-verdict : {w p b : List ℕ} → Body w p b → none_labelled w ≡ true → verdict stock w p b ≡ verdict_of w p b
stock-verdict {w} body d = same-verdict body (λ s row t.
    let (c, h) = not-labelled w d s row t in
    record { label = λ r l m e. absurd (holds-none w s h r l m e); implicit = λ l i. absurd (omega (arith, carries-none w s c)) })
