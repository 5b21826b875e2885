-- A fallthrough leaves the innermost Case around it: its list is a Case, and every Case is a list. The next Case begins where that one ends.
-- Assumes nothing.
use mathlib.Core.Path.{◌≡◌, refl, ◌∙◌, ap}
use mathlib.Core.Bool.{true}
use mathlib.Core.List.{List}
use mathlib.Core.Option.{none, some}
use Prim.Native.Nat.{ℕ, suc, ◌-◌, ◌≤◌, ◌<◌}
use native.Mathlib.Omega.{arith}
use Rattle.rules.specs.Scan.{lowest}
use Rattle.rules.specs.Rows.{row_count, end}
use Rattle.rules.specs.Class.{Class, fallthrough, is_case, class}
use Rattle.rules.specs.Body.{Body}
use Rattle.rules.specs.Scope.{is_list, innermost, list_of}
use Rattle.rules.specs.Labels.{word}
use Rattle.rules.specs.Placing.{placing}
use Rattle.rules.specs.Runner.{at, step}
use Rattle.rules.specs.Law.{AllLawful}
use Rattle.rules.proofs.Every.{every}
use Rattle.rules.proofs.ClassRules.{class-rule}
use Rattle.rules.proofs.Around.{NextCase, innermost-found, innermost-last, next-case}
use Rattle.rules.proofs.Lists.{found-innermost}
use Rattle.rules.proofs.Steps.{fallthrough-goes}
use Rattle.rules.proofs.Destinations.{falls}

case-list : (c : Class) → is_case c ≡ true → is_list c ≡ true
unfolding every lowest
case-list = class-rule is_case is_list refl

innermost-case : (w : List ℕ) (r n : ℕ) (c : NextCase w r n) → innermost w is_case r ≡ some c.clause
unfolding list_of
innermost-case w r n c =
    let i = innermost-found w is_list r c.clause c.listed in
    found-innermost w is_case r c.clause (record { before = i.before; reaches = i.reaches; passes = c.case_row })
    (λ q a j.
    innermost-last w is_list r c.clause q c.listed a
    (record { before = j.before; reaches = j.reaches; passes = case-list (class w q) j.passes }))

module _ {w p b : List ℕ} (body : Body w p b) (all : AllLawful w p b) (placed : placing w ≡ none) (g : ℕ) (row : g < row_count w) where
  pub fallthrough-step : (i : ℕ) → i ≡ word (innermost w is_case g) → class w g ≡ fallthrough
      → (0 < i) × (i ≤ row_count w) × (step w p b (at g) 0 ≡ some (at (end w (i - 1))))
  unfolding list_of
  fallthrough-step i y c =
      let (n, e) = falls body all placed g row c in
      let x = next-case w g n e in
      let z : i ≡ suc x.clause = y ∙ ap word (innermost-case w g n x) in
      let f : i - 1 ≡ x.clause = omega arith in
      let inner = innermost-found w is_list g x.clause x.listed in
      (omega arith, omega (arith, inner.before), rw (f, ← x.next) ((fallthrough-goes w p b g n c e).1 0))
