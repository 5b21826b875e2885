-- Some break refers to a statement exactly when some break leaves the rows below it: an unlabelled one refers to the innermost statement around it,
-- so nothing below holds it; and a labelled one names the label directly on the statement, however deep it stands.
-- Assumes nothing.
use mathlib.Core.Path.{◌≡◌, refl, sym, ◌∙◌, ap}
use mathlib.Core.Bool.{true}
use mathlib.Core.List.{List}
use Prim.Native.Nat.{ℕ, zero, suc, ◌<◌}
use native.Mathlib.Omega.{arith}
use native.Mathlib.Decide.{dec_lt, ℕ_discrete}
use Rattle.rules.specs.Rows.{row_count, name, end}
use Rattle.rules.specs.Class.{labeled, break, is_breakable, class}
use Rattle.rules.specs.Scope.{innermost}
use Rattle.rules.specs.Labels.{is_class}
use Rattle.rules.specs.Verdict.{refers_to, has_own_break}
use Rattle.rules.specs.Body.{Body}
use Rattle.rules.proofs.Test.{case-of, case-found}
use Rattle.rules.proofs.Every.{is_one}
use Rattle.rules.proofs.Around.{Innermost, innermost-found, innermost-last, innermost-none}
use Rattle.rules.proofs.RowNames.{same-sym, labeled-named}
use Rattle.rules.proofs.Terminating.{label-on as on-label-row, on-label, refers-inside, refers-innermost, refers-labelled, innermost-refers, label-refers}
use Rattle.rules.proofs.Terminating.{no-break, some-break}
use Rattle.breaks.specs.Leaves.{label_number, any_leaves}
use Rattle.breaks.proofs.Ranges.{label-of-first, label-on, no-label-on}
use Rattle.breaks.proofs.Leaving.{both, Leaves, plain, labelled, is-break, is-some, some_is}

-- a row with a label number stands right after the Labeled row that it is the name of
label-row : (w : List ℕ) (s : ℕ) → 0 < label_number w s → (t : ℕ) × (s ≡ suc t) × (class w t ≡ labeled)
label-row w zero n = absurd (omega (arith, label-of-first w))
label-row w (suc t) n = case-of (is_class w labeled t) (λ y. (t, refl, is_one (class w t) labeled y)) (λ f. absurd (omega (arith, no-label-on w t f)))

module _ {w p b : List ℕ} (body : Body w p b) (s : ℕ) (row : s < row_count w) (breakable : is_breakable (class w s) ≡ true) where
  -- ---- a break that refers to s leaves what stands below it
  referring-leaves : (g : ℕ) → class w g ≡ break → refers_to w p b g s ≡ true → Leaves w p b (suc s) (label_number w s) true g
  referring-leaves g e t = elim (dec_lt 0 (name w g)) [
    | yes n ↦
        let (q, i, l, u) = on-label w p b g s (label-refers w p b g s t n) in
        let z : name w q ≡ label_number w s = sym (ap (label_number w) i ∙ label-on w q l) in
        let o = labeled-named body q (omega arith) l in
        labelled e n (omega arith) (rw (← z) (same-sym w p b q g u))
    | no n ↦
        let o : name w g ≡ 0 = omega arith in
        let i = innermost-refers w p b g s t o in
        plain e o refl (λ k h l u m. innermost-last w is_breakable g s k i h (record { before = l; reaches = m; passes = u }))
  ]

  -- ---- and one that leaves it refers to s
  leaving-refers : (g : ℕ) → s < g → g < end w s → Leaves w p b (suc s) (label_number w s) true g → refers_to w p b g s ≡ true
  leaving-refers g h l (plain e n i x) = refers-innermost w p b g s n (case-found (innermost w is_breakable g)
      (λ k f. elim (dec_lt k s) [
        | yes m ↦ absurd (innermost-last w is_breakable g k s f m around)
        | no m ↦ elim (ℕ_discrete k s) [
          | yes q ↦ rw (← q) f
          | no o ↦ let j = innermost-found w is_breakable g k f in absurd (x k (omega arith) j.before j.passes j.reaches)
        ]
      ])
      (λ f. absurd (innermost-none w is_breakable g s f around)))
    where
      around : Innermost w is_breakable g s
      around = record { before = h; reaches = l; passes = breakable }
  leaving-refers g h l (labelled e n m u) =
      let (t, i, c) = label-row w s m in
      let z : label_number w s ≡ name w t = ap (label_number w) i ∙ label-on w t c in
      let y = on-label-row w p b g t c (same-sym w p b g t (rw z at u)) in
      refers-labelled w p b g s n (record { before = h; reaches = l; passes = breakable }) (rw i y)

  pub has-break-below : has_own_break w p b s ≡ any_leaves w p b (suc s) (end w s) (label_number w s) true
  has-break-below = both _ _
      (λ t.
      let (g, l, e, u) = some-break w p b s t in
      let i = refers-inside w p b g s u in
      some_is w p b (suc s) (end w s) (label_number w s) true (g, i.before, l, referring-leaves g e u))
      (λ t.
      let (g, h, l, x) = is-some w p b (suc s) (end w s) (label_number w s) true t in
      case-of (has_own_break w p b s) (λ y. y) (λ n. absurd (no-break w p b s g n l (is-break w p b x) (leaving-refers g h l x))))
