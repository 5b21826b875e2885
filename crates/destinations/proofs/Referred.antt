-- The row that a break, continue or goto refers to, by its words. A break or continue that is bound to a label refers to the row below that, whose number is
-- the binding word itself, and one that isn't to the innermost around it; a goto refers to the label.
-- Assumes nothing.
use mathlib.Core.Path.{◌≡◌, sym, ◌∙◌, ap}
use mathlib.Core.Bool.{Bool, true}
use mathlib.Core.List.{List, [], ◌∷◌}
use mathlib.Core.Option.{none, some}
use Prim.Native.Nat.{ℕ, zero, suc, ◌-◌, ◌≤◌, ◌<◌}
use native.Mathlib.Omega.{arith}
use native.Mathlib.Decide.{ℕ_discrete}
use Rattle.rules.specs.Rows.{row_count, name}
use Rattle.rules.specs.Class.{Class, break, continue, goto, one_of, is_breakable, is_loop, class}
use Rattle.rules.specs.Body.{Body}
use Rattle.rules.specs.Scope.{innermost}
use Rattle.rules.specs.Labels.{word, binding}
use Rattle.rules.specs.Placing.{placing}
use Rattle.rules.specs.Verdict.{label_on}
use Rattle.rules.specs.Runner.{at, after, goto_to, step}
use Rattle.rules.specs.Law.{AllLawful}
use Rattle.rules.proofs.ClassTests.{branch-goto}
use Rattle.rules.proofs.BindingRows.{binding-goto, branch-label}
use Rattle.rules.proofs.Terminating.{innermost-refers, label-refers}
use Rattle.rules.proofs.Steps.{break-goes, continue-goes, goto-goes, continue-unlabelled, continue-labelled}
use Rattle.rules.proofs.Destinations.{break-to, continue-to, goto-to, breaks, continues, gotos}
use Rattle.destinations.proofs.BoundTo.{one_statement, labelled-bound, unlabelled-bound}

-- the statement by the binding word v and the word i of the innermost row
abbrev pub referred : ℕ → ℕ → ℕ
referred v i = elim v [ zero ↦ i - 1 | suc t ↦ suc t ]

module _ {w p b : List ℕ} (body : Body w p b) (all : AllLawful w p b) (placed : placing w ≡ none) (g : ℕ) (row : g < row_count w) where
  -- s is what a break or continue refers to
  by-words : (P : Class → Bool) (s v i : ℕ) → one_of (break ∷ continue ∷ []) (class w g) ≡ true → s < g
      → (name w g ≡ 0 → innermost w P g ≡ some s) → (0 < name w g → label_on w p b g s ≡ true)
      → v ≡ binding w p b g → i ≡ word (innermost w P g) → (v ≡ 0 → 0 < i) × (referred v i ≡ s)
  by-words P s v i jumps before inner on x y = elim (ℕ_discrete (name w g) 0) [
    | yes n ↦
        let z : v ≡ 0 = x ∙ unlabelled-bound all g row jumps n in
        let o : i ≡ suc s = y ∙ ap word (inner n) in
        (λ u. omega arith, rw z (omega arith))
    | no n ↦
        let has : 0 < name w g = omega arith in
        let (d, bound) = labelled-bound all g row jumps has in
        let z : v ≡ suc d = x ∙ bound.bound in
        let o = one_statement all g d s bound (omega arith) (on has) in
        (λ u. absurd (omega arith), rw z (sym o))
  ]

  module _ (v i : ℕ) (x : v ≡ binding w p b g) where
    pub break-step : class w g ≡ break → i ≡ word (innermost w is_breakable g)
        → (v ≡ 0 → 0 < i) × (referred v i < row_count w) × (step w p b (at g) 0 ≡ some (after w (referred v i)))
    break-step c y =
        let (s, e) = breaks body all placed g row c in
        let (l, t) = break-to w p b g s e in
        let (h, f) = by-words is_breakable s v i (rw c) l (innermost-refers w p b g s t) (label-refers w p b g s t) x y in
        (h, omega arith, rw f ((break-goes w p b g s c e).1 0))

    pub continue-step : class w g ≡ continue → i ≡ word (innermost w is_loop g)
        → (v ≡ 0 → 0 < i) × (referred v i < row_count w) × (step w p b (at g) 0 ≡ some (at (referred v i)))
    continue-step c y =
        let (s, e) = continues body all placed g row c in
        let l = (continue-to w p b g s e).before in
        let (h, f) = by-words is_loop s v i (rw c) l (λ n. sym (continue-unlabelled w p b g n) ∙ e) (λ n. (continue-labelled w p b g s n e).2) x y in
        (h, omega arith, rw f ((continue-goes w p b g s c e).1 0))

  -- a goto's label is the row before the binding word's number
  pub goto-step : (v : ℕ) → v ≡ binding w p b g → class w g ≡ goto → (0 < v) × (v ≤ row_count w) × (step w p b (at g) 0 ≡ some (at (v - 1)))
  unfolding goto_to
  goto-step v x c =
      let (s, e) = gotos body all placed g row c in
      let z : v ≡ suc s = x ∙ binding-goto w p b g (branch-label w p b g (branch-goto (class w g) c)) c ∙ ap word e in
      let f : v - 1 ≡ s = omega arith in
      (omega arith, omega (arith, (goto-to w p b g s e).0), rw f ((goto-goes w p b g s c e).1 0))
