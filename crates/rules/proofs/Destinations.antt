-- No branch is stuck where all labelled branches are lawful and the others are well placed, and where each of them goes:
-- the target of a labelled break has the break inside a Block of it, so its statement is around the break, carries the label, and is what the break refers to.
-- Assumes nothing.
use mathlib.Core.Path.{◌≡◌, refl, sym, ◌∙◌}
use mathlib.Core.Bool.{Bool, true, false, ◌&&◌}
use mathlib.Core.List.{List, [], ◌∷◌}
use mathlib.Core.Option.{none, some}
use Prim.Native.Nat.{ℕ, suc, ◌<◌}
use native.Mathlib.Omega.{arith}
use lib.Dec.{ltb, eqb}
use borrow.Author.Tests.{ltb-true, eqb-true, eqb-false}
use Rattle.rules.specs.Scan.{lowest, highest}
use Rattle.rules.specs.Rows.{row_count, name, end}
use Rattle.rules.specs.Class.{Class, labeled, break, continue, goto, fallthrough, one_of, is_branch, is_breakable, is_loop, is_case, class}
use Rattle.rules.specs.Body.{Body}
use Rattle.rules.specs.Scope.{is_block, is_list, around, innermost, list_of, next_case}
use Rattle.rules.specs.Labels.{needs, labels, in_block_of, target}
use Rattle.rules.specs.Placing.{placing}
use Rattle.rules.specs.Verdict.{label_on, refers_to}
use Rattle.rules.specs.Runner.{break_to, continue_to, goto_to}
use Rattle.rules.specs.Law.{LawfulTarget, Lawful, lawful_break, lawful_continue, lawful_goto, AllLawful}
use Rattle.rules.proofs.Test.{case-of, case-found, clash, and-true}
use Rattle.rules.proofs.Scan.{highest-found, highest-none}
use Rattle.rules.proofs.Every.{every}
use Rattle.rules.proofs.Nesting.{item-next}
use Rattle.rules.proofs.ClassRules.{class-rule}
use Rattle.rules.proofs.Around.{around-true, true-around, Innermost, innermost-found, next-case}
use Rattle.rules.proofs.Found.{is-some}
use Rattle.rules.proofs.LabelRows.{labels-label}
use Rattle.rules.proofs.GotoRows.{goto-label}
use Rattle.rules.proofs.BreakRows.{is-target}
use Rattle.rules.proofs.FromLawful.{goto-bound}
use Rattle.rules.proofs.Terminating.{label-on, refers-innermost, refers-labelled}
use Rattle.rules.proofs.Lists.{case-block}
use Rattle.rules.proofs.Placed.{placed-well, well-break, well-continue, well-fallthrough, ends-none}
use Rattle.rules.proofs.Final.{child-in}

-- ---- rules of the classes
branch : (c : Class) → one_of (break ∷ continue ∷ []) c ≡ true → is_branch c ≡ true
unfolding every lowest
branch = class-rule (one_of (break ∷ continue ∷ [])) is_branch refl

module _ (w p b : List ℕ) where
  block-between : (t g : ℕ) → in_block_of w p b t g ≡ true → suc t < g
  unfolding in_block_of
  block-between t g e = case-found (innermost w is_block g)
      (λ k f. let u : ltb t k ≡ true = rw (f, in_block_of) at e in omega (arith, ltb-true t k u, (innermost-found w is_block g k f).before))
      (λ f. let z : false ≡ true = rw (f, in_block_of) at e in absurd (clash (cc)))

  -- ---- where each branch goes
  pub break-to : (g s : ℕ) → break_to w p b g ≡ some s → (s < g) × (refers_to w p b g s ≡ true)
  unfolding break_to
  break-to g s e = highest-found (refers_to w p b g) g s e

  pub continue-to : (g s : ℕ) → continue_to w p b g ≡ some s → Innermost w is_loop g s
  unfolding continue_to
  continue-to g s e = case-of (eqb (name w g) 0)
      (λ z. innermost-found w is_loop g s (rw (z, continue_to) at e))
      (λ z.
      let (m, u) = highest-found (λ s. around w g s && (is_loop (class w s) && label_on w p b g s)) g s (rw (z, continue_to) at e) in
      let a = and-true (around w g s) (is_loop (class w s) && label_on w p b g s) u in
      record { before = m; reaches = around-true w g s a.0; passes = (and-true (is_loop (class w s)) (label_on w p b g s) a.1).0 })

  pub goto-to : (g s : ℕ) → goto_to w p b g ≡ some s → (s < row_count w) × (class w s ≡ labeled)
  unfolding goto_to
  goto-to g s e =
      let (m, u, i) = goto-label w p b g s e in
      let d = (labels-label w p b g s m u).0 in
      (d.row, d.labels)

module _ {w p b : List ℕ} (body : Body w p b) where
  -- ---- the target of a labelled break or continue: its statement is around the branch, and the label is directly on it
  record Labelled (g t : ℕ) : Type 0 where
    before : suc t < g
    reaches : g < end w (suc t)
    labelled : label_on w p b g (suc t) ≡ true

  target-of : (g t : ℕ) → g < row_count w → target w p b g ≡ some t → Labelled g t
  target-of g t i e =
      let x = is-target w p b g t e in
      let m = x.before in
      let r = x.reaches in
      let (label, same) = labels-label w p b g t (omega arith) x.names in
      let k = label.labels in
      let o = body.one_statement t (omega arith) (rw k) in
      record { before = block-between w p b t g x.in_block; reaches = omega (arith, o.1); labelled = label-on w p b g t k same }

  target-around : (P : Class → Bool) (g t : ℕ) → Labelled g t → P (class w (suc t)) ≡ true → Innermost w P g (suc t)
  target-around P g t d e = record { before = d.before; reaches = d.reaches; passes = e }

  -- ---- a fallthrough

  -- the next Case is an item of the Block of its switch, as the Case is
  pub next-case-row : (g n : ℕ) → g < row_count w → next_case w g ≡ some n → (n < row_count w) × (is_case (class w n) ≡ true)
  unfolding list_of
  next-case-row g n i e =
      let c = next-case w g n e in
      let inner = innermost-found w is_list g c.clause c.listed in
      let (k, q, d) = case-block body c.clause c.home (omega (arith, i, inner.before)) c.case_row c.homed in
      let d' = item-next d c.more in
      let fit : is_case (class w (end w c.clause)) ≡ true = rw k at (body.child_fits c.home (end w c.clause) q d') in
      rw c.next (child-in body c.home q d', fit)

  -- ---- no branch is stuck
  module _ (lawful : AllLawful w p b) (placed : placing w ≡ none) where
    named : (g : ℕ) → eqb (name w g) 0 ≡ false → 0 < name w g
    named g z = omega (arith, eqb-false (name w g) 0 z)

    -- a labelled break or continue has its target
    abbrev HasTarget : ℕ → Type 0
    HasTarget g = (t : ℕ) × Labelled g t × (needs (class w g) (class w (suc t)) ≡ true)

    has-target : (g : ℕ) → g < row_count w → one_of (break ∷ continue ∷ []) (class w g) ≡ true → 0 < name w g → HasTarget g
    has-target g i c n = from-lawful (lawful.destinations g i (branch (class w g) c) n)
      where
        of-target : LawfulTarget w p b g → HasTarget g
        of-target (t, e, u) = (t, target-of g t i e, u)

        from-lawful : Lawful w p b g → HasTarget g
        from-lawful (lawful_break e t) = of-target t
        from-lawful (lawful_continue e t) = of-target t
        from-lawful (lawful_goto e t) = absurd (let z : false ≡ true = rw e at c in clash (cc))

    breaks-out : (g : ℕ) → g < row_count w → class w g ≡ break → (s : ℕ) × (s < g) × (refers_to w p b g s ≡ true)
    breaks-out g i e = case-of (eqb (name w g) 0)
        (λ z.
        let n = eqb-true (name w g) 0 z in
        let t = sym (well-break w g e) ∙ placed-well w placed g i n in
        let (s, f) = is-some (innermost w is_breakable g) t in
        (s, (innermost-found w is_breakable g s f).before, refers-innermost w p b g s n f))
        (λ z.
        let n = named g z in
        let (t, d, u) = has-target g i (rw e) n in
        let v : is_breakable (class w (suc t)) ≡ true = rw e at u in
        (suc t, d.before, refers-labelled w p b g (suc t) n (target-around is_breakable g t d v) d.labelled))

    pub breaks : (g : ℕ) → g < row_count w → class w g ≡ break → (s : ℕ) × (break_to w p b g ≡ some s)
    unfolding break_to
    breaks g i e =
        let (s, m, t) = breaks-out g i e in
        case-found (break_to w p b g) (λ k f. (k, f)) (λ f. absurd (let z = highest-none (refers_to w p b g) g s f m in clash (cc)))

    pub continues : (g : ℕ) → g < row_count w → class w g ≡ continue → (s : ℕ) × (continue_to w p b g ≡ some s)
    unfolding continue_to
    continues g i e = case-of (eqb (name w g) 0)
        (λ z.
        let t = sym (well-continue w g e) ∙ placed-well w placed g i (eqb-true (name w g) 0 z) in
        let (s, f) = is-some (innermost w is_loop g) t in
        (s, rw (z, continue_to) f))
        (λ z.
        let (t, d, u) = has-target g i (rw e) (named g z) in
        let v : is_loop (class w (suc t)) ≡ true = rw e at u in
        let a = true-around w g (suc t) d.reaches in
        let P : ℕ → Bool = λ s. around w g s && (is_loop (class w s) && label_on w p b g s) in
        let y : P (suc t) ≡ true = rw (a, v, d.labelled) in
        case-found (highest P g) (λ k f. (k, rw (z, continue_to) f)) (λ f. absurd (let x = highest-none P g (suc t) f d.before in clash (cc))))

    pub gotos : (g : ℕ) → g < row_count w → class w g ≡ goto → (s : ℕ) × (goto_to w p b g ≡ some s)
    unfolding goto_to
    gotos g i e = goto-bound w p b body lawful g i e

    pub falls : (g : ℕ) → g < row_count w → class w g ≡ fallthrough → (s : ℕ) × (next_case w g ≡ some s)
    falls g i e = case-of (eqb (name w g) 0)
        (λ z.
        let t = sym (well-fallthrough w g e) ∙ placed-well w placed g i (eqb-true (name w g) 0 z) in
        case-found (next_case w g) (λ n f. (n, f)) (λ f. let x = ends-none w g f in absurd (clash (cc))))
        (λ z. absurd (from-lawful (lawful.destinations g i (rw e) (named g z))))
      where
        from-lawful : Lawful w p b g → ⊥
        from-lawful (lawful_break c t) = clash (cc)
        from-lawful (lawful_continue c t) = clash (cc)
        from-lawful (lawful_goto c t) = clash (cc)
