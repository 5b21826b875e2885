-- Where all labels and labelled branches are lawful, no fault is reported. A label is the only one of its name, so a goto is resolved at its lawful label,
-- with no declaration between (no 1 to 3, 7, 8); a labelled break or continue has its target, and no fallthrough has a label (no 4 to 6);
-- and the branch that names a label is bound to it (no 9).
-- Assumes nothing.
use mathlib.Core.Path.{◌≡◌, sym, ◌∙◌}
use mathlib.Core.Bool.{true, false}
use mathlib.Core.List.{List, [], ◌∷◌}
use mathlib.Core.Option.{some}
use Prim.Native.Nat.{ℕ, suc, ◌<◌}
use native.Mathlib.Omega.{arith}
use native.Mathlib.Decide.{dec_lt}
use Rattle.rules.specs.Rows.{row_count, name}
use Rattle.rules.specs.Class.{labeled, break, continue, goto, fallthrough, one_of, class}
use Rattle.rules.specs.Body.{Body}
use Rattle.rules.specs.Labels.{each, same_names, is_label, labels, declared, goto_label, latest_declaration, labelled_break, binding, jumps_over, repeated}
use Rattle.rules.specs.Labels.{report, used, declared_at, unused}
use Rattle.rules.specs.Law.{Label, LawfulTarget, LawfulLabel, Lawful, lawful_break, lawful_continue, lawful_goto, AllLawful}
use Rattle.rules.proofs.Test.{case-of, case-found, clash}
use Rattle.rules.proofs.Each.{none-append, none_each, none_only}
use Rattle.rules.proofs.ClassTests.{break-branch, branch-goto, branch-fallthrough}
use Rattle.rules.proofs.RowNames.{same-sym, same-trans, same-own, labeled-named, goto-named, same-named}
use Rattle.rules.proofs.LabelRows.{is-label, label-labels, labels-label, is_declared_lem, some-declared}
use Rattle.rules.proofs.GotoRows.{earlier-is, parts-later, later-none, goto-label, some-goto-label, is-latest, Pending, is-pending, not-pending}
use Rattle.rules.proofs.BreakRows.{labelled-is, is-labelled, valid-is}
use Rattle.rules.proofs.BindingRows.{binding-goto, binding-break, branch-label}
use Rattle.rules.proofs.SheetRows.{is_over, is-over, jumps-none, jumps-some, repeated-not, report-label, report-valid, report-other, unresolved-not}
use Rattle.rules.proofs.SheetRows.{uses-binding, used-is, is-ranked, is-declared-at, unused-none, unused-not, NoFault}

-- ---- the destination by the branch's class
module _ {w p b : List ℕ} {g : ℕ} where
  pub of-goto : Lawful w p b g → class w g ≡ goto → LawfulLabel w p b g
  of-goto (lawful_break f t) e = absurd (clash (cc))
  of-goto (lawful_continue f t) e = absurd (clash (cc))
  of-goto (lawful_goto f l) e = l

  pub of-break : Lawful w p b g → one_of (break ∷ continue ∷ []) (class w g) ≡ true → LawfulTarget w p b g
  of-break (lawful_break f t) e = t
  of-break (lawful_continue f t) e = t
  of-break (lawful_goto f l) e = let z : false ≡ true = rw f at e in absurd (clash (cc))

  pub of-fallthrough : Lawful w p b g → class w g ≡ fallthrough → ⊥
  of-fallthrough (lawful_break f t) e = clash (cc)
  of-fallthrough (lawful_continue f t) e = clash (cc)
  of-fallthrough (lawful_goto f l) e = clash (cc)

module _ (w p b : List ℕ) (body : Body w p b) (all : AllLawful w p b) where
  -- a label is the only one of its name
  one_label : (g r s : ℕ) → Label w p b r → same_names w p b r g ≡ true → s < row_count w → labels w p b g s ≡ true → s ≡ r
  one_label g r s l t h u =
      let x = labels-label w p b g s h u in
      all.once r l s x.0 (same-trans w p b s g r x.1 (same-sym w p b r g t))

  lawful-declared : (g r : ℕ) → Label w p b r → same_names w p b r g ≡ true → declared w p b g ≡ some r
  lawful-declared g r l t =
      let (d, e, h) = some-declared w p b g r l.row (label-labels w p b g r l t) in
      let x = is_declared_lem w p b g d e in
      rw (one_label g r d l t x.0 x.1) at e

  lawful-label : (g : ℕ) → g < row_count w → class w g ≡ goto → LawfulLabel w p b g
  lawful-label g l e =
      of-goto (all.destinations g l (branch-goto (class w g) e) (goto-named body g l e)) e

  -- ---- 3: a goto that is resolved at a label is so at its lawful one
  not-over : (r g d : ℕ) → Label w p b r → g < r → latest_declaration w p b r ≡ some d → is_over w p b r g d ≡ true → ⊥
  not-over r g d l h e t =
      let x = is-over w p b r g d t in
      let y = is-pending w p b r g x.waits in
      let (k, lk, s, i, free) = lawful-label g (omega (arith, l.row)) y.gotos in
      let same : r ≡ k = one_label g k r lk s l.row x.names in
      let (before, z) = is-latest w p b r d e in
      let (m, er, ed) = z.list in
      free d x.before (omega arith) z.declares (rw (← same) (ed ∙ sym er))

  no_jump : (r g : ℕ) → Label w p b r → g < r → jumps_over w p b r g ≡ []
  no_jump r g l h = case-found (latest_declaration w p b r)
      (λ d e. jumps-some w p b r g d e ∙ none_only (is_over w p b r g d) _
      (case-of (is_over w p b r g d) (λ t. absurd (not-over r g d l h e t)) (λ f. f)))
      (λ e. jumps-none w p b r g e)

  -- ---- 1 to 6
  no-report : (r : ℕ) → r < row_count w → report w p b r ≡ []
  no-report r h = case-of (is_label w p b r)
      (λ t.
      let l = is-label w p b r h t in
      report-label w p b r t
      ∙ none-append (repeated w p b r) (each (jumps_over w p b r) r)
      (repeated-not w p b r (lawful-declared r r l (same-own w p b r)))
      (none_each (jumps_over w p b r) r (λ g. no_jump r g l)))
      (λ n. case-of (labelled_break w p b r)
      (λ t.
      let x = is-labelled w p b r t in
      let v = of-break (all.destinations r h (break-branch (class w r) x.breaks) x.has-name) x.breaks in
      report-valid w p b r n t (valid-is w p b r v))
      (λ f. report-other w p b r n f
      (λ x. let e = x.falls-through in of-fallthrough (all.destinations r h (branch-fallthrough (class w r) e) x.has-name) e)))

  -- ---- 7 and 8
  no-wait : (g : ℕ) → g < row_count w → Pending w p b (row_count w) g → ⊥
  no-wait g h y =
      let (r, l, s, i, free) = lawful-label g h y.gotos in
      elim (dec_lt r g) [
        | yes a ↦ clash (cc (earlier-is w p b g r (lawful-declared g r l s) a i, y.no-earlier))
        | no a ↦
            elim (dec_lt g r) [
              | yes c ↦
                  clash (cc (
                    later-none w p b (row_count w) g r y.no-later l.row,
                    parts-later w p b g r c (label-labels w p b g r l s) i,
                  ))
              | no c ↦
                  let same : r ≡ g = omega arith in
                  let z : class w g ≡ labeled = rw same at l.labels in
                  clash (cc y.gotos)
            ]
      ]

  -- so a goto binds to a label
  pub goto-bound : (g : ℕ) → g < row_count w → class w g ≡ goto → (d : ℕ) × (goto_label w p b g ≡ some d)
  goto-bound g l e = some-goto-label w p b g e (not-pending w p b (row_count w) g (no-wait g l))

  -- ---- 9
  module _ (g d : ℕ) (row : g < row_count w) (l : Label w p b d) (s : same_names w p b d g ≡ true) where
    goto-word : class w g ≡ goto → binding w p b g ≡ suc d
    goto-word e =
        let (k, f) = goto-bound g row e in
        let y = goto-label w p b g k f in
        let same : k ≡ d = one_label g d k l s y.0 y.1 in
        binding-goto w p b g (branch-label w p b g (branch-goto (class w g) e)) e ∙ rw (f, same)

    break-binding : one_of (break ∷ continue ∷ []) (class w g) ≡ true → 0 < name w g → LawfulTarget w p b g → binding w p b g ≡ suc d
    break-binding t z v =
        binding-break w p b g (branch-label w p b g (break-branch (class w g) t)) (λ e. let y : false ≡ true = rw e at t in clash (cc))
        (labelled-is w p b g (record { breaks = t; has-name = z })) (valid-is w p b g v)
        ∙ rw (lawful-declared g d l s)

    lawful-binding : 0 < name w g → Lawful w p b g → binding w p b g ≡ suc d
    lawful-binding z (lawful_break e v) = break-binding (rw e) z v
    lawful-binding z (lawful_continue e v) = break-binding (rw e) z v
    lawful-binding z (lawful_goto e v) = goto-word e

  label-used : (d : ℕ) → Label w p b d → used w p b d ≡ true
  label-used d l =
      let (g, row, t, s) = all.named d l in
      let r = l.row in
      let z = same-named body d r g (labeled-named body d r l.labels) s in
      let e = lawful-binding g d row l (same-sym w p b g d s) z (all.destinations g row t z) in
      used-is w p b d g row (uses-binding w p b d g t e)

  no-unused : (c : ℕ) → unused w p b c ≡ []
  no-unused c = case-found (declared_at w p b c)
      (λ d e.
      let x = is-declared-at w p b c d e in
      unused-not w p b c d e (label-used d (is-label w p b d x.0 (is-ranked w p b c d x.1).0)))
      (λ e. unused-none w p b c e)

  pub no_fault : NoFault w p b
  no_fault = record {
    rows = no-report;
    gotos = λ g h. unresolved-not w p b g (not-pending w p b (row_count w) g (no-wait g h));
    names = λ i h. no-unused (suc i);
  }
