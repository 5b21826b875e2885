-- What the first half of the handbook's law says, written out: with an empty sheet each label other than `_` is declared once and named by a branch, and
-- each labelled branch has its lawful destination; and where all of that holds the sheet is empty. No statement here uses a name of specs/Law.antt for its
-- own meaning, so a weaker law doesn't give them. Then each of them on a body, both ways for body 1; body 6 has a 3 on its sheet, so it is not lawful.
-- Assumes nothing.
use mathlib.Core.Path.{◌≡◌, refl, sym, ◌∙◌}
use mathlib.Core.Bool.{true, false}
use mathlib.Core.List.{List, []}
use mathlib.Core.Option.{some}
use Prim.Native.Nat.{ℕ, zero, suc, ◌<◌}
use native.Mathlib.Omega.{arith}
use native.Mathlib.Decide.{dec_lt}
use Rattle.rules.specs.Rows.{row_count, name}
use Rattle.rules.specs.Class.{Class, block, labeled, for, break, continue, goto, fallthrough, declaration, is_branch, is_breakable, is_loop, class}
use Rattle.rules.specs.Names.{is_blank}
use Rattle.rules.specs.Refusals.{WellFormed}
use Rattle.rules.specs.Scope.{list_of, in_list_of}
use Rattle.rules.specs.Labels.{same_names, target, sheet}
use Rattle.rules.specs.Law.{Label, Lawful, lawful_break, lawful_continue, lawful_goto, AllLawful}
use Rattle.rules.specs.Bodies.{pairs, bytes, body1, body6, goto_and_back, fall_into_default, continue_outer}
use Rattle.rules.proofs.Computed.{computed}
use Rattle.rules.proofs.Test.{clash}
use Rattle.rules.proofs.Facts as facts
use Rattle.rules.proofs.ClassTests.{by-branch}
use Rattle.rules.proofs.RowNames.{goto-named}
use Rattle.rules.proofs.FromLawful.{of-goto, of-break, of-fallthrough}
use Rattle.rules.proofs.SheetLaw.{sheet-law}

module _ (w p b : List ℕ) where
  -- ---- the words of the law, from rows, classes and names alone

  -- a row of the body is a label other than `_`
  abbrev A-label : ℕ → Type 0
  A-label r = (r < row_count w) × (class w r ≡ labeled) × (is_blank p b (name w r) ≡ false)

  abbrev Once : Type 0
  Once = (r s : ℕ) → A-label r → A-label s → same_names w p b s r ≡ true → s ≡ r

  abbrev Named-by-a-branch : Type 0
  Named-by-a-branch = (r : ℕ) → A-label r → (g : ℕ) × (g < row_count w) × (is_branch (class w g) ≡ true) × (same_names w p b g r ≡ true)

  abbrev Breaks-leave : Type 0
  Breaks-leave = (g : ℕ) → g < row_count w → class w g ≡ break → 0 < name w g → (t : ℕ) × (target w p b g ≡ some t) × (is_breakable (class w (suc t)) ≡ true)

  abbrev Continues-loop : Type 0
  Continues-loop = (g : ℕ) → g < row_count w → class w g ≡ continue → 0 < name w g → (t : ℕ) × (target w p b g ≡ some t) × (is_loop (class w (suc t)) ≡ true)

  abbrev Gotos-land : Type 0
  Gotos-land = (g : ℕ) → g < row_count w → class w g ≡ goto → (r : ℕ) × A-label r × (same_names w p b r g ≡ true) × (in_list_of w r g ≡ true)
      × ((d : ℕ) → g < d → d < r → class w d ≡ declaration → list_of w d ≡ list_of w r → ⊥)

  abbrev No-labelled-fallthrough : Type 0
  No-labelled-fallthrough = (g : ℕ) → g < row_count w → class w g ≡ fallthrough → name w g ≡ 0

  module _ (wf : WellFormed w p b) where
    a-label : {r : ℕ} → A-label r → Label w p b r
    a-label (h, e, n) = record { row = h; labels = e; not_blank = n }

    label-a : {r : ℕ} → Label w p b r → A-label r
    label-a l = (l.row, l.labels, l.not_blank)

    -- ---- from an empty sheet
    module _ (empty : sheet w p b ≡ []) where
      lawful : AllLawful w p b
      lawful = (sheet-law w p b wf).0 empty

      pub empty-once : Once
      empty-once r s x y e = lawful.once r (a-label x) s (a-label y) e

      pub empty-named : Named-by-a-branch
      empty-named r x = let (g, i, t, s) = lawful.named r (a-label x) in (g, i, t, s)

      pub empty-breaks : Breaks-leave
      empty-breaks g h e n =
          let (t, f, u) = of-break (lawful.destinations g h (rw e) n) (rw e) in
          (t, f, rw e at u)

      pub empty-continues : Continues-loop
      empty-continues g h e n =
          let (t, f, u) = of-break (lawful.destinations g h (rw e) n) (rw e) in
          (t, f, rw e at u)

      pub empty-gotos : Gotos-land
      empty-gotos g h e =
          let (r, l, s, i, free) = of-goto (lawful.destinations g h (rw e) (goto-named (facts.body w p b wf) g h e)) e in
          (r, label-a l, s, i, free)

      pub empty-fallthrough : No-labelled-fallthrough
      empty-fallthrough g h e = elim (dec_lt 0 (name w g)) [
        | yes n ↦ absurd (of-fallthrough (lawful.destinations g h (rw e) n) e)
        | no n ↦ omega arith
      ]

    -- ---- and back
    pub lawful-empty : Once → Named-by-a-branch → Breaks-leave → Continues-loop → Gotos-land → No-labelled-fallthrough → sheet w p b ≡ []
    lawful-empty once named breaks continues gotos falls = (sheet-law w p b wf).1 (record {
      once = λ r x s y e. once r s (label-a x) (label-a y) e;
      named = λ r x. let (g, h, t, s) = named r (label-a x) in (g, h, t, s);
      destinations = λ g i t n. destination g i t n;
    })
      where
        destination : (g : ℕ) → g < row_count w → is_branch (class w g) ≡ true → 0 < name w g → Lawful w p b g
        destination g h t n = by-branch (class w g) t
            (λ e. let (k, f, u) = breaks g h e n in lawful_break e (k, f, rw e u))
            (λ e. let (k, f, u) = continues g h e n in lawful_continue e (k, f, rw e u))
            (λ e. let (r, l, s, i, free) = gotos g h e in lawful_goto e (r, a-label l, s, i, free))
            (λ e. absurd (omega (arith, falls g h e)))

-- ---- on bodies

-- L: for { break L }: lawful; the label stands once and the break names it; the break leaves the For
lawful-body1 : AllLawful body1 pairs bytes
unfolding computed
lawful-body1 = (sheet-law body1 pairs bytes refl).0 refl

label-once : (s : ℕ) → A-label body1 pairs bytes s → same_names body1 pairs bytes s 1 ≡ true → s ≡ 1
unfolding computed
label-once s x e = let h : 1 < 5 = omega arith in empty-once body1 pairs bytes refl refl 1 s (h, refl, refl) x e

label-named : (g : ℕ) × (g < 5) × (is_branch (class body1 g) ≡ true) × (same_names body1 pairs bytes g 1 ≡ true)
unfolding computed
label-named = let h : 1 < 5 = omega arith in empty-named body1 pairs bytes refl refl 1 (h, refl, refl)

break-leaves : (t : ℕ) × (target body1 pairs bytes 4 ≡ some t) × (is_breakable (class body1 (suc t)) ≡ true)
unfolding computed
break-leaves = let h : 4 < 5 = omega arith in let n : 0 < 1 = omega arith in empty-breaks body1 pairs bytes refl refl 4 h refl n

-- L: for { for c { continue L } }
continue-loops : (t : ℕ) × (target continue_outer pairs bytes 6 ≡ some t) × (is_loop (class continue_outer (suc t)) ≡ true)
unfolding computed
continue-loops = let h : 6 < 7 = omega arith in let n : 0 < 1 = omega arith in empty-continues continue_outer pairs bytes refl refl 6 h refl n

-- goto L; M: return; L: goto M
goto-lands : (r : ℕ) × A-label goto_and_back pairs bytes r × (same_names goto_and_back pairs bytes r 1 ≡ true) × (in_list_of goto_and_back r 1 ≡ true)
    × ((d : ℕ) → 1 < d → d < r → class goto_and_back d ≡ declaration → list_of goto_and_back d ≡ list_of goto_and_back r → ⊥)
unfolding computed
goto-lands = let h : 1 < 6 = omega arith in empty-gotos goto_and_back pairs bytes refl refl 1 h refl

-- switch { case: fallthrough; default: return }
fallthrough-unlabelled : name fall_into_default 4 ≡ 0
unfolding computed
fallthrough-unlabelled = let h : 4 < 7 = omega arith in empty-fallthrough fall_into_default pairs bytes refl refl 4 h refl

-- and back, of body 1: its one label is row 1, which the break of row 4 names, and the label is on the For
module _ (P : ℕ → Type 0) (p0 : P 0) (p1 : P 1) (p2 : P 2) (p3 : P 3) (p4 : P 4) where
  of-five : (r : ℕ) → r < 5 → P r
  of-five zero h = p0
  of-five (suc zero) h = p1
  of-five (suc (suc zero)) h = p2
  of-five (suc (suc (suc zero))) h = p3
  of-five (suc (suc (suc (suc zero)))) h = p4
  of-five (suc (suc (suc (suc (suc r))))) h = absurd (omega arith)

the-label : (r : ℕ) → A-label body1 pairs bytes r → r ≡ 1
unfolding computed
the-label r x = of-five (λ r. class body1 r ≡ labeled → r ≡ 1)
    (λ e. absurd (clash (cc))) (λ e. refl) (λ e. absurd (clash (cc))) (λ e. absurd (clash (cc))) (λ e. absurd (clash (cc))) r x.0 x.1

the-break : Breaks-leave body1 pairs bytes
unfolding computed
the-break g h e n = of-five
    (λ g. class body1 g ≡ break → (t : ℕ) × (target body1 pairs bytes g ≡ some t) × (is_breakable (class body1 (suc t)) ≡ true))
    (λ e. absurd (clash (cc))) (λ e. absurd (clash (cc))) (λ e. absurd (clash (cc))) (λ e. absurd (clash (cc))) (λ e. (1, refl, refl)) g h e

-- no row is of the class k
none_is : (k : Class) → (block ≡ k → ⊥) → (labeled ≡ k → ⊥) → (for ≡ k → ⊥) → (break ≡ k → ⊥) → (g : ℕ) → g < 5 → class body1 g ≡ k → ⊥
unfolding computed
none_is k b l f r = of-five (λ g. class body1 g ≡ k → ⊥) b l f b r

empty-body1 : sheet body1 pairs bytes ≡ []
unfolding computed
empty-body1 = lawful-empty body1 pairs bytes refl
    (λ r s x y e. the-label s y ∙ sym (the-label r x))
    (λ r x. let h : 4 < 5 = omega arith in (4, h, refl, rw (the-label r x)))
    the-break
    (λ g h e n. absurd (none_is continue (λ x. clash (cc)) (λ x. clash (cc)) (λ x. clash (cc)) (λ x. clash (cc)) g h e))
    (λ g h e. absurd (none_is goto (λ x. clash (cc)) (λ x. clash (cc)) (λ x. clash (cc)) (λ x. clash (cc)) g h e))
    (λ g h e. absurd (none_is fallthrough (λ x. clash (cc)) (λ x. clash (cc)) (λ x. clash (cc)) (λ x. clash (cc)) g h e))

-- goto L; x := 1; L: return
not-lawful : AllLawful body6 pairs bytes → ⊥
unfolding computed
not-lawful all = let e = (sheet-law body6 pairs bytes refl).1 all in clash (cc)
