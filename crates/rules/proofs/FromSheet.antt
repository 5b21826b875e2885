-- Where no fault is reported, all labels and labelled branches are lawful. Without a 1 each label is the first of its name, so it is the only one;
-- without a 9 some branch is bound to it, and that has its name; without a 7 or 8 a goto has its label, and where this is later, without a 3,
-- the latest declaration before it is not after the goto, hence none is between; without a 4 to 6 the targets are valid.
-- Assumes nothing.
use mathlib.Core.Path.{◌≡◌, refl, sym, ◌∙◌}
use mathlib.Core.Bool.{true, false}
use mathlib.Core.Logic.{inl, inr}
use mathlib.Core.List.{List, [], ◌∷◌}
use mathlib.Core.Option.{none, some}
use Prim.Native.Nat.{ℕ, suc, ◌-◌, ◌<◌}
use native.Mathlib.Omega.{arith}
use native.Mathlib.Decide.{dec_lt, ℕ_discrete}
use Rattle.rules.specs.Rows.{row_count, name}
use Rattle.rules.specs.Class.{declaration, break, continue, goto, one_of, is_branch, class}
use Rattle.rules.specs.Names.{rank}
use Rattle.rules.specs.Scope.{list_of}
use Rattle.rules.specs.Body.{Body}
use Rattle.rules.specs.Labels.{each, same_names, declared, earlier, later, latest_declaration, pending, valid_target, jumps_over, repeated, used}
use Rattle.rules.specs.Labels.{declared_at, unused}
use Rattle.rules.specs.Law.{Label, DeclaredOnce, Named, LawfulTarget, LawfulLabel, Lawful, lawful_break, lawful_continue, lawful_goto, AllLawful}
use Rattle.rules.proofs.Test.{case-of, case-found, clash}
use Rattle.rules.proofs.Order.{rank_same, rank-above, rank-within}
use Rattle.rules.proofs.Each.{append-none, each_none, only_none}
use Rattle.rules.proofs.ClassTests.{by-branch, by-break, break-branch}
use Rattle.rules.proofs.RowNames.{same-sym, same-own, bytes_same, name-within, labeled-named}
use Rattle.rules.proofs.LabelRows.{label_is, is-label, label-labels, labels-label, is_declared_lem, declared-first, some-declared}
use Rattle.rules.proofs.GotoRows.{in_list, is-earlier, later-parts, is_later_lem, later_first, none-later, Declares, latest-last, latest-none}
use Rattle.rules.proofs.GotoRows.{pending-is, resolved}
use Rattle.rules.proofs.BreakRows.{labelled-is, other-labelled, is-valid}
use Rattle.rules.proofs.BindingRows.{branch-label, bound}
use Rattle.rules.proofs.SheetRows.{is_over, over-is, jumps-some, repeated-is, report-label, report-break, report-continue, report-fallthrough}
use Rattle.rules.proofs.SheetRows.{unresolved-declared, unresolved-none, uses-cases, is-used, ranked-is, is-ranked, is-declared-at, declared-at-none}
use Rattle.rules.proofs.SheetRows.{unused-is, NoFault}

module _ (w p b : List ℕ) (body : Body w p b) (clean : NoFault w p b) where
  -- ---- no 1 to 3 at a label
  module _ (r : ℕ) (l : Label w p b r) where
    at_label : (repeated w p b r ≡ []) × (each (jumps_over w p b r) r ≡ [])
    at_label =
        append-none (repeated w p b r) (each (jumps_over w p b r) r)
        (sym (report-label w p b r (label_is w p b r l)) ∙ clean.rows r l.row)

    declared-self : declared w p b r ≡ some r
    declared-self =
        let (d, e, h) = some-declared w p b r r l.row (label-labels w p b r r l (same-own w p b r)) in
        elim (ℕ_discrete d r) [ yes i ↦ rw i at e | no n ↦ absurd (clash (cc (repeated-is w p b r d e n, at_label.0))) ]

    -- the label before r is none
    not-before : (s : ℕ) → Label w p b s → same_names w p b s r ≡ true → s < r → ⊥
    not-before s m t h = clash (cc (declared-first w p b r r s declared-self h, label-labels w p b r s m t))

  once : (r : ℕ) → Label w p b r → DeclaredOnce w p b r
  once r l s m t = elim (dec_lt s r) [
    | yes h ↦ absurd (not-before r l s m t h)
    | no h ↦ elim (dec_lt r s) [ yes k ↦ absurd (not-before s m r l (same-sym w p b s r t) k) | no k ↦ omega arith ]
  ]

  -- ---- no 7 or 8
  no-wait : (g : ℕ) → g < row_count w → pending w p b (row_count w) g ≡ false
  no-wait g h = case-of (pending w p b (row_count w) g)
      (λ t. case-found (declared w p b g)
      (λ d e. absurd (clash (cc (unresolved-declared w p b g d t e, clean.gotos g h))))
      (λ e. absurd (clash (cc (unresolved-none w p b g t e, clean.gotos g h)))))
      (λ f. f)

  -- ---- no 9

  -- a used label is named by what is bound to it
  used-named : (d : ℕ) → used w p b d ≡ true → Named w p b d
  used-named d t =
      let (g, h, u) = is-used w p b d t in
      let (c, x) = uses-cases w p b d g u in
      elim x [
        | inl e ↦
            let (k, y) = bound w p b g d c e in
            (g, h, c, same-sym w p b d g (labels-label w p b g d k y).1)
        | inr y ↦ absurd (clash (cc (y.0, no-wait g h)))
      ]

  -- the label with the canonical number of a name has that name
  ranked-same : (r d : ℕ) → Label w p b r → Label w p b d → rank p b (name w d) ≡ rank p b (name w r) → same_names w p b d r ≡ true
  ranked-same r d l m e =
      let h = l.row in
      let k = m.row in
      bytes_same p b (name w d) (name w r)
      (rank_same p b (name w d) (name w r)
      (labeled-named body d k m.labels) (name-within body d k) (labeled-named body r h l.labels) (name-within body r h) e)

  clean-rank : (r : ℕ) → Label w p b r → unused w p b (rank p b (name w r)) ≡ []
  clean-rank r l =
      let h = l.row in
      let c = rank p b (name w r) in
      let above = rank-above p b (name w r) in
      let within = rank-within p b (name w r) (labeled-named body r h l.labels) (name-within body r h) in
      let e : suc (c - 1) ≡ c = omega arith in
      rw e at (clean.names (c - 1) (omega arith))

  named : (r : ℕ) → Label w p b r → Named w p b r
  named r l =
      let c = rank p b (name w r) in
      case-found (declared_at w p b c)
      (λ d e.
      let x = is-declared-at w p b c d e in
      let y = is-ranked w p b c d x.1 in
      let m = is-label w p b d x.0 y.0 in
      let same : d ≡ r = once r l d m (ranked-same r d l m y.1) in
      case-of (used w p b d)
      (λ t. rw same at (used-named d t))
      (λ f. absurd (clash (cc (unused-is w p b c d e f, clean-rank r l)))))
      (λ e. absurd (clash (cc (declared-at-none w p b c r e l.row, ranked-is w p b c r (label_is w p b r l) refl))))

  -- ---- no 3 to 8 at a branch
  module _ (g : ℕ) (row : g < row_count w) where
    earlier-label : (d : ℕ) → earlier w p b g ≡ some d → LawfulLabel w p b g
    earlier-label d e =
        let (f, h, i) = is-earlier w p b g d e in
        let x = is_declared_lem w p b g d f in
        let (l, s) = labels-label w p b g d x.0 x.1 in
        (d, l, s, i, λ k a c y z. absurd (omega arith))

    -- a declaration between the goto and its later label: the latest one would be jumped over
    between : (r d : ℕ) → class w g ≡ goto → earlier w p b g ≡ none → later w p b (row_count w) g ≡ some r
        → g < d → d < r → class w d ≡ declaration → list_of w d ≡ list_of w r → ⊥
    between r d c e f a z y same =
        let (h, t) = is_later_lem w p b (row_count w) g r f in
        let (after, names, i) = later-parts w p b g r t in
        let l = (labels-label w p b g r h names).0 in
        let (m, er, _, _) = in_list w r g i in
        let x : Declares w p b r d = record { declares = y; list = (m, er, same ∙ er) } in
        let waits = pending-is w p b r g
        (record { gotos = c; no-earlier = e; no-later = none-later w p b r g (λ k q. later_first w p b (row_count w) g r k f q) }) in
        case-found (latest_declaration w p b r)
        (λ k u.
        let none = sym (jumps-some w p b r g k u) ∙ each_none (jumps_over w p b r) r g (at_label r l).1 after in
        let fails = only_none (is_over w p b r g k) _ none in
        elim (dec_lt g k) [
          | yes v ↦ clash (cc (over-is w p b r g k (record { waits = waits; names = names; in_list = i; before = v })))
          | no v ↦ latest-last w p b r k d u (omega arith) z x
        ])
        (λ u. latest-none w p b r d u z x)

    later-label : (r : ℕ) → class w g ≡ goto → earlier w p b g ≡ none → later w p b (row_count w) g ≡ some r → LawfulLabel w p b g
    later-label r c e f =
        let (h, t) = is_later_lem w p b (row_count w) g r f in
        let (after, names, i) = later-parts w p b g r t in
        let (l, s) = labels-label w p b g r h names in
        (r, l, s, i, λ d. between r d c e f)

    goto-lawful : class w g ≡ goto → LawfulLabel w p b g
    goto-lawful c = elim (resolved w p b (row_count w) g c (no-wait g row)) [
      | inl x ↦ earlier-label x.0 x.1
      | inr x ↦ later-label x.1.0 c x.0 x.1.1
    ]

    break-lawful : one_of (break ∷ continue ∷ []) (class w g) ≡ true → 0 < name w g → LawfulTarget w p b g
    break-lawful t z =
        let n = branch-label w p b g (break-branch (class w g) t) in
        let l = labelled-is w p b g (record { breaks = t; has-name = z }) in
        case-of (valid_target w p b g)
        (λ v. is-valid w p b g v)
        (λ v. by-break (class w g) t
        (λ e. absurd (clash (cc (report-break w p b g n l v e, clean.rows g row))))
        (λ e. absurd (clash (cc (report-continue w p b g n l v e, clean.rows g row)))))

    destination : is_branch (class w g) ≡ true → 0 < name w g → Lawful w p b g
    destination t z = by-branch (class w g) t
        (λ e. lawful_break e (break-lawful (rw e) z))
        (λ e. lawful_continue e (break-lawful (rw e) z))
        (λ e. lawful_goto e (goto-lawful e))
        (λ e.
        let l = other-labelled w p b g (rw e) in
        let six = report-fallthrough w p b g (branch-label w p b g t) l (record { falls-through = e; has-name = z }) in
        absurd (clash (cc (clean.rows g row))))

  pub all-lawful : AllLawful w p b
  all-lawful = record { once = once; named = named; destinations = destination }
