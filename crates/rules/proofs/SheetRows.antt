-- The laws of the sheet: what is reported at a row, by what the row is, at the end of a goto that is pending, and of a label that is not used.
-- Assumes nothing.
use mathlib.Core.Path.{◌≡◌, refl}
use mathlib.Core.Bool.{Bool, true, false, ◌&&◌, ◌||◌}
use mathlib.Core.Logic.{◌⊎◌, inl, inr}
use mathlib.Core.List.{List, [], ◌∷◌, ◌++◌}
use mathlib.Core.Option.{none, some}
use Prim.Native.Nat.{ℕ, suc, ◌<◌}
use lib.Dec.{ltb, eqb}
use borrow.Author.Tests.{ltb-true, lt-ltb, eqb-true, eq-eqb, ne_eqb}
use Rattle.rules.specs.Scan.{lowest}
use Rattle.rules.specs.Rows.{row_count, position, name}
use Rattle.rules.specs.Class.{break, continue, fallthrough, is_branch, class}
use Rattle.rules.specs.Names.{count_of_pairs, rank}
use Rattle.rules.specs.Scope.{in_list_of}
use Rattle.rules.specs.Labels.{each, only, is, is_class, fault, is_label, labels, declared, latest_declaration, pending, valid_target, labelled_break}
use Rattle.rules.specs.Labels.{binding, jumps_over, repeated, report, unresolved, used, declared_at, unused, sheet}
use Rattle.rules.proofs.Test.{case-of, case-found, clash, and-true, or-true}
use Rattle.rules.proofs.Scan.{lowest-none, none-lowest, lowest-found}
use Rattle.rules.proofs.Each.{append-none, each_none, none_each}
use Rattle.rules.proofs.ClassTests.{one-is}
use Rattle.rules.proofs.Found.{is-some, is_found, found-is}
use Rattle.rules.proofs.Every.{is_one}

module _ (w p b : List ℕ) where
  -- ---- jumps_over

  -- the goto g is resolved at the label r and stands before the declaration d
  abbrev pub is_over : ℕ → ℕ → ℕ → Bool
  is_over r g d = pending w p b r g && (labels w p b g r && (in_list_of w r g && ltb g d))

  pub record Over (r g d : ℕ) : Type 0 where
    pub waits : pending w p b r g ≡ true
    pub names : labels w p b g r ≡ true
    pub in_list : in_list_of w r g ≡ true
    pub before : g < d

  pub over-is : (r g d : ℕ) → Over r g d → is_over r g d ≡ true
  over-is r g d x = rw (x.waits, x.names, x.in_list, lt-ltb g d x.before)

  pub is-over : (r g d : ℕ) → is_over r g d ≡ true → Over r g d
  is-over r g d t =
      let x = and-true (pending w p b r g) (labels w p b g r && (in_list_of w r g && ltb g d)) t in
      let y = and-true (labels w p b g r) (in_list_of w r g && ltb g d) x.1 in
      let z = and-true (in_list_of w r g) (ltb g d) y.1 in
      record { waits = x.0; names = y.0; in_list = z.0; before = ltb-true g d z.1 }

  pub jumps-none : (r g : ℕ) → latest_declaration w p b r ≡ none → jumps_over w p b r g ≡ []
  unfolding jumps_over
  jumps-none r g e = rw (e, jumps_over)

  pub jumps-some : (r g d : ℕ) → latest_declaration w p b r ≡ some d →
      jumps_over w p b r g ≡ only (is_over r g d) (record { code = 3; position = position w g; name = name w g; other = position w d })
  unfolding jumps_over
  jumps-some r g d e = rw (e, jumps_over)

  -- ---- repeated
  pub repeated-none : (r : ℕ) → declared w p b r ≡ none → repeated w p b r ≡ []
  unfolding repeated
  repeated-none r e = rw (e, repeated)

  pub repeated-not : (r : ℕ) → declared w p b r ≡ some r → repeated w p b r ≡ []
  unfolding repeated
  repeated-not r e = rw (e, eq-eqb r r refl, repeated)

  pub repeated-is : (r d : ℕ) → declared w p b r ≡ some d → (d ≡ r → ⊥) → repeated w p b r ≡ fault w 1 r ∷ fault w 2 d ∷ []
  unfolding repeated
  repeated-is r d e n = rw (e, ne_eqb d r n, repeated)

  -- ---- report

  -- a fallthrough with a label
  pub record LabelledFallthrough (r : ℕ) : Type 0 where
    pub falls-through : class w r ≡ fallthrough
    pub has-name : 0 < name w r

  abbrev falls : ℕ → Bool
  falls r = is_class w fallthrough r && ltb 0 (name w r)

  falls-is : (r : ℕ) → LabelledFallthrough r → falls r ≡ true
  falls-is r x = rw (one-is (class w r) fallthrough x.falls-through, lt-ltb 0 (name w r) x.has-name)

  is-falls : (r : ℕ) → falls r ≡ true → LabelledFallthrough r
  is-falls r t =
      let y = and-true (is_class w fallthrough r) (ltb 0 (name w r)) t in
      record {
        falls-through = is_one (class w r) fallthrough y.0;
        has-name = ltb-true 0 (name w r) y.1;
      }

  pub report-label : (r : ℕ) → is_label w p b r ≡ true → report w p b r ≡ repeated w p b r ++ each (jumps_over w p b r) r
  unfolding report
  report-label r t = rw (t, report)

  module _ (r : ℕ) (n : is_label w p b r ≡ false) where
    module _ (l : labelled_break w p b r ≡ true) where
      pub report-valid : valid_target w p b r ≡ true → report w p b r ≡ []
      unfolding report
      report-valid v = rw (n, l, v, report)

      pub report-break : valid_target w p b r ≡ false → class w r ≡ break → report w p b r ≡ fault w 4 r ∷ []
      unfolding report
      report-break v e = rw (n, l, v, one-is (class w r) break e, report)

      pub report-continue : valid_target w p b r ≡ false → class w r ≡ continue → report w p b r ≡ fault w 5 r ∷ []
      unfolding report
      report-continue v e = rw (n, l, v, e, report)

    module _ (l : labelled_break w p b r ≡ false) where
      pub report-fallthrough : LabelledFallthrough r → report w p b r ≡ fault w 6 r ∷ []
      unfolding report
      report-fallthrough x = rw (n, l, falls-is r x, report)

      pub report-other : (LabelledFallthrough r → ⊥) → report w p b r ≡ []
      unfolding report
      report-other f = case-of (falls r) (λ t. absurd (f (is-falls r t))) (λ t. rw (n, l, t, report))

  -- ---- unresolved
  pub unresolved-not : (g : ℕ) → pending w p b (row_count w) g ≡ false → unresolved w p b g ≡ []
  unfolding unresolved
  unresolved-not g f = rw (f, unresolved)

  pub unresolved-declared : (g d : ℕ) → pending w p b (row_count w) g ≡ true → declared w p b g ≡ some d → unresolved w p b g ≡ fault w 7 g ∷ []
  unfolding unresolved
  unresolved-declared g d t e = rw (t, e, unresolved)

  pub unresolved-none : (g : ℕ) → pending w p b (row_count w) g ≡ true → declared w p b g ≡ none → unresolved w p b g ≡ fault w 8 g ∷ []
  unfolding unresolved
  unresolved-none g t e = rw (t, e, unresolved)

  -- ---- used

  -- the branch g is bound to the label d, or is a pending goto of its name
  abbrev pub uses : ℕ → ℕ → Bool
  uses d g = is_branch (class w g) && (eqb (binding w p b g) (suc d) || (pending w p b (row_count w) g && is (declared w p b g) d))

  pub uses-binding : (d g : ℕ) → is_branch (class w g) ≡ true → binding w p b g ≡ suc d → uses d g ≡ true
  uses-binding d g t e = rw (t, eq-eqb (binding w p b g) (suc d) e)

  pub uses-pending : (d g : ℕ) → is_branch (class w g) ≡ true → pending w p b (row_count w) g ≡ true → declared w p b g ≡ some d → uses d g ≡ true
  uses-pending d g t q e = case-of (eqb (binding w p b g) (suc d))
      (λ u. rw (t, u))
      (λ u. rw (t, u, q) (found-is (declared w p b g) d e))

  pub uses-cases : (d g : ℕ) → uses d g ≡ true → (is_branch (class w g) ≡ true)
      × ((binding w p b g ≡ suc d) ⊎ ((pending w p b (row_count w) g ≡ true) × (declared w p b g ≡ some d)))
  uses-cases d g t =
      let waits = pending w p b (row_count w) g && is (declared w p b g) d in
      let x = and-true (is_branch (class w g)) (eqb (binding w p b g) (suc d) || waits) t in (
        x.0,
        elim (or-true (eqb (binding w p b g) (suc d)) waits x.1) [
          | inl e ↦ inl (eqb-true (binding w p b g) (suc d) e)
          | inr u ↦
              let y = and-true (pending w p b (row_count w) g) (is (declared w p b g) d) u in
              inr (y.0, is_found (declared w p b g) d y.1)
        ],
      )

  pub used-is : (d g : ℕ) → g < row_count w → uses d g ≡ true → used w p b d ≡ true
  unfolding used
  used-is d g h t = case-found (lowest (uses d) (row_count w))
      (λ k e. rw (e, used))
      (λ e. absurd (clash (cc (lowest-none (uses d) (row_count w) g e h))))

  pub is-used : (d : ℕ) → used w p b d ≡ true → (g : ℕ) × (g < row_count w) × (uses d g ≡ true)
  unfolding used
  is-used d t =
      let (g, e) = is-some (lowest (uses d) (row_count w)) t in
      let x = lowest-found (uses d) (row_count w) g e in
      (g, x.0, x.1)

  -- ---- declared_at

  -- r is a label whose name has the canonical number c
  abbrev pub is_ranked : ℕ → ℕ → Bool
  is_ranked c r = is_label w p b r && eqb (rank p b (name w r)) c

  pub ranked-is : (c r : ℕ) → is_label w p b r ≡ true → rank p b (name w r) ≡ c → is_ranked c r ≡ true
  ranked-is c r t e = rw (t, eq-eqb (rank p b (name w r)) c e)

  pub is-ranked : (c r : ℕ) → is_ranked c r ≡ true → (is_label w p b r ≡ true) × (rank p b (name w r) ≡ c)
  is-ranked c r t = let x = and-true (is_label w p b r) (eqb (rank p b (name w r)) c) t in (x.0, eqb-true (rank p b (name w r)) c x.1)

  pub is-declared-at : (c d : ℕ) → declared_at w p b c ≡ some d → (d < row_count w) × (is_ranked c d ≡ true)
  unfolding declared_at
  is-declared-at c d e = lowest-found (is_ranked c) (row_count w) d e

  pub declared-at-none : (c r : ℕ) → declared_at w p b c ≡ none → r < row_count w → is_ranked c r ≡ false
  unfolding declared_at
  declared-at-none c r e h = lowest-none (is_ranked c) (row_count w) r e h

  pub none-declared-at : (c : ℕ) → ((r : ℕ) → r < row_count w → is_ranked c r ≡ false) → declared_at w p b c ≡ none
  unfolding declared_at
  none-declared-at c h = none-lowest (is_ranked c) (row_count w) h

  -- ---- unused
  pub unused-none : (c : ℕ) → declared_at w p b c ≡ none → unused w p b c ≡ []
  unfolding unused
  unused-none c e = rw (e, unused)

  pub unused-not : (c d : ℕ) → declared_at w p b c ≡ some d → used w p b d ≡ true → unused w p b c ≡ []
  unfolding unused
  unused-not c d e t = rw (e, t, unused)

  pub unused-is : (c d : ℕ) → declared_at w p b c ≡ some d → used w p b d ≡ false → unused w p b c ≡ fault w 9 d ∷ []
  unfolding unused
  unused-is c d e f = rw (e, f, unused)

  -- ---- sheet
  pub record NoFault : Type 0 where
    pub rows : (r : ℕ) → r < row_count w → report w p b r ≡ []
    pub gotos : (g : ℕ) → g < row_count w → unresolved w p b g ≡ []
    pub names : (i : ℕ) → i < count_of_pairs p → unused w p b (suc i) ≡ []

  pub sheet-none : sheet w p b ≡ [] → NoFault
  unfolding sheet
  sheet-none e =
      let at_rows = each (report w p b) (row_count w) in
      let at-end = each (unresolved w p b) (row_count w) in
      let not-used = each (λ i. unused w p b (suc i)) (count_of_pairs p) in
      let x = append-none at_rows (at-end ++ not-used) e in
      let y = append-none at-end not-used x.1 in
      record {
        rows = λ r h. each_none (report w p b) (row_count w) r x.0 h;
        gotos = λ g h. each_none (unresolved w p b) (row_count w) g y.0 h;
        names = λ i h. each_none (λ i. unused w p b (suc i)) (count_of_pairs p) i y.1 h;
      }

  pub none-sheet : NoFault → sheet w p b ≡ []
  unfolding sheet
  none-sheet x = rw (
    none_each (report w p b) (row_count w) x.rows,
    none_each (unresolved w p b) (row_count w) x.gotos,
    none_each (λ i. unused w p b (suc i)) (count_of_pairs p) x.names,
  )
