-- The end of the sheet. A branch uses a declared label when its word is the label's, or when it is a goto that is pending at the end with that label
-- declared; either way the label has the branch's name, so that one entry of the table of canonical numbers is concerned. Faults have room since each
-- pending goto keeps some.
-- Assumes nothing.
use mathlib.Core.Path.{◌≡◌, refl, sym, ◌∙◌, ap}
use mathlib.Core.Bool.{Bool, true, false, ◌&&◌, not}
use mathlib.Core.Logic.{inl, inr}
use mathlib.Core.List.{List, [], ◌∷◌, ◌++◌, append-nil, append_assoc}
use mathlib.Core.Option.{none, some}
use Prim.Native.Nat.{ℕ, zero, suc, ◌+◌, ◌*◌, ◌-◌, ◌≤◌, ◌<◌}
use native.Mathlib.Omega.{arith}
use native.Mathlib.Decide.{ℕ_discrete}
use lib.Dec.{eqb}
use lib.ListN.{length, get_or, set, length-set}
use lib.Seq.{sets, get_or-set_same, get_or-set_other}
use borrow.Author.Tests.{eq-eqb, ne_eqb}
use Rattle.rules.specs.Scan.{lowest, how_many}
use Rattle.rules.specs.Rows.{row_count, kind, detail, position, name}
use Rattle.rules.specs.Class.{goto, one_of, is_branch, detail_allowed, class_of, base, class}
use Rattle.rules.specs.Names.{count_of_pairs, bad_name_words, names_ok}
use Rattle.rules.specs.Body.{Body}
use Rattle.rules.specs.Labels.{Fault, each, is_some, fault, word, is_class, labels, declared, earlier, pending, binding, unresolved, used}
use Rattle.rules.specs.Calls.{fault_words}
use Rattle.rules.proofs.Test.{case-of, case-found, clash}
use Rattle.rules.proofs.Scan.{how_many-yes, how_many-no}
use Rattle.rules.proofs.Every.{every, same, same-eq, is_one}
use Rattle.rules.proofs.Details.{of-allowed}
use Rattle.rules.proofs.Classes.{no_block}
use Rattle.rules.proofs.Lists.{branch-kind}
use Rattle.rules.proofs.ClassTests.{one-is, branch-goto}
use Rattle.rules.proofs.Each.{each-zero, each-suc}
use Rattle.rules.proofs.Found.{word-found}
use Rattle.rules.proofs.Pairs.{name-words}
use Rattle.rules.proofs.RowNames.{name-within}
use Rattle.rules.proofs.LabelRows.{is_declared_lem}
use Rattle.rules.proofs.GotoRows.{goto-earlier, goto-later}
use Rattle.rules.proofs.BindingRows.{branch-label, binding-goto, bound, waits-unbound, unbound-waits}
use Rattle.rules.proofs.SheetRows.{unresolved-not, unresolved-declared, unresolved-none, uses, uses-binding, uses-pending, uses-cases}
use Rattle.tables.specs.Canon.{row_canon, declared_for, CanonTable, DeclaredTable}
use Rattle.walk_state.specs.Walk.{faults_at, binding_at}
use Rattle.walk_state.proofs.WalkFaults.{snoc-length, put-length, put-reported, put-kept}
use Rattle.walk_state.proofs.WalkBindings.{at-goto, at-later, at_other}
use Rattle.walk_state.proofs.WalkPending.{pending-other}
use Rattle.walk_state.proofs.WalkRoom.{is_declared, room}
use Rattle.tables.proofs.Labelling.{row-canon-within, labels-canon, declared-canon, is-declared-for, declared-blank}
use Rattle.label_rest.specs.Left.{left_at, used_before, UsedBefore, Left, LeftOver}

-- ---- whether some number below n passes
module _ (P : ℕ → Bool) (n : ℕ) where
  some-yes : P n ≡ true → is_some (lowest P (suc n)) ≡ true
  unfolding lowest
  some-yes t = case-found (lowest P n) (λ k e. rw (e, lowest)) (λ e. rw (e, t, lowest))

  some-no : P n ≡ false → is_some (lowest P (suc n)) ≡ is_some (lowest P n)
  unfolding lowest
  some-no t = case-found (lowest P n) (λ k e. rw (e, lowest)) (λ e. rw (e, t, lowest))

-- one test counts no fewer further on
how_many-up : (P : ℕ → Bool) (m n : ℕ) → m ≤ n → how_many P m ≤ how_many P n
how_many-up P m zero h = let e : m ≡ 0 = omega arith in rw e (omega arith)
how_many-up P m (suc n) h = elim (ℕ_discrete m (suc n)) [
  | yes e ↦ rw e (omega arith)
  | no o ↦ case-of (P n)
      (λ t. omega (arith, how_many-up P m n (omega arith), how_many-yes P n t))
      (λ t. omega (arith, how_many-up P m n (omega arith), how_many-no P n t))
]

-- ---- a branch by its words
goto-words : (k d : ℕ) → detail_allowed k d ≡ true → (eqb k 11 && eqb d 2) ≡ one_of (goto ∷ []) (class_of k d)
unfolding every lowest detail_allowed class_of
goto-words k d a = same-eq (eqb k 11 && eqb d 2) (one_of (goto ∷ []) (class_of k d))
    (of-allowed (λ k d. same (eqb k 11 && eqb d 2) (one_of (goto ∷ []) (class_of k d))) refl k d a)

module _ {w p b : List ℕ} (body : Body w p b) (g : ℕ) (row : g < row_count w) where
  pub jump-branch : kind w g ≡ 11 → is_branch (class w g) ≡ true
  jump-branch k = sym (branch-kind w g (body.details g row)) ∙ eq-eqb (kind w g) 11 k

  pub other-branch : (kind w g ≡ 11 → ⊥) → is_branch (class w g) ≡ false
  other-branch k = sym (branch-kind w g (body.details g row)) ∙ ne_eqb (kind w g) 11 k

  detail-goto : kind w g ≡ 11 → is_class w goto g ≡ eqb (detail w g) 2
  unfolding base
  detail-goto k =
      let a = body.details g row in
      ap (one_of (goto ∷ [])) (no_block w g a (ne_eqb (kind w g) 12 (λ e. omega arith)))
      ∙ sym (goto-words (kind w g) (detail w g) a)
      ∙ rw (eq-eqb (kind w g) 11 k)

  pub is-goto : kind w g ≡ 11 → detail w g ≡ 2 → class w g ≡ goto
  is-goto k d = is_one (class w g) goto (detail-goto k ∙ eq-eqb (detail w g) 2 d)

  pub no-goto : kind w g ≡ 11 → (detail w g ≡ 2 → ⊥) → class w g ≡ goto → ⊥
  no-goto k d e = clash (cc (one-is (class w g) goto e, detail-goto k, ne_eqb (detail w g) 2 d))

-- ---- what is used
module _ (w p b : List ℕ) (d : ℕ) where
  pub before-zero : used_before w p b 0 d ≡ false
  unfolding used_before lowest
  before-zero = refl

  pub before-yes : (r : ℕ) → uses w p b d r ≡ true → used_before w p b (suc r) d ≡ true
  unfolding used_before
  before-yes r t = some-yes (uses w p b d) r t

  pub before-no : (r : ℕ) → uses w p b d r ≡ false → used_before w p b (suc r) d ≡ used_before w p b r d
  unfolding used_before
  before-no r t = some-no (uses w p b d) r t

  pub before-end : used_before w p b (row_count w) d ≡ used w p b d
  unfolding used_before used
  before-end = refl

module _ {w p b : List ℕ} (body : Body w p b) where
  -- a label that a branch uses has its name, so its canonical number
  uses-labels : (d g : ℕ) → uses w p b d g ≡ true → (d < row_count w) × (labels w p b g d ≡ true)
  uses-labels d g t =
      let u = uses-cases w p b d g t in
      elim u.1 [
        | inl e ↦ bound w p b g d u.0 e
        | inr y ↦ let x = is_declared_lem w p b g d y.1 in (omega (arith, x.0), x.1)
      ]

  uses-number : (c d g : ℕ) → g < row_count w → declared_for w p b c ≡ some d → uses w p b d g ≡ true → c ≡ row_canon w p b g
  uses-number c d g h e t =
      let (l, n) = uses-labels d g t in
      sym (is-declared-for body c d e).3 ∙ (labels-canon body g d h l n).1

  -- ---- the table, one row further
  pub table_same : (g : ℕ) (u : List ℕ) → UsedBefore w p b g u → ((c d : ℕ) → declared_for w p b c ≡ some d → uses w p b d g ≡ false)
      → UsedBefore w p b (suc g) u
  table_same g u t n c d z h e = t c d z h e ∙ ap not (sym (before-no w p b d g (n c d e)))

  pub table-set : (g c e : ℕ) (u : List ℕ) → UsedBefore w p b g u → g < row_count w → c ≡ row_canon w p b g → c < length u
      → declared_for w p b c ≡ some e → uses w p b e g ≡ true → UsedBefore w p b (suc g) (set u c 1)
  table-set g c e u t row ec room at yes-uses c' d z h f = elim (ℕ_discrete c' c) [
    | yes y ↦
        let i : some e ≡ some d = sym at ∙ ap (declared_for w p b) (sym y) ∙ f in
        let j : e ≡ d = cc in
        rw (y, get_or-set_same u c 1 0 room, before-yes w p b d g (rw j at yes-uses)) (ne_eqb 1 0 (λ k. omega arith))
    | no o ↦
        rw (get_or-set_other u c c' 1 0 o)
        (t c' d z h f ∙ ap not (sym (before-no w p b d g (case-of (uses w p b d g) (λ q. absurd (o (uses-number c' d g row f q ∙ sym ec))) (λ q. q)))))
  ]

  -- ---- the word of a branch
  pub branch-word : (g : ℕ) → is_branch (class w g) ≡ true → binding_at w p b (row_count w) g ≡ binding w p b g
  branch-word g t = case-of (is_class w goto g)
      (λ u. goto-word (is_one (class w g) goto u))
      (λ u. at_other w p b (row_count w) g (λ e. clash (cc (one-is (class w g) goto e))))
    where
      goto-word : class w g ≡ goto → binding_at w p b (row_count w) g ≡ binding w p b g
      goto-word c = case-found (earlier w p b g)
          (λ d e.
          at-goto w p b (row_count w) g d c e ∙ ap word (sym (goto-earlier w p b g d e))
          ∙ sym (binding-goto w p b g (branch-label w p b g t) c))
          (λ e.
          at-later w p b (row_count w) g c e
          ∙ ap word (sym (goto-later w p b g e)) ∙ sym (binding-goto w p b g (branch-label w p b g t) c))

-- at most 500 pairs
pub pair-most : {w p b : List ℕ} → Body w p b → count_of_pairs p ≤ 500
unfolding names_ok
pair-most {w} {p} {b} body = case-of (bad_name_words p b)
    (λ t. let z : false ≡ true = rw (t, names_ok) at body.names in absurd (clash (cc)))
    (λ f. (name-words p b f).pairs)

-- ---- the sheet
module _ (w p b : List ℕ) where
  pub left-zero : left_at w p b 0 ≡ faults_at w p b (row_count w)
  unfolding left_at
  left-zero = ap (λ (l : List Fault). faults_at w p b (row_count w) ++ l) (each-zero (unresolved w p b)) ∙ append-nil (faults_at w p b (row_count w))

  pub left-suc : (r : ℕ) → left_at w p b (suc r) ≡ left_at w p b r ++ unresolved w p b r
  unfolding left_at
  left-suc r =
      ap (λ (l : List Fault). faults_at w p b (row_count w) ++ l) (each-suc (unresolved w p b) r)
      ∙ sym (append_assoc (faults_at w p b (row_count w)) (each (unresolved w p b) r) (unresolved w p b r))

  left-none : (r : ℕ) → unresolved w p b r ≡ [] → left_at w p b (suc r) ≡ left_at w p b r
  left-none r e = rw (left-suc r, e) (append-nil (left_at w p b r))

  left_one : (r : ℕ) (f : Fault) → unresolved w p b r ≡ f ∷ [] → left_at w p b (suc r) ≡ left_at w p b r ++ f ∷ []
  left_one r f e = rw (left-suc r, e)

  -- no more gotos are reported than are pending
  left-more : (r : ℕ) → length (left_at w p b (suc r)) + how_many (pending w p b (row_count w)) r ≤ length (left_at w p b r) + how_many
      (pending w p b (row_count w)) (suc r)
  left-more r = case-of (pending w p b (row_count w) r)
      (λ q. case-found (declared w p b r)
      (λ d e. one (fault w 7 r) q (unresolved-declared w p b r d q e))
      (λ e. one (fault w 8 r) q (unresolved-none w p b r q e)))
      (λ q.
      let e : length (left_at w p b (suc r)) ≡ length (left_at w p b r) = ap length (left-none r (unresolved-not w p b r q)) in
      omega (arith, how_many-no (pending w p b (row_count w)) r q))
    where
      one : (f : Fault) → pending w p b (row_count w) r ≡ true → unresolved w p b r ≡ f ∷ []
          → length (left_at w p b (suc r)) + how_many (pending w p b (row_count w)) r ≤ length (left_at w p b r) + how_many (pending w p b (row_count w)) (suc r)
      one f q u =
          let e : length (left_at w p b (suc r)) ≡ length (left_at w p b r) + 1 = ap length (left_one r f u) ∙ snoc-length (left_at w p b r) f in
          omega (arith, how_many-yes (pending w p b (row_count w)) r q)

  pub left-count : (r : ℕ) → length (left_at w p b r) ≤ length (faults_at w p b (row_count w)) + how_many (pending w p b (row_count w)) r
  left-count zero = rw left-zero (omega arith)
  left-count (suc r) = omega (arith, left-count r, left-more r)

module _ {w p b : List ℕ} (body : Body w p b) where
  pub canon-fits : {cs : List ℕ} → CanonTable p b cs → (g : ℕ) → g < row_count w → name w g < length cs
  canon-fits ct g h = omega (arith, ct.room, name-within body g h)

  -- the room that is kept for the pending gotos
  pub all_room : length (faults_at w p b (row_count w)) + how_many (pending w p b (row_count w)) (row_count w) + how_many (is_declared w p b)
      (row_count w) ≤ 2 * row_count w
  all_room = omega (arith, room w p b (row_count w))

  left-fits : (r : ℕ) → r < row_count w → pending w p b (row_count w) r ≡ true → length (left_at w p b r) + 1 ≤ 2 * row_count w
  left-fits r h q = omega (
    arith,
    all_room,
    left-count w p b r,
    how_many-yes (pending w p b (row_count w)) r q,
    how_many-up (pending w p b (row_count w)) (suc r) (row_count w) h,
  )

  -- ---- one row further
  module _ (g faults : ℕ) (s u : List ℕ) (row : g < row_count w) (left : Left w p b g faults s u) where
    over-same : (u' : List ℕ) → unresolved w p b g ≡ [] → length u' ≡ length u → UsedBefore w p b (suc g) u' → LeftOver w p b (suc g) faults s s u'
    over-same u' e n t =
        let q = left-none w p b g e in
        record {
          state = record {
            count = left.count ∙ ap length (sym q);
            sheet_room = left.sheet_room;
            reported = left.reported ∙ ap (λ (l : List Fault). fault_words l) (sym q);
            used_room = omega (arith, left.used_room);
            used_at = t;
          };
          sheet_length = refl;
          sheet_kept = refl;
        }

    fault-fits : pending w p b (row_count w) g ≡ true → faults * 4 + 4 ≤ length s
    fault-fits q = omega (arith, left-fits g row q, left.count, left.sheet_room)

    fault-small : pending w p b (row_count w) g ≡ true → faults + 1 ≤ 4000
    fault-small q = omega (arith, left-fits g row q, left.count, body.most_rows)

    over-fault : (f : Fault) (s' u' : List ℕ) → pending w p b (row_count w) g ≡ true → unresolved w p b g ≡ f ∷ []
        → s' ≡ sets s (faults * 4) (f.code ∷ f.position ∷ f.name ∷ f.other ∷ []) → length u' ≡ length u → UsedBefore w p b (suc g) u'
        → LeftOver w p b (suc g) (faults + 1) s s' u'
    over-fault f s' u' w' e i n t =
        let q = left_one w p b g f e in
        let fits = fault-fits w' in
        let long = ap length i ∙ put-length s faults f fits in
        record {
          state = record {
            count = ap (λ (k : ℕ). k + 1) left.count ∙ sym (ap length q ∙ snoc-length (left_at w p b g) f);
            sheet_room = omega (arith, left.sheet_room);
            reported = rw (i, q) (put-reported s faults f fits (left_at w p b g) left.reported);
            used_room = omega (arith, left.used_room);
            used_at = t;
          };
          sheet_length = long;
          sheet_kept = rw i (put-kept s faults f fits);
        }

    -- a row that is no branch
    pub over-other : (kind w g ≡ 11 → ⊥) → LeftOver w p b (suc g) faults s s u
    over-other k =
        let n = other-branch body g row k in
        over-same u (unresolved-not w p b g (pending-other w p b (row_count w) g (λ e. clash (cc (branch-goto (class w g) e))))) refl
        (table_same body g u left.used_at (λ c d e. case-of (uses w p b d g) (λ t. absurd (clash (cc (uses-cases w p b d g t).0))) (λ t. t)))

-- ---- a branch of the body: c is its canonical number, v its word
pub record AtBranch (w p b cs ds s u : List ℕ) (g faults c v : ℕ) : Type 0 where
  pub body : Body w p b
  pub by_name : CanonTable p b cs
  pub by_canon : DeclaredTable w p b ds
  pub row : g < row_count w
  pub kind-is : kind w g ≡ 11
  pub left : Left w p b g faults s u
  pub number_is : c ≡ get_or cs (name w g) 0
  pub word-is : v ≡ binding_at w p b (row_count w) g

module _ {w p b cs ds s u : List ℕ} {g faults c v : ℕ} (at : AtBranch w p b cs ds s u g faults c v) where
  branch : is_branch (class w g) ≡ true
  branch = jump-branch at.body g at.row at.kind-is

  pub number : c ≡ row_canon w p b g
  number = at.number_is ∙ at.by_name.at_name (name w g) (name-within at.body g at.row)

  pub declared-fits : c < length ds
  declared-fits = omega (arith, at.by_canon.room, row-canon-within w p b g, number)

  pub used-fits : c < length u
  used-fits = omega (arith, at.left.used_room, row-canon-within w p b g, number)

  pub canon-small : c ≤ 500
  canon-small = omega (arith, pair-most at.body, row-canon-within w p b g, number)

  its-word : binding w p b g ≡ v
  its-word = sym (branch-word at.body g branch) ∙ sym at.word-is

  declared-read : 0 < c → get_or ds c 0 ≡ word (declared_for w p b c)
  declared-read z = at.by_canon.at_canon c z (omega (arith, row-canon-within w p b g, number))

  -- it is bound
  module _ (z : v ≡ 0 → ⊥) where
    numbered-branch : 0 < c
    numbered-branch =
        let i : suc (v - 1) ≡ v = omega arith in
        let x = bound w p b g (v - 1) branch (its-word ∙ sym i) in
        omega (arith, number, (labels-canon at.body g (v - 1) at.row x.0 x.1).2)

    resolved-branch : unresolved w p b g ≡ []
    resolved-branch = unresolved-not w p b g
        (case-of (pending w p b (row_count w) g) (λ q. absurd (z (sym its-word ∙ waits-unbound w p b g q branch))) (λ q. q))

    -- to the declared label of its name
    pub over-bound : v ≡ get_or ds c 0 → LeftOver w p b (suc g) faults s s (set u c 1)
    over-bound e =
        let i : suc (v - 1) ≡ v = omega arith in
        let named = word-found (declared_for w p b c) (v - 1) (sym (declared-read numbered-branch) ∙ sym e ∙ sym i) in
        over-same at.body g faults s u at.row at.left (set u c 1) resolved-branch (length-set u c 1)
        (table-set at.body g c (v - 1) u at.left.used_at at.row number used-fits named (uses-binding w p b (v - 1) g branch (its-word ∙ sym i)))

    -- or to another
    pub over-repeated : (v ≡ get_or ds c 0 → ⊥) → LeftOver w p b (suc g) faults s s u
    over-repeated n = over-same at.body g faults s u at.row at.left u resolved-branch refl (table_same at.body g u at.left.used_at not-used)
      where
        not-used : (c' d : ℕ) → declared_for w p b c' ≡ some d → uses w p b d g ≡ false
        not-used c' d e = case-of (uses w p b d g)
            (λ t. elim (uses-cases w p b d g t).1 [
              | inl y ↦
                  let j : declared_for w p b c ≡ some d = ap (declared_for w p b) (number ∙ sym (uses-number at.body c' d g at.row e t)) ∙ e in
                  absurd (n (sym its-word ∙ y ∙ sym (declared-read numbered-branch ∙ ap word j)))
              | inr y ↦ absurd (z (sym its-word ∙ waits-unbound w p b g y.0 branch))
            ])
            (λ t. t)

  -- it is not bound
  module _ (z : v ≡ 0) where
    -- no goto
    pub over-unbound : (detail w g ≡ 2 → ⊥) → LeftOver w p b (suc g) faults s s u
    over-unbound n =
        let q = pending-other w p b (row_count w) g (no-goto at.body g at.row at.kind-is n) in
        over-same at.body g faults s u at.row at.left u (unresolved-not w p b g q) refl (table_same at.body g u at.left.used_at
        (λ c' d e. case-of (uses w p b d g)
        (λ t. elim (uses-cases w p b d g t).1 [
          | inl y ↦ let x = its-word ∙ z in absurd (omega arith)
          | inr y ↦ absurd (clash (cc y.0))
        ])
        (λ t. t)))

    -- a goto, which is pending then
    module _ (d : detail w g ≡ 2) where
      pub waits : pending w p b (row_count w) g ≡ true
      waits = unbound-waits w p b g (is-goto at.body g at.row at.kind-is d) branch (its-word ∙ z)

      pub sheet-fits : faults * 4 + 4 ≤ length s
      sheet-fits = fault-fits at.body g faults s u at.row at.left waits

      pub count_small : faults + 1 ≤ 4000
      count_small = fault-small at.body g faults s u at.row at.left waits

      pub over-declared : (c ≡ 0 → ⊥) → (get_or ds c 0 ≡ 0 → ⊥) → (s' : List ℕ)
          → s' ≡ sets s (faults * 4) (7 ∷ position w g ∷ name w g ∷ 0 ∷ []) → LeftOver w p b (suc g) (faults + 1) s s' (set u c 1)
      over-declared x y s' i =
          let e : suc (get_or ds c 0 - 1) ≡ get_or ds c 0 = omega arith in
          let m : 0 < c = omega arith in
          let named = word-found (declared_for w p b c) (get_or ds c 0 - 1) (sym (declared-read m) ∙ sym e) in
          let mine : declared w p b g ≡ some (get_or ds c 0 - 1) =
          sym (declared-canon at.body g at.row (omega (arith, number))) ∙ ap (declared_for w p b) (sym number) ∙ named in
          over-fault at.body g faults s u at.row at.left (fault w 7 g) s' (set u c 1) waits
          (unresolved-declared w p b g (get_or ds c 0 - 1) waits mine) i (length-set u c 1)
          (table-set at.body g c (get_or ds c 0 - 1) u at.left.used_at at.row number used-fits named
          (uses-pending w p b (get_or ds c 0 - 1) g branch waits mine))

      over_none : declared w p b g ≡ none → (s' : List ℕ)
          → s' ≡ sets s (faults * 4) (8 ∷ position w g ∷ name w g ∷ 0 ∷ []) → LeftOver w p b (suc g) (faults + 1) s s' u
      over_none e s' i =
          over-fault at.body g faults s u at.row at.left (fault w 8 g) s' u waits (unresolved-none w p b g waits e) i refl
          (table_same at.body g u at.left.used_at
          (λ c' d e'. case-of (uses w p b d g)
          (λ t. elim (uses-cases w p b d g t).1 [
            | inl y ↦ let x = its-word ∙ z in absurd (omega arith)
            | inr y ↦ absurd (clash (cc y.1))
          ])
          (λ t. t)))

      pub over-blank : c ≡ 0 → (s' : List ℕ)
          → s' ≡ sets s (faults * 4) (8 ∷ position w g ∷ name w g ∷ 0 ∷ []) → LeftOver w p b (suc g) (faults + 1) s s' u
      over-blank x = over_none (declared-blank at.body g at.row (sym number ∙ x))

      pub over-undeclared : (c ≡ 0 → ⊥) → get_or ds c 0 ≡ 0 → (s' : List ℕ)
          → s' ≡ sets s (faults * 4) (8 ∷ position w g ∷ name w g ∷ 0 ∷ []) → LeftOver w p b (suc g) (faults + 1) s s' u
      over-undeclared x y = over_none
          (sym (declared-canon at.body g at.row (omega (arith, number))) ∙ ap (declared_for w p b) (sym number)
          ∙ case-found (declared_for w p b c)
          (λ e named. let f = declared-read (omega arith) ∙ ap word named in absurd (omega arith))
          (λ named. named))
