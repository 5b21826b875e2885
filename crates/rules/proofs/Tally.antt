-- The labelled branches of a body add up. Each row adds as much to one side as to the other: a labelled branch is bound and reports none of 4 to 8, or is
-- not bound and reports exactly one of them, where the walk comes to it (4, 5, 6) or at the end (7, 8); another row is neither, since a label reports
-- 1, 2 and 3 alone. A label that is not used reports 9, which isn't counted. So the sums over all rows are the same; and what the label call leaves in
-- its sheet and bindings are the words of the two.
-- Assumes nothing.
use mathlib.Core.Path.{◌≡◌, refl, sym, ◌∙◌, ap}
use mathlib.Core.Bool.{Bool, true, false, ◌&&◌}
use mathlib.Core.List.{List, [], ◌∷◌, ◌++◌}
use Prim.Native.Nat.{ℕ, zero, suc, ◌+◌, ◌*◌, ◌≤◌, ◌<◌}
use native.Mathlib.Omega.{arith}
use native.Mathlib.Decide.{dec_lt, ℕ_discrete}
use lib.Dec.{ltb}
use lib.ListN.{length, get_or, get_or-append}
use borrow.Author.Tests.{lt-ltb}
use Rattle.rules.specs.Scan.{how_many}
use Rattle.rules.specs.Rows.{row_count, name}
use Rattle.rules.specs.Class.{break, continue, goto, fallthrough, one_of, is_branch, class}
use Rattle.rules.specs.Names.{count_of_pairs}
use Rattle.rules.specs.Refusals.{WellFormed}
use Rattle.rules.specs.Body.{Body}
use Rattle.rules.specs.Labels.{Fault, each, only, fault, word, is_label, declared, latest_declaration, pending, valid_target, labelled_break, binding}
use Rattle.rules.specs.Labels.{jumps_over, repeated, report, unresolved, used, declared_at, unused, sheet, bindings}
use Rattle.rules.specs.Calls.{fault_words}
use Rattle.rules.specs.Tally.{is_branch_row, labelled_branches, bound_branches, is_unbound, unbound_rows, unbound_words, TallyLaw}
use Rattle.rules.proofs.Test.{case-of, case-found, clash}
use Rattle.rules.proofs.Scan.{how_many-yes, how_many-no, how_many-same}
use Rattle.rules.proofs.Each.{each-zero, each-suc, each-length, each_at}
use Rattle.rules.proofs.Facts as facts
use Rattle.rules.proofs.ClassTests.{by-branch, by-break, break-branch, branch-goto, branch-fallthrough}
use Rattle.rules.proofs.Lists.{branch-kind}
use Rattle.rules.proofs.RowNames.{goto-named}
use Rattle.rules.proofs.LabelRows.{some-declared}
use Rattle.rules.proofs.GotoRows.{not-pending}
use Rattle.rules.proofs.BreakRows.{is-target, is-valid, labelled-is, not-labelled, other-labelled}
use Rattle.rules.proofs.BindingRows.{branch-label, binding-break, binding-invalid, binding-other, waits-unbound, unbound-waits}
use Rattle.rules.proofs.SheetRows.{is_over, jumps-none, jumps-some, repeated-none, repeated-not, repeated-is, report-label, report-valid, report-break}
use Rattle.rules.proofs.SheetRows.{report-continue, report-fallthrough, report-other, unresolved-not, unresolved-declared, unresolved-none}
use Rattle.rules.proofs.SheetRows.{unused-none, unused-not, unused-is}

-- ---- counting

-- what a test adds to a count
abbrev one : Bool → ℕ
one t = elim t [ true ↦ 1 | false ↦ 0 ]

count_next : (P : ℕ → Bool) (n : ℕ) → how_many P (suc n) ≡ how_many P n + one (P n)
count_next P n = case-of (P n) (λ t. rw t (omega (arith, how_many-yes P n t))) (λ f. rw f (omega (arith, how_many-no P n f)))

count-zero : (P : ℕ → Bool) → how_many P 0 ≡ 0
unfolding how_many
count-zero P = refl

rows_none : unbound_rows [] ≡ 0
unfolding unbound_rows
rows_none = refl

rows-cons : (f : Fault) (fs : List Fault) → unbound_rows (f ∷ fs) ≡ one (is_unbound f.code) + unbound_rows fs
unfolding unbound_rows
rows-cons f fs = case-of (is_unbound f.code) (λ t. rw (t, unbound_rows) (omega arith)) (λ t. rw (t, unbound_rows) (omega arith))

rows_append : (xs ys : List Fault) → unbound_rows (xs ++ ys) ≡ unbound_rows xs + unbound_rows ys
rows_append [] ys = omega (arith, rows_none)
rows_append (x ∷ xs) ys = omega (arith, rows-cons x xs, rows-cons x (xs ++ ys), rows_append xs ys)

rows-each : (f : ℕ → List Fault) → ((k : ℕ) → unbound_rows (f k) ≡ 0) → (n : ℕ) → unbound_rows (each f n) ≡ 0
rows-each f h zero = rw (each-zero f) rows_none
rows-each f h (suc n) = rw (each-suc f n) (omega (arith, rows_append (each f n) (f n), rows-each f h n, h n))

rows-one : (f : Fault) → unbound_rows (f ∷ []) ≡ one (is_unbound f.code)
rows-one f = omega (arith, rows-cons f [], rows_none)

rows-two : (f g : Fault) → is_unbound f.code ≡ false → is_unbound g.code ≡ false → unbound_rows (f ∷ g ∷ []) ≡ 0
rows-two f g e h = rows-cons f (g ∷ []) ∙ rw (e, rows-one g, h)

rows-only : (t : Bool) (f : Fault) → is_unbound f.code ≡ false → unbound_rows (only t f) ≡ 0
rows-only true f e = rows-one f ∙ ap one e
rows-only false f e = rows_none

module _ (w p b : List ℕ) where
  abbrev labelled : ℕ → Bool
  labelled r = is_branch_row w r && ltb 0 (name w r)

  abbrev bound : ℕ → Bool
  bound r = is_branch_row w r && ltb 0 (binding w p b r)

  -- how many of 4 to 8 a row reports, where the walk comes to it and at the end
  abbrev unbound_at : ℕ → ℕ
  unbound_at r = unbound_rows (report w p b r) + unbound_rows (unresolved w p b r)

  -- a row adds as much to one side as to the other
  abbrev Adds : ℕ → Type 0
  Adds r = one (labelled r) ≡ one (bound r) + unbound_at r

  -- ---- labels: 1, 2, 3 and 9 are not counted
  label-counts-none : (r : ℕ) → is_label w p b r ≡ true → unbound_rows (report w p b r) ≡ 0
  label-counts-none r t = rw (report-label w p b r t)
      (omega (arith, rows_append (repeated w p b r) (each (jumps_over w p b r) r), repeated-counts-none, rows-each (jumps_over w p b r) over-counts-none r))
    where
      repeated-counts-none : unbound_rows (repeated w p b r) ≡ 0
      repeated-counts-none = case-found (declared w p b r)
          (λ d e. elim (ℕ_discrete d r) [
            | yes i ↦ ap unbound_rows (repeated-not w p b r (rw i at e)) ∙ rows_none
            | no o ↦ ap unbound_rows (repeated-is w p b r d e o) ∙ rows-two (fault w 1 r) (fault w 2 d) refl refl
          ])
          (λ e. ap unbound_rows (repeated-none w p b r e) ∙ rows_none)

      over-counts-none : (g : ℕ) → unbound_rows (jumps_over w p b r g) ≡ 0
      over-counts-none g = case-found (latest_declaration w p b r)
          (λ d e. ap unbound_rows (jumps-some w p b r g d e) ∙ rows-only (is_over w p b r g d) _ refl)
          (λ e. ap unbound_rows (jumps-none w p b r g e) ∙ rows_none)

  unused-counts-none : (c : ℕ) → unbound_rows (unused w p b c) ≡ 0
  unused-counts-none c = case-found (declared_at w p b c)
      (λ d e. case-of (used w p b d)
      (λ t. ap unbound_rows (unused-not w p b c d e t) ∙ rows_none)
      (λ f. ap unbound_rows (unused-is w p b c d e f) ∙ rows-one (fault w 9 d)))
      (λ e. ap unbound_rows (unused-none w p b c e) ∙ rows_none)

  -- ---- rows
  counts-none : (r : ℕ) → report w p b r ≡ [] → unresolved w p b r ≡ [] → unbound_at r ≡ 0
  counts-none r e f = rw (e, f, rows_none)

  no-goto-left : (r : ℕ) → (class w r ≡ goto → ⊥) → unresolved w p b r ≡ []
  no-goto-left r n = unresolved-not w p b r (not-pending w p b (row_count w) r (λ x. n x.gotos))

  other_row : (r : ℕ) → is_branch (class w r) ≡ false → unbound_at r ≡ 0
  other_row r n = case-of (is_label w p b r)
      (λ t. omega (arith, label-counts-none r t, ap unbound_rows left, rows_none))
      (λ f. counts-none r (report-other w p b r f no-break (λ x. clash (cc (branch-fallthrough (class w r) x.falls-through)))) left)
    where
      left : unresolved w p b r ≡ []
      left = no-goto-left r (λ e. clash (cc (branch-goto (class w r) e)))

      no-break : labelled_break w p b r ≡ false
      no-break = not-labelled w p b r (λ x. clash (cc (break-branch (class w r) x.breaks)))

module _ {w p b : List ℕ} (body : Body w p b) (r : ℕ) (row : r < row_count w) where
  kind-is : is_branch_row w r ≡ is_branch (class w r)
  kind-is = branch-kind w r (body.details r row)

  -- ---- a branch, by its name, its binding and what it reports
  module _ (t : is_branch (class w r) ≡ true) where
    unlabelled : name w r ≡ 0 → binding w p b r ≡ 0 → unbound_at w p b r ≡ 0 → Adds w p b r
    unlabelled e f z = rw (kind-is, t, e, f, z)

    is_bound : 0 < name w r → 0 < binding w p b r → unbound_at w p b r ≡ 0 → Adds w p b r
    is_bound h l z = rw (kind-is, t, lt-ltb 0 (name w r) h, lt-ltb 0 (binding w p b r) l, z)

    is-unbound : 0 < name w r → binding w p b r ≡ 0 → unbound_at w p b r ≡ 1 → Adds w p b r
    is-unbound h f z = rw (kind-is, t, lt-ltb 0 (name w r) h, f, z)

    -- by its class
    goto-adds : class w r ≡ goto → Adds w p b r
    goto-adds c = case-of (pending w p b (row_count w) r)
        (λ q. is-unbound name-due (waits-unbound w p b r q t) (case-found (declared w p b r)
        (λ d e. omega (arith, ap unbound_rows quiet, rows_none, ap unbound_rows (unresolved-declared w p b r d q e), rows-one (fault w 7 r)))
        (λ e. omega (arith, ap unbound_rows quiet, rows_none, ap unbound_rows (unresolved-none w p b r q e), rows-one (fault w 8 r)))))
        (λ q. is_bound name-due (has_word q) (counts-none w p b r quiet (unresolved-not w p b r q)))
      where
        name-due : 0 < name w r
        name-due = goto-named body r row c

        quiet : report w p b r ≡ []
        quiet = report-other w p b r (branch-label w p b r t) (other-labelled w p b r (rw c)) (λ x. clash (cc x.falls-through))

        has_word : pending w p b (row_count w) r ≡ false → 0 < binding w p b r
        has_word q = elim (dec_lt 0 (binding w p b r)) [ yes l ↦ l | no n ↦ absurd (clash (cc (unbound-waits w p b r c t (omega arith)))) ]

    -- a row that is no goto reports nothing at the end
    module _ (n : class w r ≡ goto → ⊥) where
      at-walk : (k : ℕ) → unbound_rows (report w p b r) ≡ k → unbound_at w p b r ≡ k
      at-walk k e = omega (arith, e, ap unbound_rows (no-goto-left w p b r n), rows_none)

      not-label : is_label w p b r ≡ false
      not-label = branch-label w p b r t

      fallthrough-adds : class w r ≡ fallthrough → Adds w p b r
      fallthrough-adds c = elim (dec_lt 0 (name w r)) [
        | yes l ↦ is-unbound l free (at-walk 1 (ap unbound_rows (six l) ∙ rows-one (fault w 6 r)))
        | no o ↦ unlabelled (omega arith) free (at-walk 0 (ap unbound_rows (quiet o) ∙ rows_none))
      ]
        where
          no-break : labelled_break w p b r ≡ false
          no-break = other-labelled w p b r (rw c)

          free : binding w p b r ≡ 0
          free = binding-other w p b r not-label n no-break

          six : 0 < name w r → report w p b r ≡ fault w 6 r ∷ []
          six l = report-fallthrough w p b r not-label no-break (record { falls-through = c; has-name = l })

          quiet : (0 < name w r → ⊥) → report w p b r ≡ []
          quiet o = report-other w p b r not-label no-break (λ x. o x.has-name)

      break-adds : one_of (break ∷ continue ∷ []) (class w r) ≡ true → Adds w p b r
      break-adds k = elim (dec_lt 0 (name w r)) [
        | yes l ↦ case-of (valid_target w p b r) (valid l) (invalid l)
        | no o ↦
            let no-break = not-labelled w p b r (λ x. o x.has-name) in
            unlabelled (omega arith) (binding-other w p b r not-label n no-break)
            (at-walk 0 (ap unbound_rows (report-other w p b r not-label no-break (λ x. o x.has-name)) ∙ rows_none))
      ]
        where
          has-label : 0 < name w r → labelled_break w p b r ≡ true
          has-label l = labelled-is w p b r (record { breaks = k; has-name = l })

          -- the target has the name, so a label of that name is declared
          valid : 0 < name w r → valid_target w p b r ≡ true → Adds w p b r
          valid l v =
              let (s, f, u) = is-valid w p b r v in
              let a = is-target w p b r s f in
              let before = a.before in
              let (d, e, m) = some-declared w p b r s (omega arith) a.names in
              let i = binding-break w p b r not-label n (has-label l) v ∙ ap word e in
              is_bound l (omega arith) (at-walk 0 (ap unbound_rows (report-valid w p b r not-label (has-label l) v) ∙ rows_none))

          invalid : 0 < name w r → valid_target w p b r ≡ false → Adds w p b r
          invalid l v = is-unbound l (binding-invalid w p b r not-label n v) (at-walk 1 (by-break (class w r) k
              (λ e. ap unbound_rows (report-break w p b r not-label (has-label l) v e) ∙ rows-one (fault w 4 r))
              (λ e. ap unbound_rows (report-continue w p b r not-label (has-label l) v e) ∙ rows-one (fault w 5 r))))

  row-adds : Adds w p b r
  row-adds = case-of (is_branch (class w r))
      (λ t. by-branch (class w r) t
      (λ e. break-adds t (λ f. clash (cc)) (rw e))
      (λ e. break-adds t (λ f. clash (cc)) (rw e))
      (λ e. goto-adds t e)
      (λ e. fallthrough-adds t (λ f. clash (cc)) e))
      (λ f. rw (kind-is, f, other_row w p b r f))

  -- so a Branch row that is bound has a label
  bound-labelled : bound w p b r ≡ true → labelled w p b r ≡ true
  bound-labelled t = case-of (labelled w p b r) (λ u. u) (λ f. absurd (omega (arith, row-adds, ap one t, ap one f)))

-- ---- all rows
module _ {w p b : List ℕ} (body : Body w p b) where
  abbrev at_rows : ℕ → List Fault
  at_rows n = each (report w p b) n

  abbrev at-end : ℕ → List Fault
  at-end n = each (unresolved w p b) n

  first_rows : (n : ℕ) → n ≤ row_count w
      → how_many (labelled w p b) n ≡ how_many (bound w p b) n + (unbound_rows (at_rows n) + unbound_rows (at-end n))
  first_rows zero h = rw (each-zero (report w p b), each-zero (unresolved w p b), rows_none)
      (omega (arith, count-zero (labelled w p b), count-zero (bound w p b)))
  first_rows (suc n) h = rw (each-suc (report w p b) n, each-suc (unresolved w p b) n) (omega (
    arith,
    first_rows n (omega arith),
    row-adds body n (omega arith),
    count_next (labelled w p b) n,
    count_next (bound w p b) n,
    rows_append (at_rows n) (report w p b n),
    rows_append (at-end n) (unresolved w p b n),
  ))

  none-unused : unbound_rows (each (λ i. unused w p b (suc i)) (count_of_pairs p)) ≡ 0
  none-unused = rows-each (λ i. unused w p b (suc i)) (λ k. unused-counts-none w p b (suc k)) (count_of_pairs p)

  sheet-rows : unbound_rows (sheet w p b) ≡ unbound_rows (at_rows (row_count w)) + unbound_rows (at-end (row_count w))
  unfolding sheet
  sheet-rows =
      let not-used = each (λ i. unused w p b (suc i)) (count_of_pairs p) in
      omega (arith, rows_append (at_rows (row_count w)) (at-end (row_count w) ++ not-used), rows_append (at-end (row_count w)) not-used, none-unused)

  bound-words : bound_branches w (bindings w p b) ≡ how_many (bound w p b) (row_count w)
  unfolding bound_branches bindings
  bound-words = how_many-same (λ r. is_branch_row w r && ltb 0 (get_or (bindings w p b) r 0)) (bound w p b) (row_count w)
      (λ r h. ap (λ (v : ℕ). is_branch_row w r && ltb 0 v) (each_at (binding w p b) (row_count w) r h))

  sums : labelled_branches w ≡ bound_branches w (bindings w p b) + unbound_rows (sheet w p b)
  unfolding labelled_branches
  sums = omega (arith, first_rows (row_count w) (omega arith), bound-words, sheet-rows)

pub tally-law : (w p b : List ℕ) → TallyLaw w p b
tally-law w p b wf = sums (facts.body w p b wf)

-- the same of the bindings' own words
pub word-labelled : (w p b : List ℕ) → WellFormed w p b → (r : ℕ) → r < row_count w
    → is_branch_row w r && ltb 0 (get_or (bindings w p b) r 0) ≡ true → is_branch_row w r && ltb 0 (name w r) ≡ true
unfolding bindings
word-labelled w p b wf r h t =
    bound-labelled (facts.body w p b wf) r h (ap (λ (v : ℕ). is_branch_row w r && ltb 0 v) (sym (each_at (binding w p b) (row_count w) r h)) ∙ t)

-- ---- in the words that the label call leaves
count-first : (P : ℕ → Bool) (n : ℕ) → how_many P (suc n) ≡ one (P 0) + how_many (λ k. P (suc k)) n
count-first P zero = omega (arith, count_next P 0, count-zero P, count-zero (λ k. P (suc k)))
count-first P (suc n) = omega (arith, count_next P (suc n), count-first P n, count_next (λ k. P (suc k)) n)

-- a fault is four words
next-fault : (f : Fault) (s : List ℕ) (i : ℕ) → get_or (f.code ∷ f.position ∷ f.name ∷ f.other ∷ s) (suc i * 4) 0 ≡ get_or s (i * 4) 0
next-fault f s i =
    let e : suc i * 4 ≡ suc (suc (suc (suc (i * 4)))) = omega arith in
    ap (λ (k : ℕ). get_or (f.code ∷ f.position ∷ f.name ∷ f.other ∷ s) k 0) e

pub words-rows : (fs : List Fault) (rest : List ℕ) → unbound_words (length fs) (fault_words fs ++ rest) ≡ unbound_rows fs
unfolding unbound_words
words-rows [] rest = count-zero (λ i. is_unbound (get_or rest (i * 4) 0)) ∙ sym rows_none
words-rows (f ∷ fs) rest =
    let s = fault_words (f ∷ fs) ++ rest in
    let later = how_many-same (λ i. is_unbound (get_or s (suc i * 4) 0)) (λ i. is_unbound (get_or (fault_words fs ++ rest) (i * 4) 0)) (length fs)
    (λ i h. ap is_unbound (next-fault f (fault_words fs ++ rest) i)) in
    omega (arith, count-first (λ i. is_unbound (get_or s (i * 4) 0)) (length fs), later, words-rows fs rest, rows-cons f fs)

pub first-words : (w p b rest : List ℕ) → bound_branches w (bindings w p b ++ rest) ≡ bound_branches w (bindings w p b)
unfolding bound_branches bindings
first-words w p b rest = how_many-same
    (λ r. is_branch_row w r && ltb 0 (get_or (bindings w p b ++ rest) r 0)) (λ r. is_branch_row w r && ltb 0 (get_or (bindings w p b) r 0)) (row_count w)
    (λ r h. ap (λ (v : ℕ). is_branch_row w r && ltb 0 v)
    (get_or-append (bindings w p b) rest 0 r (omega (arith, each-length (binding w p b) (row_count w)))))
