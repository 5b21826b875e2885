-- The room on the sheet, two faults a row: a label reports at most two of its own, or none and keeps room for its 9; a goto keeps room for one as long
-- as it is pending,
-- which a 3 at its label takes; other rows report at most one.
-- Assumes nothing.
use mathlib.Core.Path.{◌≡◌, ◌∙◌, ap}
use mathlib.Core.Bool.{Bool, true, false, ◌&&◌}
use mathlib.Core.List.{List, []}
use mathlib.Core.Option.{some}
use Prim.Native.Nat.{ℕ, zero, suc, ◌+◌, ◌*◌, ◌≤◌, ◌<◌}
use native.Mathlib.Omega.{arith}
use native.Mathlib.Decide.{dec_lt, ℕ_discrete}
use lib.ListN.{length, length-append}
use borrow.Author.Tests.{ne_eqb}
use Rattle.rules.specs.Scan.{how_many}
use Rattle.rules.specs.Rows.{row_count, name}
use Rattle.rules.specs.Class.{goto, fallthrough, class}
use Rattle.rules.specs.Labels.{each, is, is_class, is_label, declared, later, latest_declaration, pending, labelled_break, valid_target, jumps_over, repeated, report}
use Rattle.rules.proofs.Test.{case-of, case-found, clash}
use Rattle.rules.proofs.Every.{is_one}
use Rattle.rules.proofs.Scan.{how_many-yes, how_many-no, how_many-same}
use Rattle.rules.proofs.Each.{each-zero, each-suc}
use Rattle.rules.proofs.ClassTests.{one-is, by-break}
use Rattle.rules.proofs.Found.{found-is}
use Rattle.rules.proofs.LabelRows.{other-label}
use Rattle.rules.proofs.GotoRows.{parts-later, pending-is, is-pending}
use Rattle.rules.proofs.BreakRows.{is-labelled, other-labelled}
use Rattle.rules.proofs.SheetRows.{is_over, is-over, jumps-none, jumps-some, repeated-none, repeated-not, repeated-is, report-label, report-valid}
use Rattle.rules.proofs.SheetRows.{report-break, report-continue, report-fallthrough, report-other}
use Rattle.walk_state.specs.Walk.{faults_at}
use Rattle.walk_state.proofs.WalkFaults.{faults-zero, faults-suc}
use Rattle.walk_state.proofs.WalkBindings.{later-kept, not-later}
use Rattle.walk_state.proofs.WalkPending.{pending-same, pending-found, pending-other}

module _ (w p b : List ℕ) where
  -- the declared label of its name
  abbrev pub is_declared : ℕ → Bool
  is_declared r = is_label w p b r && is (declared w p b r) r

  -- what is reported and what has its room kept
  abbrev pub taken : ℕ → ℕ
  taken x = length (faults_at w p b x) + how_many (pending w p b x) x + how_many is_declared x

  -- ---- a row that is no label
  at_most_one : (x : ℕ) → is_label w p b x ≡ false → length (report w p b x) ≤ 1
  at_most_one x n = case-of (labelled_break w p b x)
      (λ l. case-of (valid_target w p b x)
      (λ v. rw (report-valid w p b x n l v) (omega arith))
      (λ v. by-break (class w x) (is-labelled w p b x l).breaks
      (λ e. rw (report-break w p b x n l v e) (omega arith))
      (λ e. rw (report-continue w p b x n l v e) (omega arith))))
      (λ l. case-of (is_class w fallthrough x)
      (λ t. elim (dec_lt 0 (name w x)) [
        | yes y ↦
            rw (report-fallthrough w p b x n l (record { falls-through = is_one (class w x) fallthrough t; has-name = y })) (omega arith)
        | no z ↦ rw (report-other w p b x n l (λ f. z f.has-name)) (omega arith)
      ])
      (λ t. rw (report-other w p b x n l (λ f. clash (cc (one-is (class w x) fallthrough f.falls-through)))) (omega arith)))

  goto-reports : (x : ℕ) → is_label w p b x ≡ false → class w x ≡ goto → report w p b x ≡ []
  goto-reports x n c = report-other w p b x n (other-labelled w p b x (rw c))
      (λ f. clash (cc f.falls-through))

  pending-most : (x : ℕ) → how_many (pending w p b (suc x)) (suc x) ≤ suc (how_many (pending w p b (suc x)) x)
  pending-most x = case-of (pending w p b (suc x) x)
      (λ t. omega (arith, how_many-yes (pending w p b (suc x)) x t))
      (λ t. omega (arith, how_many-no (pending w p b (suc x)) x t))

  other-room : (x : ℕ) → is_label w p b x ≡ false → taken x ≤ 2 * x → taken (suc x) ≤ 2 * suc x
  other-room x n h =
      let same = how_many-same (pending w p b (suc x)) (pending w p b x) x (λ k l. pending-same w p b x k (not-later w p b x k n)) in
      let d = how_many-no is_declared x (rw n) in
      let f : length (faults_at w p b (suc x)) ≡ length (faults_at w p b x) + length (report w p b x) =
      ap length (faults-suc w p b x) ∙ length-append (faults_at w p b x) (report w p b x) in
      case-of (is_class w goto x)
      (λ t.
      let r : length (report w p b x) ≡ 0 = ap length (goto-reports x n (is_one (class w x) goto t)) in
      omega (arith, pending-most x))
      (λ t.
      let q = how_many-no (pending w p b (suc x)) x (pending-other w p b (suc x) x (λ c. clash (cc (one-is (class w x) goto c)))) in
      omega (arith, at_most_one x n))

  -- ---- a label
  pending-less : (x g : ℕ) → pending w p b (suc x) g ≡ true → pending w p b x g ≡ true
  pending-less x g t =
      let y = is-pending w p b (suc x) g t in
      case-found (later w p b x g)
      (λ r e. absurd (clash (cc (later-kept w p b x g r e, y.no-later))))
      (λ e. pending-is w p b x g (record { gotos = y.gotos; no-earlier = y.no-earlier; no-later = e }))

  -- what is reported of the goto n, and whether it is pending after
  jumps-room : (x n : ℕ) → n < x → length (jumps_over w p b x n) + how_many (pending w p b (suc x)) (suc n) + how_many (pending w p b x) n
      ≤ how_many (pending w p b (suc x)) n + how_many (pending w p b x) (suc n)
  jumps-room x n h =
      case-found (latest_declaration w p b x)
      (λ d e. case-of (is_over w p b x n d)
      (λ t.
      let o = is-over w p b x n d t in
      let j : length (jumps_over w p b x n) ≡ 1 = ap length (jumps-some w p b x n d e) ∙ rw t in
      let q = how_many-no (pending w p b (suc x)) n (pending-found w p b x n (parts-later w p b n x h o.names o.in_list)) in
      omega (arith, how_many-yes (pending w p b x) n o.waits))
      (λ t. let j : length (jumps_over w p b x n) ≡ 0 = ap length (jumps-some w p b x n d e) ∙ rw t in omega (arith, none-room)))
      (λ e. let j : length (jumps_over w p b x n) ≡ 0 = ap length (jumps-none w p b x n e) in omega (arith, none-room))
    where
      none-room : how_many (pending w p b (suc x)) (suc n) + how_many (pending w p b x) n ≤ how_many (pending w p b (suc x)) n + how_many (pending w p b x) (suc n)
      none-room = case-of (pending w p b (suc x) n)
          (λ t. omega (arith, how_many-yes (pending w p b (suc x)) n t, how_many-yes (pending w p b x) n (pending-less x n t)))
          (λ t. case-of (pending w p b x n)
          (λ u. omega (arith, how_many-no (pending w p b (suc x)) n t, how_many-yes (pending w p b x) n u))
          (λ u. omega (arith, how_many-no (pending w p b (suc x)) n t, how_many-no (pending w p b x) n u)))

  all-jumps : (x n : ℕ) → n ≤ x → length (each (jumps_over w p b x) n) + how_many (pending w p b (suc x)) n ≤ how_many (pending w p b x) n
  unfolding how_many
  all-jumps x zero h = rw (each-zero (jumps_over w p b x)) (omega arith)
  all-jumps x (suc n) h =
      let e : length (each (jumps_over w p b x) (suc n)) ≡ length (each (jumps_over w p b x) n) + length (jumps_over w p b x n) =
      ap length (each-suc (jumps_over w p b x) n) ∙ length-append (each (jumps_over w p b x) n) (jumps_over w p b x n) in
      omega (arith, all-jumps x n (omega arith), jumps-room x n (omega arith))

  own_room : (x : ℕ) → is_label w p b x ≡ true → length (repeated w p b x) + how_many is_declared (suc x) ≤ 2 + how_many is_declared x
  own_room x t = case-found (declared w p b x)
      (λ d e. elim (ℕ_discrete d x) [
        | yes i ↦
            let f : declared w p b x ≡ some x = e ∙ ap some i in
            let r : length (repeated w p b x) ≡ 0 = ap length (repeated-not w p b x f) in
            omega (arith, how_many-yes is_declared x (rw (t, found-is (declared w p b x) x f)))
        | no o ↦
            let r : length (repeated w p b x) ≡ 2 = ap length (repeated-is w p b x d e o) in
            omega (arith, how_many-no is_declared x (rw (t, e) (ne_eqb d x o)))
      ])
      (λ e.
      let r : length (repeated w p b x) ≡ 0 = ap length (repeated-none w p b x e) in
      omega (arith, how_many-no is_declared x (rw (t, e))))

  label-room : (x : ℕ) → is_label w p b x ≡ true → (class w x ≡ goto → ⊥) → taken x ≤ 2 * x → taken (suc x) ≤ 2 * suc x
  label-room x t c h =
      let f : length (faults_at w p b (suc x)) ≡ length (faults_at w p b x) + length (report w p b x) =
      ap length (faults-suc w p b x) ∙ length-append (faults_at w p b x) (report w p b x) in
      let r : length (report w p b x) ≡ length (repeated w p b x) + length (each (jumps_over w p b x) x) =
      ap length (report-label w p b x t) ∙ length-append (repeated w p b x) (each (jumps_over w p b x) x) in
      let q = how_many-no (pending w p b (suc x)) x (pending-other w p b (suc x) x c) in
      omega (arith, own_room x t, all-jumps x x (omega arith))

  -- ---- at each row
  pub room : (x : ℕ) → taken x ≤ 2 * x
  unfolding how_many
  room zero = rw (faults-zero w p b) (omega arith)
  room (suc x) = case-of (is_label w p b x)
      (λ t. label-room x t (λ c. clash (cc (other-label w p b x (λ l. clash (cc))))) (room x))
      (λ n. other-room x n (room x))

  -- so all that the rows before suc x report has its place
  pub faults-fit : (x : ℕ) → x ≤ row_count w → length (faults_at w p b x) * 4 ≤ row_count w * 8
  faults-fit x h = omega (arith, room x)
