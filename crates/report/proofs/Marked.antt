-- The output of a body from the answer of the call that marks it: where the lent sheet and bindings have room for 2,000 rows, the call refuses what document 01
-- refuses, and else its count, place and verdict, the sheet's first words and the bindings' are those of the definitions.
-- Assumes nothing.
use mathlib.Core.Path.{◌≡◌, refl, ◌∙◌, ap}
use mathlib.Core.Bool.{Bool, false}
use mathlib.Core.List.{List, ◌++◌}
use mathlib.Core.Option.{Option, none, some}
use Prim.Native.Nat.{ℕ, ◌*◌, ◌/◌, ◌≤◌}
use native.Mathlib.Omega.{arith}
use lib.ListN.{length, take, drop, replicate, length-append, length-replicate}
use lib.Seq.{take_at}
use Rattle.rules.specs.Rows.{row_count}
use Rattle.rules.specs.Refusals.{refusal}
use Rattle.rules.specs.Labels.{binding, sheet, bindings}
use Rattle.rules.specs.Placing.{placing}
use Rattle.rules.specs.Verdict.{verdict}
use Rattle.rules.specs.Calls.{refused, answered, fault_words, too_short, label_call, placing_call, verdict_call}
use Rattle.rules.proofs.Each.{each-length}
use Rattle.rules.proofs.LabelCall.{label-refused, label-written}
use Rattle.rules.proofs.Lent.{room as has_room}
use Rattle.walk_state.proofs.WalkFaults.{words-length}
use Rattle.marking.specs.Marks.{marks_call}
use Rattle.report_lines.specs.Text.{refused_text, sheet_text, binds_text, placed_text, verdict_text}
use Rattle.report.specs.Text.{body_text}
use Rattle.report_lines.specs.Lines.{sheet_lines}
use Rattle.report_lines.proofs.SheetLines.{sheet-lines}

module _ (w p b : List ℕ) where
  -- ---- the output
  pub text-refused : (r : ℕ × ℕ) → refusal w p b ≡ some r → refused_text r.0 r.1 ≡ body_text w p b
  unfolding body_text
  text-refused r e = rw (e, body_text)

  text-marked : refusal w p b ≡ none
      → sheet_text (sheet w p b) ++ binds_text (bindings w p b) ++ placed_text (placing w) ++ verdict_text (verdict w p b) ≡ body_text w p b
  unfolding body_text
  text-marked e = rw (e, body_text)

  -- a word a row
  bindings_length : refusal w p b ≡ none → length (bindings w p b) ≡ length w / 5
  unfolding bindings
  bindings_length e = each-length (binding w p b) (row_count w)

  -- ---- the call
  module _ (s t : List ℕ) where
    call-refused : (r : ℕ × ℕ) → refusal w p b ≡ some r → marks_call w p b s t ≡ refused r.0 r.1
    unfolding marks_call
    call-refused r e = rw (marks_call, label-refused w p b s t r e)

    module _ (e : refusal w p b ≡ none) (room : too_short w s t ≡ false) where
      call-answered : marks_call w p b s t ≡ answered (length (sheet w p b), placing w, verdict w p b)
      unfolding marks_call placing_call verdict_call
      call-answered = rw (marks_call, label-written w p b s t e room, placing_call, verdict_call, e)

      call-sheet : (label_call w p b s t).sheet_words ≡ fault_words (sheet w p b) ++ drop (length (fault_words (sheet w p b))) s
      call-sheet = rw (label-written w p b s t e room)

      call-bindings : (label_call w p b s t).binding_words ≡ bindings w p b ++ drop (length (bindings w p b)) t
      call-bindings = rw (label-written w p b s t e room)

    -- what the call answers is what is printed
    module _ (room : too_short w s t ≡ false) where
      refused_as : (n i : ℕ) → refused n i ≡ marks_call w p b s t → (o : Option (ℕ × ℕ)) → refusal w p b ≡ o → refused_text n i ≡ body_text w p b
      refused_as n i e (some r) q = let t = text-refused r q in cc (call-refused r q)
      refused_as n i e none q = absurd (cc (call-answered q room))

      pub refused-text : (n i : ℕ) → refused n i ≡ marks_call w p b s t → refused_text n i ≡ body_text w p b
      refused-text n i e = refused_as n i e (refusal w p b) refl

      module _ (n : ℕ) (o : Option ℕ) (v : Bool) (e : answered (n, o, v) ≡ marks_call w p b s t) where
        none-refused : (x : Option (ℕ × ℕ)) → refusal w p b ≡ x → refusal w p b ≡ none
        none-refused (some r) q = absurd (cc (call-refused r q))
        none-refused none q = q

        pub accepted : refusal w p b ≡ none
        accepted = none-refused (refusal w p b) refl

        same : ◌≡◌ {A = ℕ × Option ℕ × Bool} (n, o, v) (length (sheet w p b), placing w, verdict w p b)
        same = cc (call-answered accepted room)

        pub count-is : n ≡ length (sheet w p b)
        count-is = ap (λ (x : ℕ × Option ℕ × Bool). x.0) same

        module _ (s' t' : List ℕ) (f : s' ≡ (label_call w p b s t).sheet_words) (g : t' ≡ (label_call w p b s t).binding_words) where
          sheet-is : sheet_lines s' n ≡ sheet_text (sheet w p b)
          sheet-is =
              ap (λ (l : List ℕ). sheet_lines l n) (f ∙ call-sheet accepted room)
              ∙ ap (sheet_lines (fault_words (sheet w p b) ++ drop (length (fault_words (sheet w p b))) s)) count-is
              ∙ sheet-lines (sheet w p b) (drop (length (fault_words (sheet w p b))) s)

          bindings-are : take (length w / 5) t' ≡ bindings w p b
          bindings-are =
              ap (take (length w / 5)) (g ∙ call-bindings accepted room)
              ∙ take_at (bindings w p b) (drop (length (bindings w p b)) t) (length w / 5) (bindings_length accepted)

          pub marked-text : sheet_lines s' n ++ binds_text (take (length w / 5) t') ++ placed_text o ++ verdict_text v ≡ body_text w p b
          marked-text =
              ap (λ (l : List ℕ). l ++ binds_text (take (length w / 5) t') ++ placed_text o ++ verdict_text v) sheet-is
              ∙ ap (λ (l : List ℕ). sheet_text (sheet w p b) ++ binds_text l ++ placed_text o ++ verdict_text v) bindings-are
              ∙ ap (λ (x : ℕ × Option ℕ × Bool). sheet_text (sheet w p b) ++ binds_text (bindings w p b) ++ placed_text x.1 ++ verdict_text x.2) same
              ∙ text-marked accepted

          -- the lent words hold the sheet
          pub marked-room : n * 4 ≤ length s'
          marked-room = omega (
            arith,
            count-is,
            words-length (sheet w p b),
            ap length (f ∙ call-sheet accepted room),
            length-append (fault_words (sheet w p b)) (drop (length (fault_words (sheet w p b))) s),
          )

-- ---- lent words that are 0, with room for 2,000 rows
pub enough : (w : List ℕ) (m n : ℕ) → length w ≤ 10000 → 16000 ≤ m → 2000 ≤ n → too_short w (replicate m 0) (replicate n 0) ≡ false
enough w m n h k l =
    has_room w (replicate m 0) (replicate n 0) (omega (arith, length-replicate {A = ℕ} m 0)) (omega (arith, length-replicate {A = ℕ} n 0))
