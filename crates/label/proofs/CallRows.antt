-- The label call around the walk: the bindings cleared, a body without names, and that what is left is what the call's definition says.
-- Assumes nothing.
use mathlib.Core.Path.{◌≡◌, refl, sym, ◌∙◌, ap}
use mathlib.Core.Bool.{true, false}
use mathlib.Core.List.{List}
use mathlib.Core.Option.{some}
use Prim.Native.Nat.{ℕ, ◌*◌, ◌≤◌, ◌<◌}
use native.Mathlib.Omega.{arith}
use lib.ListN.{length}
use lib.Seq.{length-take-le}
use Rattle.rules.specs.Rows.{row_count}
use Rattle.rules.specs.Refusals.{refusal, WellFormed}
use Rattle.rules.specs.Body.{Body}
use Rattle.rules.specs.Labels.{Fault, sheet as sheet_of, bindings as bindings_of}
use Rattle.rules.specs.Calls.{Answer, refused, answered, fault_words, written, too_short, label_call}
use Rattle.rules.proofs.Lent.{short-sheet, short-bindings, room, is-written}
use Rattle.rules.proofs.LabelCall.{label-refused, label-short, label-written}
use Rattle.walk_state.proofs.WalkFaults.{words-length}
use Rattle.label_body.specs.Answered.{Answered}
use Rattle.label_body.proofs.BodyRows.{bindings-by-row}
use Rattle.label.specs.Cleared.{NoName, Cleared}
use Rattle.label.proofs.NamelessRows.{nameless-sheet, nameless-binding}

-- ---- without names there is nothing to walk
module _ {w p b : List ℕ} (body : Body w p b) where
  pub nameless-answered : (s t t' : List ℕ) → NoName w → row_count w ≤ length t → Cleared (row_count w) t t' → Answered w p b 0 s t s t'
  nameless-answered s t t' free room c = record {
    on_sheet = record {
      count = ap length (sym (nameless-sheet body free));
      reported = ap (λ (f : List Fault). fault_words f) (sym (nameless-sheet body free));
      sheet_length = refl;
      sheet_kept = refl;
    };
    bindings_length = c.cleared_length;
    bound = bindings-by-row body t' (omega (arith, c.cleared_length)) (λ g h. c.zeros g h ∙ sym (nameless-binding body free g h));
    bindings_kept = c.kept;
  }

-- ---- the call
-- what it answers, and the two as it leaves them
abbrev pub Called : (w p b s t : List ℕ) → Answer ℕ → (s' t' : List ℕ) → Type 0
Called w p b s t a s' t' = (a ≡ (label_call w p b s t).answer) × ((s' ≡ (label_call w p b s t).sheet_words) × (t' ≡ (label_call w p b s t).binding_words))

module _ (w p b s t : List ℕ) where
  pub call-refused : (r : ℕ × ℕ) → some r ≡ refusal w p b → Called w p b s t (refused r.0 r.1) s t
  call-refused r e = rw (label-refused w p b s t r (sym e)) (refl, (refl, refl))

  module _ (f : WellFormed w p b) where
    call-short : too_short w s t ≡ true → Called w p b s t (refused 7 0) s t
    call-short e = rw (label-short w p b s t f e) (refl, (refl, refl))

    pub call-short-sheet : length s < row_count w * 8 → Called w p b s t (refused 7 0) s t
    call-short-sheet h = call-short (short-sheet w s t h)

    pub call-short-bindings : row_count w * 8 ≤ length s → length t < row_count w → Called w p b s t (refused 7 0) s t
    call-short-bindings h l = call-short (short-bindings w s t h l)

    call-written : too_short w s t ≡ false
        → Called w p b s t (answered (length (sheet_of w p b))) (written (fault_words (sheet_of w p b)) s) (written (bindings_of w p b) t)
    call-written e = rw (label-written w p b s t f e) (refl, (refl, refl))

    pub call-answered : (n : ℕ) (s' t' : List ℕ) → row_count w * 8 ≤ length s → row_count w ≤ length t → Answered w p b n s t s' t'
        → Called w p b s t (answered n) s' t'
    call-answered n s' t' h l x =
        let c = call-written (room w s t h l) in
        let y = x.on_sheet in
        let k = length-take-le (row_count w) t' (omega (arith, x.bindings_length)) in (
          ap (λ (m : ℕ). answered m) y.count ∙ c.0,
          (
            is-written (fault_words (sheet_of w p b)) s s' (n * 4) (omega (arith, y.count, words-length (sheet_of w p b))) y.reported y.sheet_kept
                ∙ c.1.0,
            is-written (bindings_of w p b) t t' (row_count w) (sym k ∙ ap length x.bound) x.bound x.bindings_kept ∙ c.1.1,
          ),
        )
