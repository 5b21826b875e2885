-- With room for both, the label call of a well-formed body answers with the sheet's row count and leaves the bindings, word by word. A count that isn't 0
-- is a label fault; else it is the placing that decides.
-- Assumes nothing.
use mathlib.Core.Path.{◌≡◌, refl, sym, ◌∙◌, ap}
use mathlib.Core.Bool.{Bool, true, false, not}
use mathlib.Core.Logic.{◌≢◌}
use mathlib.Core.List.{List}
use Prim.Native.Nat.{ℕ, ◌*◌, ◌≤◌, ◌<◌}
use native.Mathlib.Omega.{arith}
use lib.Dec.{eqb}
use lib.ListN.{length, get_or, get_or-append}
use borrow.Author.Tests.{ne_eqb}
use Rattle.std.proofs.Common.{Option, Some, None}
use Rattle.std.specs.Option.{is_some}
use Rattle.rules.specs.Rows.{row_count}
use Rattle.rules.specs.Refusals.{WellFormed}
use Rattle.rules.specs.Labels as found
use Rattle.rules.specs.Labels.{binding, sheet, bindings}
use Rattle.rules.specs.Placing.{placing}
use Rattle.rules.specs.Calls.{refused, answered, LabelCall, label_call, written}
use Rattle.rules.proofs.Test.{clash}
use Rattle.rules.proofs.Each.{each-length, each_at}
use Rattle.rules.proofs.Lent.{room, written-length}
use Rattle.rules.proofs.LabelCall.{label-written}
use Rattle.rules.proofs.WalkSteps.{faulty-sheet, faulty-placing}
use Rattle.rows.specs.declared.RowNumber.{RowNumber}
use Rattle.rows.specs.Found.{row_found}
use Rattle.destinations.specs.Destinations.{Bound}
use Rattle.faultless.specs.Judged.{Judged}

-- a row is found or none is
unless-placed : (o : Option RowNumber) (r : Bool) → is_some o ≡ not r → r ≡ not (found.is_some (row_found o))
unless-placed (Some x) true f = absurd (clash (cc))
unless-placed (Some x) false f = refl
unless-placed None true f = refl
unless-placed None false f = absurd (clash (cc))

module _ (w p b : List ℕ) where
  -- the bindings, one by one
  bindings_length : length (bindings w p b) ≡ row_count w
  unfolding bindings
  bindings_length = each-length (binding w p b) (row_count w)

  bindings-at : (r : ℕ) → r < row_count w → get_or (bindings w p b) r 0 ≡ binding w p b r
  unfolding bindings
  bindings-at r h = each_at (binding w p b) (row_count w) r h

  module _ (s t t' : List ℕ) (wf : WellFormed w p b) (h : (row_count w * 8 ≤ length s) × (row_count w ≤ length t))
      (e : t' ≡ (label_call w p b s t).binding_words) where
    left-words : t' ≡ written (bindings w p b) t
    left-words = e ∙ ap (λ (c : LabelCall). c.binding_words) (label-written w p b s t wf (room w s t h.0 h.1))

    answer-is : (label_call w p b s t).answer ≡ answered (length (sheet w p b))
    answer-is = ap (λ (c : LabelCall). c.answer) (label-written w p b s t wf (room w s t h.0 h.1))

    bound : Bound w p b t'
    bound = record {
      room = omega (arith, ap length left-words, written-length (bindings w p b) t (omega (arith, bindings_length)), h.1);
      words = λ r m.
          ap (λ (x : List ℕ). get_or x r 0) left-words
          ∙ get_or-append (bindings w p b) _ 0 r (omega (arith, bindings_length)) ∙ bindings-at r m;
    }

    pub judged-refused : (k i : ℕ) → refused k i ≡ (label_call w p b s t).answer → ⊥
    judged-refused k i f = let g = answer-is in clash (cc)

    module _ (n : ℕ) (f : answered n ≡ (label_call w p b s t).answer) where
      count-is : n ≡ length (sheet w p b)
      count-is = let g = answer-is in cc

      pub judged-faults : n ≢ 0 → Judged w p b t' (eqb n 0)
      judged-faults z = record {
        judged = rw (ne_eqb n 0 z, faulty-sheet w p b (λ y. z (count-is ∙ y)));
        bound = bound;
      }

      pub judged-placing : n ≡ 0 → (o : Option RowNumber) (r : Bool) → row_found o ≡ placing w → is_some o ≡ not r → Judged w p b t' r
      judged-placing z o r i f = record {
        judged = rw (faulty-placing w p b (sym count-is ∙ z), ← i) (unless-placed o r f);
        bound = bound;
      }
