-- The sum in the words that the label call leaves: both buffers begin with what was written, and the rest is as it was, so the law of the records (Tally)
-- is one of the words.
-- Assumes nothing.
use mathlib.Core.Path.{◌≡◌}
use mathlib.Core.List.{List}
use Prim.Native.Nat.{ℕ, ◌+◌}
use native.Mathlib.Omega.{arith}
use lib.ListN.{length, drop}
use Rattle.rules.specs.Labels.{sheet, bindings}
use Rattle.rules.specs.Calls.{fault_words, label_call}
use Rattle.rules.specs.Tally.{labelled_branches, bound_branches, unbound_words, CallTally}
use Rattle.rules.proofs.Facts as facts
use Rattle.rules.proofs.LabelCall.{Counted, label-counted}
use Rattle.rules.proofs.Tally.{tally-law, first-words, words-rows}

-- both buffers begin with what was written
call-sums : {w p b s t : List ℕ} {n : ℕ} → Counted w p b s t n
    → labelled_branches w ≡ bound_branches w (label_call w p b s t).binding_words + unbound_words n (label_call w p b s t).sheet_words
call-sums {w} {p} {b} {s} {t} c =
    let sheet-left = drop (length (fault_words (sheet w p b))) s in
    let bindings-left = drop (length (bindings w p b)) t in
    rw (c.left, c.count) (omega (
      arith,
      tally-law w p b c.well_formed,
      first-words w p b bindings-left,
      words-rows (sheet w p b) sheet-left,
    ))

pub call-tally : (w p b s t : List ℕ) → CallTally w p b s t
call-tally w p b s t n e = call-sums (label-counted w p b s t n e)
