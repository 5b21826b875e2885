-- What the tally says, written out from rows, binding words and sheet words, without the names of specs/Tally.antt: a weaker law doesn't give it. So
-- where the sheet is empty each labelled branch has a nonzero word: as many rows have one as have a label, and none has one without a label.
-- Then both on bodies, and on what the label call leaves in buffers that were full of 7s.
-- Assumes nothing.
use mathlib.Core.Path.{◌≡◌, refl}
use mathlib.Core.Bool.{Bool, ◌&&◌}
use mathlib.Core.List.{List, [], append-nil}
use Prim.Native.Nat.{ℕ, ◌+◌, ◌*◌, ◌<◌}
use native.Mathlib.Omega.{arith}
use lib.Dec.{ltb, leb, eqb}
use lib.ListN.{length, get_or, replicate}
use borrow.Author.Tests.{ltb-true, eq-eqb, lt-ltb}
use Rattle.rules.specs.Scan.{how_many}
use Rattle.rules.specs.Rows.{row_count, kind, name}
use Rattle.rules.specs.Refusals.{WellFormed}
use Rattle.rules.specs.Labels.{sheet, bindings}
use Rattle.rules.specs.Calls.{answered, too_short, fault_words, label_call}
use Rattle.rules.specs.Tally.{labelled_branches, bound_branches, unbound_rows, unbound_words}
use Rattle.rules.specs.Bodies.{pairs, bytes, goto_and_back}
use Rattle.rules.proofs.Computed.{computed}
use Rattle.rules.proofs.Test.{case-of, and-true, true-and}
use Rattle.rules.proofs.Scan.{how_many-lt}
use Rattle.rules.proofs.TallyBodies.{several_branches}
use Rattle.rules.proofs.Tally.{tally-law, words-rows, word-labelled}
use Rattle.rules.proofs.TallyCall.{call-tally}

-- rows of kind 11 with a name, and with a nonzero word
abbrev named : List ℕ → ℕ → Bool
named w r = eqb (kind w r) 11 && ltb 0 (name w r)

abbrev worded : List ℕ → List ℕ → ℕ → Bool
worded w t r = eqb (kind w r) 11 && ltb 0 (get_or t r 0)

-- the code of a sheet row is 4 to 8
abbrev four-to-eight : List ℕ → ℕ → Bool
four-to-eight s i = leb 4 (get_or s (i * 4) 0) && leb (get_or s (i * 4) 0) 8

module _ (w p b : List ℕ) where
  -- ---- of the bindings and the sheet
  module _ (wf : WellFormed w p b) where
    pub sum_is : how_many (named w) (row_count w)
        ≡ how_many (worded w (bindings w p b)) (row_count w) + how_many (four-to-eight (fault_words (sheet w p b))) (length (sheet w p b))
    unfolding labelled_branches bound_branches unbound_words
    sum_is =
        let faults = sheet w p b in
        let rows : unbound_words (length faults) (fault_words faults) ≡ unbound_rows faults = rw append-nil at (words-rows faults []) in
        omega (arith, tally-law w p b wf)

    -- with an empty sheet
    pub all-bound : sheet w p b ≡ [] → (r : ℕ) → r < row_count w → kind w r ≡ 11 → 0 < name w r → 0 < get_or (bindings w p b) r 0
    unfolding how_many
    all-bound e r h k l = case-of (worded w (bindings w p b) r)
        (λ t. ltb-true 0 (get_or (bindings w p b) r 0) (and-true (eqb (kind w r) 11) (ltb 0 (get_or (bindings w p b) r 0)) t).1)
        (λ f. absurd (omega (
          arith,
          rw e at sum_is,
          how_many-lt (worded w (bindings w p b)) (named w) (row_count w) r
              (λ j i. word-labelled w p b wf j i) h f (true-and (eqb (kind w r) 11) (ltb 0 (name w r)) (eq-eqb (kind w r) 11 k) (lt-ltb 0 (name w r) l)),
        )))

  -- ---- of what the label call leaves in a sheet s and bindings t, with the answer n
  module _ (s t : List ℕ) (n : ℕ) (e : (label_call w p b s t).answer ≡ answered n) where
    pub call-sum-is : how_many (named w) (row_count w)
        ≡ how_many (worded w (label_call w p b s t).binding_words) (row_count w) + how_many (four-to-eight (label_call w p b s t).sheet_words) n
    unfolding labelled_branches bound_branches unbound_words
    call-sum-is = call-tally w p b s t n e

-- ---- on bodies
branches-bound : (r : ℕ) → r < 6 → kind goto_and_back r ≡ 11 → 0 < name goto_and_back r → 0 < get_or (bindings goto_and_back pairs bytes) r 0
unfolding computed
branches-bound r h k l = all-bound goto_and_back pairs bytes refl refl r h k l

-- L: for { break L; break; continue M; goto M }; M: return; goto L
several : how_many (named several_branches) 11
    ≡ how_many (worded several_branches (bindings several_branches pairs bytes)) 11 + how_many (four-to-eight (fault_words (sheet several_branches pairs bytes))) 1
unfolding computed
several = sum_is several_branches pairs bytes refl

-- 88 words of sheet and 11 of bindings are the least, and both are longer here
called : how_many (named several_branches) 11
    ≡ how_many (worded several_branches (label_call several_branches pairs bytes (replicate 90 7) (replicate 13 7)).binding_words) 11
    + how_many (four-to-eight (label_call several_branches pairs bytes (replicate 90 7) (replicate 13 7)).sheet_words) 1
unfolding computed too_short label_call
called = call-sum-is several_branches pairs bytes (replicate 90 7) (replicate 13 7) 1 refl
