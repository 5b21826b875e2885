-- What each call answers and leaves: the definitions that the calls' equations cite.
-- Assumes nothing.
use Rattle.std.specs.Prelude.{Bool, true, false, ◌||◌, List, [], ◌∷◌, ◌++◌, ℕ, ◌*◌, ltb, length, drop}
use Rattle.std.proofs.Math.Option.{Option, none, some}
use Rattle.rules.specs.Rows.{row_count}
use Rattle.rules.specs.Refusals.{refusal}
use Rattle.rules.specs.Labels.{Fault, sheet, bindings}
use Rattle.rules.specs.Placing.{placing}
use Rattle.rules.specs.Verdict.{verdict}

-- a refusal's number and index, or the answer
pub data Answer (A : Type 0) : Type 0 where
  refused : ℕ → ℕ → Answer A
  answered : A → Answer A

-- the first row badly placed, or none
unfoldable pub placing_call : List ℕ → List ℕ → List ℕ → Answer (Option ℕ)
placing_call w p b = elim (refusal w p b) [ some r ↦ refused r.0 r.1 | none ↦ answered (placing w) ]

unfoldable pub verdict_call : List ℕ → List ℕ → List ℕ → Answer Bool
verdict_call w p b = elim (refusal w p b) [ some r ↦ refused r.0 r.1 | none ↦ answered (verdict w p b) ]

-- ---- the label call: the answer, the lent sheet and the lent bindings

-- 7: sheet shorter than 8 words a row, or bindings shorter than 1 word a row
unfoldable pub too_short : List ℕ → List ℕ → List ℕ → Bool
too_short w s t = ltb (length s) (row_count w * 8) || ltb (length t) (row_count w)

abbrev pub fault_words : List Fault → List ℕ
fault_words [] = []
fault_words (f ∷ fs) = f.code ∷ f.position ∷ f.name ∷ f.other ∷ fault_words fs

-- new words from the start on; words past them stay
abbrev pub written : List ℕ → List ℕ → List ℕ
written new old = new ++ drop (length new) old

pub record LabelCall : Type 0 where
  pub answer : Answer ℕ
  pub sheet_words : List ℕ
  pub binding_words : List ℕ

-- the sheet's row count with both written; a refusal leaves them as they were lent
unfoldable pub label_call : List ℕ → List ℕ → List ℕ → List ℕ → List ℕ → LabelCall
label_call w p b s t = elim (refusal w p b) [
  | some r ↦ record { answer = refused r.0 r.1; sheet_words = s; binding_words = t }
  | none ↦ elim (too_short w s t) [
    | true ↦ record { answer = refused 7 0; sheet_words = s; binding_words = t }
    | false ↦ record {
      answer = answered (length (sheet w p b));
      sheet_words = written (fault_words (sheet w p b)) s;
      binding_words = written (bindings w p b) t;
    }
  ]
]
