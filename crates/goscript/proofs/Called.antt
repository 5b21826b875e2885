-- With the calls' equations: on every well-formed body the label call gives the sheet and the bindings of the mended goscript, and the verdict call its
-- verdict; in stock's two domains the calls give stock's. A build that has a body's sheet and bindings, or its verdict, is what the call on it answers.
-- Assumes nothing.
use mathlib.Core.Path.{◌≡◌}
use mathlib.Core.Bool.{true, false}
use mathlib.Core.List.{List}
use Prim.Native.Nat.{ℕ}
use lib.ListN.{length}
use Rattle.rules.specs.Refusals.{WellFormed}
use Rattle.rules.specs.Calls.{answered, too_short, fault_words, written, label_call, verdict_call}
use Rattle.rules.proofs.LabelCall.{label-written}
use Rattle.goscript.specs.Build.{Build, stock, mended_build}
use Rattle.goscript.specs.Label.{sheet, bindings}
use Rattle.goscript.specs.Returns.{verdict}
use Rattle.goscript.specs.Domains.{none_names_ended, none_labelled}
use Rattle.goscript.specs.Equal.{SameLabels, SameVerdict}
use Rattle.goscript.proofs.Equal.{mended-law, stock-labels-law, stock-verdict-law}

module _ (w p b : List ℕ) (f : WellFormed w p b) where
  -- ---- the label call
  module _ (s t : List ℕ) (n : too_short w s t ≡ false) where
    -- the label call's answer, and both buffers after it, with this build's sheet and bindings
    abbrev GivesLabels : Build → Type 0
    GivesLabels build = label_call w p b s t
        ≡ record {
          answer = answered (length (sheet build w p b));
          sheet_words = written (fault_words (sheet build w p b)) s;
          binding_words = written (bindings build w p b) t;
        }

    gives-labels : (build : Build) → SameLabels build w p b → GivesLabels build
    gives-labels build (e, i) = rw (e, i) (label-written w p b s t f n)

    pub called-labels : GivesLabels mended_build
    called-labels = gives-labels mended_build (mended-law w p b f).0

    pub called-stock-labels : none_names_ended w p b ≡ true → GivesLabels stock
    called-stock-labels d = gives-labels stock (stock-labels-law w p b f d)

  -- ---- the verdict call
  gives-verdict : (build : Build) → SameVerdict build w p b → verdict_call w p b ≡ answered (verdict build w p b)
  unfolding verdict_call
  gives-verdict build v = rw (f, v, verdict_call)

  pub called-verdict : verdict_call w p b ≡ answered (verdict mended_build w p b)
  called-verdict = gives-verdict mended_build (mended-law w p b f).1

  pub called-stock-verdict : none_labelled w ≡ true → verdict_call w p b ≡ answered (verdict stock w p b)
  called-stock-verdict d = gives-verdict stock (stock-verdict-law w p b f d)
