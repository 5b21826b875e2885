-- Demand 2, first half, as statements about every well-formed body: goscript's answers are those of `rules`, but at the three places.
-- proofs/Equal.antt proves them.
-- Assumes nothing.
use Rattle.std.specs.Prelude.{◌≡◌, true, List, ℕ}
use Rattle.rules.specs.Refusals.{WellFormed}
use Rattle.rules.specs.Labels.{sheet as sheet_of, bindings as bindings_of}
use Rattle.rules.specs.Verdict.{verdict as verdict_of}
use Rattle.goscript.specs.Build.{Build, stock, mended_build}
use Rattle.goscript.specs.Label.{sheet, bindings}
use Rattle.goscript.specs.Returns.{verdict}
use Rattle.goscript.specs.Domains.{none_names_ended, none_labelled}

-- a build has this body's sheet and bindings
abbrev pub SameLabels : Build → List ℕ → List ℕ → List ℕ → Type 0
SameLabels build w p b = (sheet build w p b ≡ sheet_of w p b) × (bindings build w p b ≡ bindings_of w p b)

-- and its verdict
abbrev pub SameVerdict : Build → List ℕ → List ℕ → List ℕ → Type 0
SameVerdict build w p b = verdict build w p b ≡ verdict_of w p b

-- with A, B and C mended they are the same on every well-formed body
abbrev pub MendedLaw : List ℕ → List ℕ → List ℕ → Type 0
MendedLaw w p b = WellFormed w p b → SameLabels mended_build w p b × SameVerdict mended_build w p b

-- stock has the same sheet and bindings where no labelled break or continue names the label of a statement already ended
abbrev pub StockLabelsLaw : List ℕ → List ℕ → List ℕ → Type 0
StockLabelsLaw w p b = WellFormed w p b → none_names_ended w p b ≡ true → SameLabels stock w p b

-- and the same verdict where no statement of kinds 15, 16, 18 to 20 carries or holds a label
abbrev pub StockVerdictLaw : List ℕ → List ℕ → List ℕ → Type 0
StockVerdictLaw w p b = WellFormed w p b → none_labelled w ≡ true → SameVerdict stock w p b
