-- The first half of the handbook's law.
-- Assumes nothing.
use mathlib.Core.List.{List}
use Prim.Native.Nat.{ℕ}
use Rattle.rules.specs.Law.{SheetLaw}
use Rattle.rules.proofs.Facts as facts
use Rattle.rules.proofs.SheetRows.{sheet-none, none-sheet}
use Rattle.rules.proofs.FromLawful.{no_fault}
use Rattle.rules.proofs.FromSheet.{all-lawful}

pub sheet-law : (w p b : List ℕ) → SheetLaw w p b
sheet-law w p b wf =
    let body = facts.body w p b wf in (
      λ e. all-lawful w p b body (sheet-none w p b e),
      λ all. none-sheet w p b (no_fault w p b body all),
    )
