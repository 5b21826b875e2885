-- `report` gives what the definition gives of the first bytes and the length, and those give what it gives of the file.
-- Assumes nothing.
use Rattle.filter.proofs.Whole.{of_count}
use mathlib.Core.Path.{◌∙◌}
use native.Mathlib.Omega.{arith}
use Rattle.filter.proofs.output.Goals as goal

pub returns : goal.returns
returns c = λ rest r l. c.report-end.ensures.text ∙ of_count _ rest r _ (λ i. omega (arith, c.type_inv.start i)) l
