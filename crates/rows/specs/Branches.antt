-- Document 01, "The lent records": the details of a Branch, 0 break, 1 continue, 2 goto, 3 fallthrough.
-- Assumes nothing.
use Rattle.std.specs.Prelude.{ℕ}
use Rattle.rows.specs.declared.details.Branch.{Branch}
use Rattle.rows.specs.declared.details.Branch.TheVariants.{Break, Continue, Goto, Fallthrough}

-- the branch's number
abbrev pub number : Branch → ℕ
number Break = 0
number Continue = 1
number Goto = 2
number Fallthrough = 3
