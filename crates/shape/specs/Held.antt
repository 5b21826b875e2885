-- The code's enum of what stands below a row, as the definition's.
-- Assumes nothing.
use Rattle.rules.specs.Refusals.{Holding as Holds, nothing, statement, body, branches, statements, cases, comms}
use Rattle.shape.specs.declared.Holding.{Holding}
use Rattle.shape.specs.declared.Holding.TheVariants.{Nothing, Statement, Body, Branches, Statements, Cases, Comms}

abbrev pub held : Holding → Holds
held Nothing = nothing
held Statement = statement
held Body = body
held Branches = branches
held Statements = statements
held Cases = cases
held Comms = comms
