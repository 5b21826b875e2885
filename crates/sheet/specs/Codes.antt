-- Document 01, "Label call": the codes of the sheet, from 1 to 9.
-- Assumes nothing.
use Rattle.std.specs.Prelude.{ℕ}
use Rattle.sheet.specs.declared.Code.{Code}
use Rattle.sheet.specs.declared.Code.TheVariants.{AlreadyDeclared, OtherDeclaration, JumpsOverDeclaration, InvalidBreak, InvalidContinue, LabelledFallthrough, GotoIntoBlock, NotDeclared, NotUsed}

-- the code's number
abbrev pub number : Code → ℕ
number AlreadyDeclared = 1
number OtherDeclaration = 2
number JumpsOverDeclaration = 3
number InvalidBreak = 4
number InvalidContinue = 5
number LabelledFallthrough = 6
number GotoIntoBlock = 7
number NotDeclared = 8
number NotUsed = 9
