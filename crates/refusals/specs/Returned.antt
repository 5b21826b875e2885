-- What a refusal returns: its number and index in documents 01 and 02; and a call's answer by that.
-- Assumes nothing.
use Rattle.std.specs.Prelude.{ℕ, Result, Ok, Err}
use Rattle.rules.specs.Calls.{Answer, refused, answered}
use Rattle.refusals.specs.declared.Refusal.{Refusal}
use Rattle.refusals.specs.declared.Refusal.TheVariants.{RowWords, NameWords, Pair, Row, Shape, SecondDefault, Depth, TooShort, Faulty, Choice}

abbrev pub returned : Refusal → ℕ × ℕ
returned RowWords = (1, 0)
returned NameWords = (2, 0)
returned (Pair i) = (3, i)
returned (Row r) = (4, r.0)
returned (Shape r) = (5, r.0)
returned (SecondDefault r) = (10, r.0)
returned (Depth r) = (6, r.0)
returned TooShort = (7, 0)
returned Faulty = (8, 0)
returned (Choice i) = (9, i)

-- the answer, or the refusal's number and index
abbrev pub given : {A : Type 0} → Result A Refusal → Answer A
given (Ok x) = answered x
given (Err r) = refused (returned r).0 (returned r).1
