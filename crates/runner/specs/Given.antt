-- The walk's answer as a refusal of documents 01 and 02, or the place reached, the steps made and the choices used.
-- Assumes nothing.
use Rattle.std.specs.Prelude.{Result, Ok, Err}
use Rattle.rules.specs.Runner.{State, at, stopped, brace}
use Rattle.rules.specs.Calls.{Answer, refused, answered}
use Rattle.rules.specs.Walking.{Walked, walked}
use Rattle.refusals.specs.declared.Refusal.{Refusal}
use Rattle.refusals.specs.Returned.{returned}
use Rattle.runner.specs.declared.Place.{Place}
use Rattle.runner.specs.declared.Place.TheVariants.{Stopped, Brace, Row}
use Rattle.runner.specs.declared.WalkEnd.{WalkEnd}

abbrev pub state_of : Place → State
state_of Stopped = stopped
state_of Brace = brace
state_of (Row r) = at r.0

abbrev pub given : Result WalkEnd Refusal → Answer Walked
given (Ok x) = answered (walked (state_of x.place) x.steps x.used)
given (Err r) = refused (returned r).0 (returned r).1
