-- Where each Branch goes.
-- Assumes nothing.
use Rattle.std.specs.Prelude.{◌≡◌, true, List, ℕ, ◌≤◌, ◌<◌, length, get_or}
use Rattle.std.proofs.Math.Option.{some}
use Rattle.rules.specs.Rows.{row_count}
use Rattle.rules.specs.Class.{is_breakable, is_loop, is_case, is_branch, class}
use Rattle.rules.specs.Labels.{binding}
use Rattle.rules.specs.Runner.{at, step}
use Rattle.rules.specs.Walking.{Faultless, place_of}
use Rattle.afters.specs.Afters.{Afters}
use Rattle.enclosing.specs.declared.Enclosing.{Enclosing}
use Rattle.enclosing.specs.Enclosing.{breakable_word, loop_word, case_word, Enclosing as IsEnclosing}

-- each row's word is its binding
pub record Bound (w p b t : List ℕ) : Type 0 where
  pub room : row_count w ≤ length t
  pub words : (r : ℕ) → r < row_count w → get_or t r 0 ≡ binding w p b r

-- a body without a fault, with what its branches go by: bindings, places after rows, and the rows around rows
pub record Tables (w p b bindings afters : List ℕ) (enclosing : List Enclosing) : Type 0 where
  pub faultless : Faultless w p b
  pub bound : Bound w p b bindings
  pub afters_room : row_count w ≤ length afters
  pub after_rows : Afters w afters
  pub enclosing_room : row_count w ≤ length enclosing
  pub breakable_rows : IsEnclosing w is_breakable breakable_word enclosing
  pub loop_rows : IsEnclosing w is_loop loop_word enclosing
  pub case_rows : IsEnclosing w is_case case_word enclosing

-- each of the first x words is the place that its row goes to, if that is a Branch
abbrev pub DestinationsBelow : List ℕ → List ℕ → List ℕ → List ℕ → ℕ → Type 0
DestinationsBelow w p b t x = (r : ℕ) → r < x → is_branch (class w r) ≡ true → step w p b (at r) 0 ≡ some (place_of (get_or t r 0))

-- so is each row's word
abbrev pub Destinations : List ℕ → List ℕ → List ℕ → List ℕ → Type 0
Destinations w p b t = DestinationsBelow w p b t (row_count w)
