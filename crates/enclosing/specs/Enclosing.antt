-- The innermost rows of some classes around each row.
-- Assumes nothing.
use Rattle.std.specs.Prelude.{◌≡◌, Bool, List, ℕ, ◌<◌, get_or}
use Rattle.rules.specs.Rows.{row_count}
use Rattle.rules.specs.Class.{Class}
use Rattle.rules.specs.Scope.{innermost}
use Rattle.rules.specs.Labels.{word}
use Rattle.enclosing.specs.declared as declared

-- no row around
abbrev pub outside : declared.Enclosing.Enclosing
outside = record { breakable = 0; repeated = 0; case = 0 }

-- the words of the rows around a row
abbrev pub breakable_word : declared.Enclosing.Enclosing → ℕ
breakable_word e = e.breakable

abbrev pub loop_word : declared.Enclosing.Enclosing → ℕ
loop_word e = e.repeated

abbrev pub case_word : declared.Enclosing.Enclosing → ℕ
case_word e = e.case

-- one word of each of the first x entries is 1 + the innermost row around its row of a class that passes, or 0
abbrev pub EnclosingBelow : List ℕ → (Class → Bool) → (declared.Enclosing.Enclosing → ℕ) → List declared.Enclosing.Enclosing → ℕ → Type 0
EnclosingBelow w P of t x = (r : ℕ) → r < x → of (get_or t r outside) ≡ word (innermost w P r)

-- so is that word of each row's entry
abbrev pub Enclosing : List ℕ → (Class → Bool) → (declared.Enclosing.Enclosing → ℕ) → List declared.Enclosing.Enclosing → Type 0
Enclosing w P of t = EnclosingBelow w P of t (row_count w)
