-- What `labels` changes in goscript's `Checker`: the scope of all labels, which label objects are used, the errors, and the recorded definitions and uses.
-- A label object is the row of its label.
-- Assumes nothing.
use Rattle.std.specs.Prelude.{true, false, List, [], ◌∷◌, ◌++◌, ℕ, suc, eqb}
use Rattle.rules.specs.Names.{bytes_before}
use Rattle.rules.specs.Labels.{Fault}
use Rattle.goscript.specs.Syntax.{ident, contains}

-- `record_use`: the identifier at a row uses an object
pub record Use : Type 0 where
  pub identifier : ℕ
  pub object : ℕ

pub record Checker : Type 0 where
  -- the scope `all`: a `btree_map` from names to objects, so its objects in the order of their names
  pub all : List ℕ
  -- the objects of which `label_used` holds
  pub used : List ℕ
  pub errors : List Fault
  -- `result.defs` and `result.uses`, the latest first
  pub defs : List ℕ
  pub uses : List Use

abbrev pub new : Checker
new = record { all = []; used = []; errors = []; defs = []; uses = [] }

-- `error` and `soft_error`
abbrev pub error : List Fault → Checker → Checker
error faults c = record { all = c.all; used = c.used; errors = c.errors ++ faults; defs = c.defs; uses = c.uses }

-- `label_set_used(true)`
abbrev pub label_set_used : ℕ → Checker → Checker
label_set_used o c = record { all = c.all; used = o ∷ c.used; errors = c.errors; defs = c.defs; uses = c.uses }

-- `record_use`
abbrev pub record_use : ℕ → ℕ → Checker → Checker
record_use i o c = record { all = c.all; used = c.used; errors = c.errors; defs = c.defs; uses = record { identifier = i; object = o } ∷ c.uses }

-- `record_def`, of a label's own identifier
abbrev pub record_def : ℕ → Checker → Checker
record_def o c = record { all = c.all; used = c.used; errors = c.errors; defs = o ∷ c.defs; uses = c.uses }

-- an object put into its place among others, by name
unfoldable pub place : List ℕ → List ℕ → List ℕ → ℕ → List ℕ → List ℕ
place w p b o [] = o ∷ []
place w p b o (x ∷ xs) = elim (bytes_before (ident w p b o) (ident w p b x)) [ true ↦ o ∷ x ∷ xs | false ↦ x ∷ place w p b o xs ]

-- `Scope::insert` of an object whose name the scope doesn't have
abbrev pub insert : List ℕ → List ℕ → List ℕ → ℕ → Checker → Checker
insert w p b o c = record { all = place w p b o c.all; used = c.used; errors = c.errors; defs = c.defs; uses = c.uses }

-- ---- what is recorded of a row, as a binding word: 1 + the label's row, or 0
unfoldable pub used_by : List Use → ℕ → ℕ
used_by [] r = 0
used_by (u ∷ us) r = elim (eqb u.identifier r) [ true ↦ suc u.object | false ↦ used_by us r ]

unfoldable pub bound : Checker → ℕ → ℕ
bound c r = elim (contains r c.defs) [ true ↦ suc r | false ↦ used_by c.uses r ]
