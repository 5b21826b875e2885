-- The rows passed are plain items.
-- Assumes nothing.
use mathlib.Core.Path.{◌≡◌}
use mathlib.Core.List.{List}
use Prim.Native.Nat.{ℕ}
use Rattle.rules.specs.Names.{count_of_pairs}
use Rattle.row_checks.specs.Plain.{PlainItems}
use Rattle.row_checks.proofs.plain.end_of_items.Given as goal

abbrev pub invariant-loop-r : goal.invariant-loop-r
invariant-loop-r l = (p : List ℕ) → count_of_pairs p ≡ l.pair_count → PlainItems l.rows p l.from l.r l.end
