-- A well-formed body has the facts of `Body`: each cause that does not apply gives its part, and nesting and the parents follow from the children.
-- Assumes nothing.
use mathlib.Core.Path.{◌≡◌}
use mathlib.Core.Bool.{true, false, ◌&&◌, ◌||◌, not}
use mathlib.Core.List.{List}
use mathlib.Core.Option.{none, some}
use Prim.Native.Nat.{ℕ, ◌*◌, ◌%◌, ◌≤◌, ◌<◌}
use native.Mathlib.Omega.{arith}
use lib.Dec.{ltb, eqb}
use lib.ListN.{length}
use borrow.Author.Tests.{eqb-true, eqb-false, ltb-true, ltb-false, not-false}
use Rattle.rules.specs.Scan.{lowest}
use Rattle.rules.specs.Rows.{row_count, kind, detail, position, name, size, end, depth}
use Rattle.rules.specs.Class.{detail_allowed, base}
use Rattle.rules.specs.Names.{count_of_pairs}
use Rattle.rules.specs.Refusals.{bad_row_words, name_allowed, bad_row, bad_size, bad_shape, WellFormed}
use Rattle.rules.specs.Body.{Sized, Detailed, Body}
use Rattle.rules.proofs.Test.{and-true, or-false}
use Rattle.rules.proofs.Scan.{lowest-none}
use Rattle.rules.proofs.Pairs.{names-ok}
use Rattle.rules.proofs.Causes.{no-cause}
use Rattle.rules.proofs.Nesting as nesting
use Rattle.rules.proofs.Shape as shape
use Rattle.rules.proofs.NoSecond.{one_default}

-- ---- cause 1
pub record RowWords (w : List ℕ) : Type 0 where
  pub some_rows : 0 < row_count w
  pub most_rows : row_count w ≤ 2000
  pub words : length w ≡ row_count w * 5

pub row_words : (w : List ℕ) → bad_row_words w ≡ false → RowWords w
unfolding bad_row_words
row_words w e =
    let o = or-false (eqb (length w) 0) (not (eqb (length w % 5) 0) || ltb 2000 (row_count w)) e in
    let q = or-false (not (eqb (length w % 5) 0)) (ltb 2000 (row_count w)) o.1 in
    let rest : length w % 5 ≡ 0 = eqb-true (length w % 5) 0 (not-false (eqb (length w % 5) 0) q.0) in
    let some : length w ≡ 0 → ⊥ = eqb-false (length w) 0 o.0 in
    record { some_rows = omega arith; most_rows = ltb-false 2000 (row_count w) q.1; words = omega arith }

-- ---- cause 4
pub record GoodRow (w p : List ℕ) (r : ℕ) : Type 0 where
  pub detailed : detail_allowed (kind w r) (detail w r) ≡ true
  pub positioned : 0 < position w r
  pub named : name_allowed (base w r) (count_of_pairs p) (name w r) ≡ true

pub good-row : (w p : List ℕ) (r : ℕ) → bad_row w p r ≡ false → GoodRow w p r
unfolding bad_row
good-row w p r e =
    let t = not-false (detail_allowed (kind w r) (detail w r) && (ltb 0 (position w r) && name_allowed (base w r) (count_of_pairs p) (name w r))) e in
    let a = and-true (detail_allowed (kind w r) (detail w r)) (ltb 0 (position w r) && name_allowed (base w r) (count_of_pairs p) (name w r)) t in
    let b = and-true (ltb 0 (position w r)) (name_allowed (base w r) (count_of_pairs p) (name w r)) a.1 in
    record { detailed = a.0; positioned = ltb-true 0 (position w r) b.0; named = b.1 }

pub good-rows : (w p : List ℕ) → lowest (bad_row w p) (row_count w) ≡ none → (r : ℕ) → r < row_count w → GoodRow w p r
good-rows w p e r l = good-row w p r (lowest-none (bad_row w p) (row_count w) r e l)

pub details : (w p : List ℕ) → lowest (bad_row w p) (row_count w) ≡ none → Detailed w
details w p e r l = (good-rows w p e r l).detailed

-- ---- cause 5, sizes
pub sizes : (w : List ℕ) → lowest (bad_size w) (row_count w) ≡ none → Sized w
unfolding bad_size
sizes w e =
    let good : (r : ℕ) → r < row_count w → (eqb (size w r) 0 ≡ false) × (ltb (row_count w) (end w r) ≡ false) =
    λ r l. or-false (eqb (size w r) 0) (ltb (row_count w) (end w r)) (lowest-none (bad_size w) (row_count w) r e l) in
    record {
      some_rows = λ r l. omega (arith, eqb-false (size w r) 0 (good r l).0);
      within = λ r l. ltb-false (row_count w) (end w r) (good r l).1;
    }

-- ---- all of them
pub body : (w p b : List ℕ) → WellFormed w p b → Body w p b
body w p b wf =
    let n = no-cause w p b wf in
    let words = row_words w n.row_words in
    let rows = good-rows w p n.rows in
    let detailed = details w p n.rows in
    let sized = sizes w n.sizes in
    let shaped : (r : ℕ) → r < row_count w → bad_shape w r ≡ false = λ r l. lowest-none (bad_shape w) (row_count w) r n.shapes l in
    let inside = shape.child_within w sized detailed shaped in
    let root = shape.root w sized detailed shaped words.some_rows in
    record {
      some_rows = words.some_rows;
      most_rows = words.most_rows;
      words = words.words;
      names = names-ok p b n.name-words n.pairs;
      details = detailed;
      positions = λ r l. (rows r l).positioned;
      named = λ r l. (rows r l).named;
      sized = sized;
      root_class = root.0;
      root_size = root.1;
      nested = λ r q l h k. nesting.nested sized inside r q l (omega arith) k;
      child_fits = shape.child_fits w sized detailed shaped;
      child_within = inside;
      child_parent = nesting.child_parent sized inside;
      parent_child = λ c z l.
          let has = nesting.has-parent sized inside root.1 c z l in
          let i = nesting.parent_child sized inside c has.0 l has.1 in
          (has.0, has.1, i.0, i.2);
      leaf = shape.leaf w sized detailed shaped;
      one_statement = shape.one_statement w sized detailed shaped;
      one_block = shape.one_block w sized detailed shaped;
      two_parts = shape.two_parts w sized detailed shaped;
      one_default = one_default sized inside n.defaults;
      shallow = λ r l. ltb-false 100 (depth w r) (lowest-none (λ q. ltb 100 (depth w q)) (row_count w) r n.depths l);
    }
