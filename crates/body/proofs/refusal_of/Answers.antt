-- `refusal_of` meets its contract: each test is that of one cause, in the order of the causes, and what comes after it knows that the cause does not apply.
-- Where the walk found every row right, none of the causes 4, 5, 10 and 6 applies.
-- Sizes and details have to be right before the children are stepped through; they are, since causes 4 and 5 for sizes come first.
-- Assumes nothing.
use mathlib.Core.Path.{◌≡◌, sym, ◌∙◌}
use mathlib.Core.Bool.{true, false}
use mathlib.Core.List.{List, [], ◌∷◌}
use mathlib.Core.Option.{none}
use Prim.Native.Nat.{ℕ, ◌<◌}
use native.Mathlib.Omega.{arith}
use lib.Dec.{ltb}
use lib.ListN.{take}
use borrow.Author.Tests.{le-ltb}
use Rattle.rules.specs.Scan.{lowest}
use Rattle.rules.specs.Rows.{row_count, depth}
use Rattle.rules.specs.Names.{count_of_pairs, bad_name_words, bad_pair}
use Rattle.rules.specs.Refusals.{holding, bad_row_words, bad_row, bad_size, bad_shape, second_default, cause10, causes, WellFormed}
use Rattle.rules.specs.Class.{Class, case_block, comm_block, class}
use Rattle.rules.specs.Body.{Sized, Detailed}
use Rattle.rules.proofs.ClassRules.{is_clause_block, by_one}
use Rattle.rules.proofs.Shape.{child_within}
use Rattle.rules.proofs.NoSecond.{none-second}
use Rattle.rules.proofs.Scan.{lowest-none, none-lowest}
use Rattle.rules.proofs.Causes.{NoneOf, refused-at, accepted, bad-1, good-1, bad-2, good-2, is-3, is-4, bad-size-5, is-5, is-10, is-6}
use Rattle.rules.proofs.Facts.{row_words, details, sizes}
use Rattle.row_checks.specs.Parts.{item_kind}
use Rattle.row_checks.specs.Right.{Right}
use Rattle.body.specs.Defaults.{Inside}
use Rattle.body.proofs.refusal_of.Goals as goal

-- ---- each test that has failed rules its cause out: so none of the first k causes applies
module _ (w p b : List ℕ) (n1 : false ≡ bad_row_words w) (n2 : false ≡ bad_name_words p b) where
  before-3 : NoneOf (take 2 (causes w p b))
  before-3 = (good-1 w (sym n1), (good-2 p b (sym n2), tt))

  module _ (n3 : none ≡ lowest (bad_pair p b) (count_of_pairs p)) where
    before-4 : NoneOf (take 3 (causes w p b))
    before-4 = let (e1, (e2, _)) = before-3 in (e1, (e2, (is-3 p b ∙ sym n3, tt)))

    module _ (n4 : none ≡ lowest (bad_row w p) (row_count w)) where
      before-5 : NoneOf (take 4 (causes w p b))
      before-5 = let (e1, (e2, (e3, _))) = before-4 in (e1, (e2, (e3, (is-4 w p ∙ sym n4, tt))))

      module _ (n5 : none ≡ lowest (bad_size w) (row_count w)) (s5 : none ≡ lowest (bad_shape w) (row_count w)) where
        before-6 : NoneOf (take 5 (causes w p b))
        before-6 = let (e1, (e2, (e3, (e4, _)))) = before-5 in (e1, (e2, (e3, (e4, (is-5 w (sym n5) ∙ sym s5, tt)))))

        before-7 : none ≡ cause10 w → NoneOf (take 6 (causes w p b))
        before-7 n10 = let (e1, (e2, (e3, (e4, (e5, _))))) = before-6 in (e1, (e2, (e3, (e4, (e5, (sym n10, tt))))))

-- sizes and details are right where no cause up to 5 applies, and each child ends in its parent
module _ (w p : List ℕ) (n4 : none ≡ lowest (bad_row w p) (row_count w)) (n5 : none ≡ lowest (bad_size w) (row_count w)) where
  sized_detailed : Sized w × Detailed w
  sized_detailed = (sizes w (sym n5), details w p (sym n4))

  inside : none ≡ lowest (bad_shape w) (row_count w) → Inside w
  inside s5 = child_within w sized_detailed.0 sized_detailed.1 (λ r l. lowest-none _ _ r (sym s5) l)

-- the Block of a switch or Select has clauses
clause-items : (c : Class) → is_clause_block c ≡ true → item_kind (holding c) ≡ 0 → ⊥
clause-items c t z =
    by_one _ (case_block ∷ comm_block ∷ []) c t (λ e. let y : 14 ≡ 0 = rw e at z in omega arith) (λ e. let y : 17 ≡ 0 = rw e at z in omega arith)

right-accepted : (w p b : List ℕ) → NoneOf (take 3 (causes w p b)) → ((k : ℕ) → k < row_count w → Right w p k) → WellFormed w p b
right-accepted w p b (e1, (e2, (e3, _))) f =
    let e4 = none-lowest (bad_row w p) (row_count w) (λ k l. (f k l).allowed) in
    let sized = none-lowest (bad_size w) (row_count w) (λ k l. (f k l).sized) in
    let e5 = none-lowest (bad_shape w) (row_count w) (λ k l. (f k l).shaped) in
    let e10 = none-lowest (second_default w) (row_count w)
    (none-second w (sizes w sized) (details w p e4) (λ r l. (f r l).shaped) (λ k l c. (f k l).single (clause-items (class w k) c))) in
    let e6 = none-lowest (λ r. ltb 100 (depth w r)) (row_count w) (λ k l. le-ltb 100 (depth w k) (f k l).shallow) in
    accepted w p b (e1, (e2, (e3, (is-4 w p ∙ e4, (is-5 w sized ∙ e5, (is-10 w ∙ e10, (is-6 w ∙ e6, tt)))))))

pub returns-then-bad_row_words : goal.returns-then-bad_row_words
returns-then-bad_row_words c = sym (refused-at _ _ _ 0 0 tt (bad-1 _ (sym c.if-bad_row_words.ensures)))

pub returns-then-bad_name_words : goal.returns-then-bad_name_words
returns-then-bad_name_words c =
    sym (refused-at _ _ _ 1 0 (good-1 _ (sym c.if-bad_row_words.ensures), tt) (bad-2 _ _ (sym c.if-bad_name_words.ensures)))

pub returns-in-Some : goal.returns-in-Some
returns-in-Some c =
    sym (refused-at _ _ _ 2 _ (before-3 _ _ _ c.if-bad_row_words.ensures c.if-bad_name_words.ensures) (is-3 _ _ ∙ sym c.in-Some.ensures))

pub well_formed_rows-requires : goal.well_formed_rows-requires
well_formed_rows-requires c = let f = row_words _ (sym c.if-bad_row_words.ensures) in (f.some_rows, f.most_rows)

pub returns-then-well_formed_rows : goal.returns-then-well_formed_rows
returns-then-well_formed_rows c =
    sym (right-accepted _ _ _ (before-4 _ _ _ c.if-bad_row_words.ensures c.if-bad_name_words.ensures c.in_default.ensures)
    (c.well_formed_rows.ensures c.if-well_formed_rows.true))

pub returns-in-Some-first_bad_row : goal.returns-in-Some-first_bad_row
returns-in-Some-first_bad_row c =
    sym (refused-at _ _ _ 3 _ (before-4 _ _ _ c.if-bad_row_words.ensures c.if-bad_name_words.ensures c.in_default.ensures)
    (is-4 _ _ ∙ sym c.in-Some-first_bad_row.ensures))

pub returns-in-Some-first_bad_size : goal.returns-in-Some-first_bad_size
returns-in-Some-first_bad_size c =
    sym (refused-at _ _ _ 4 _
    (before-5 _ _ _ c.if-bad_row_words.ensures c.if-bad_name_words.ensures c.in_default.ensures c.in_default-first_bad_row.ensures)
    (bad-size-5 _ _ (sym c.in-Some-first_bad_size.ensures)))

pub first_bad_shape-requires : goal.first_bad_shape-requires
first_bad_shape-requires c = sized_detailed _ _ c.in_default-first_bad_row.ensures c.in_default-first_bad_size.ensures

pub returns-in-Some-first_bad_shape : goal.returns-in-Some-first_bad_shape
returns-in-Some-first_bad_shape c =
    sym (refused-at _ _ _ 4 _
    (before-5 _ _ _ c.if-bad_row_words.ensures c.if-bad_name_words.ensures c.in_default.ensures c.in_default-first_bad_row.ensures)
    (is-5 _ (sym c.in_default-first_bad_size.ensures) ∙ sym c.in-Some-first_bad_shape.ensures))

pub first_second_default-requires : goal.first_second_default-requires
first_second_default-requires c =
    let f = sized_detailed _ _ c.in_default-first_bad_row.ensures c.in_default-first_bad_size.ensures in (
      (row_words _ (sym c.if-bad_row_words.ensures)).most_rows,
      f.0,
      f.1,
      inside _ _ c.in_default-first_bad_row.ensures c.in_default-first_bad_size.ensures c.in_default-first_bad_shape.ensures,
    )

pub returns-in-Some-first_second_default : goal.returns-in-Some-first_second_default
returns-in-Some-first_second_default c =
    sym (refused-at _ _ _ 5 _
    (before-6 _ _ _ c.if-bad_row_words.ensures c.if-bad_name_words.ensures c.in_default.ensures c.in_default-first_bad_row.ensures
    c.in_default-first_bad_size.ensures c.in_default-first_bad_shape.ensures)
    (sym c.in-Some-first_second_default.ensures))

pub first_too_deep-requires : goal.first_too_deep-requires
first_too_deep-requires c =
    let f = sized_detailed _ _ c.in_default-first_bad_row.ensures c.in_default-first_bad_size.ensures in
    (f.0, (row_words _ (sym c.if-bad_row_words.ensures)).most_rows)

pub returns-in-Some-first_too_deep : goal.returns-in-Some-first_too_deep
returns-in-Some-first_too_deep c =
    sym (refused-at _ _ _ 6 _
    (before-7 _ _ _ c.if-bad_row_words.ensures c.if-bad_name_words.ensures c.in_default.ensures c.in_default-first_bad_row.ensures
    c.in_default-first_bad_size.ensures c.in_default-first_bad_shape.ensures c.in_default-first_second_default.ensures)
    (sym c.in-Some-first_too_deep.ensures))

pub returns : goal.returns
returns c =
    let (e1, (e2, (e3, (e4, (e5, (e10, _)))))) = before-7 _ _ _ c.if-bad_row_words.ensures c.if-bad_name_words.ensures c.in_default.ensures
    c.in_default-first_bad_row.ensures c.in_default-first_bad_size.ensures c.in_default-first_bad_shape.ensures
    c.in_default-first_second_default.ensures in
    sym (accepted _ _ _ (e1, (e2, (e3, (e4, (e5, (e10, (sym c.in_default-first_too_deep.ensures, tt))))))))
