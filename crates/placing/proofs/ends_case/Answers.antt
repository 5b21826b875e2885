-- Each test of the code is one of the definition, in its order: the row has a list, that is a Case, its Block goes on after it, the switch is of kind 15, and
-- only Empty rows follow.
-- Ending.antt says what the words of `lists` name. Assumes nothing.
use mathlib.Core.Path.{◌≡◌, refl, sym, ◌∙◌, ap}
use mathlib.Core.Bool.{true, false}
use mathlib.Core.List.{List, [], ◌∷◌}
use mathlib.Core.Option.{some}
use Prim.Native.Nat.{ℕ, suc, ◌+◌, ◌-◌, ◌≤◌, ◌<◌}
use native.Mathlib.Omega.{arith}
use borrow.Author.Tests.{eq-eqb, ne_eqb}
use lib.Dec.{eqb}
use lib.ListN.{get_or}
use Rattle.rules.specs.Rows.{row_count, kind, detail}
use Rattle.rules.specs.Class.{case_block, switch, one_of, is_switch, is_case, is_statement, detail_allowed, class}
use Rattle.rules.specs.Scope.{innermost, list_of, only_empty}
use Rattle.rules.proofs.Around.{innermost-found}
use Rattle.rules.proofs.Lists.{row-case, row-expression-switch}
use Rattle.rows.specs.declared.kinds.Kind.TheVariants.{Case, Switch}
use Rattle.rows.proofs.Numbers.{ne-true, ne-false}
use Rattle.placing.specs.Reach.{FormedLists}
use Rattle.placing.proofs.Ending.{row-none, row-some, list-word, list-before, home-word, switch-before, no-list, no-case}
use Rattle.placing.proofs.Ending.{no-home, last-case, type-switch, by-rest}
use Rattle.placing.proofs.ends_case.Goals as goal
use Rattle.placing.proofs.ends_case.Goals.{In-Some, In-Some-row_of}

-- ---- the list of the row r is c
record InList (w : List ℕ) (r c : ℕ) : Type 0 where
  found : list_of w r ≡ some c
  row : c < row_count w

-- which is a Case
record InCase (w : List ℕ) (r c : ℕ) : Type 0 where
  list : InList w r c
  a_case : is_case (class w c) ≡ true

-- whose Block is the row b, right after its switch
record InSwitch (w : List ℕ) (r c b : ℕ) : Type 0 where
  case : InCase w r c
  block : innermost w (one_of (case_block ∷ [])) c ≡ some b
  block_row : b < row_count w
  low : 1 ≤ b
  switch_is : innermost w is_switch c ≡ some (b - 1)

-- ---- the words of `lists`, as the code read them
module _ {w l : List ℕ} {r : ℕ} (f : FormedLists w l) where
  in_list : {c : ℕ} → r < row_count w → is_statement (class w r) ≡ true → suc c ≡ get_or l r 0 → InList w r c
  in_list h s e =
      let o = row-some (list_of w r) _ (list-word f r h _ s e) in
      record { found = o; row = omega (arith, list-before f r h _ o) }

  module _ {c : ℕ} (a : InList w r c) where
    list_allowed : detail_allowed (kind w c) (detail w c) ≡ true
    list_allowed = f.formed.2.details _ a.row

    in_case : kind w c ≡ 14 → InCase w r c
    in_case z = record { list = a; a_case = sym (row-case w c _ refl list_allowed) ∙ eq-eqb _ 14 z }

    other_list : (kind w c ≡ 14 → ⊥) → is_case (class w c) ≡ false
    other_list n = sym (row-case w c _ refl list_allowed) ∙ ne_eqb _ 14 n

  in_switch : {c b : ℕ} → InCase w r c → suc b ≡ get_or l c 0 → InSwitch w r c b
  in_switch {c} {b} a e =
      let o = row-some (innermost w (one_of (case_block ∷ [])) c) b (home-word f c a.list.row _ a.a_case e) in
      let (low, i) = switch-before f c a.list.row b a.a_case o in
      record {
        case = a;
        block = o;
        block_row = omega (arith, a.list.row, (innermost-found w (one_of (case_block ∷ [])) c b o).before);
        low = low;
        switch_is = i;
      }

  -- the kind of the switch says which it is
  kind_is : {c b : ℕ} → InSwitch w r c b → one_of (switch ∷ []) (class w (b - 1)) ≡ eqb (kind w (b - 1)) 15
  kind_is {c} {b} a = sym (row-expression-switch w (b - 1) _ refl (f.formed.2.details _ (omega (arith, a.block_row))))

-- ---- what the code knows once it has read a word
the_list : (c : In-Some) → InList c.args.rows.now c.args.row.0 c.in-Some.case.0
the_list c = in_list c.requires.formed_lists c.requires.row_bound.0 c.requires.row_bound.1 c.in-Some.ensures

-- z says that the list is of kind 14
the_switch : (c : In-Some-row_of) (z : kind c.args.rows.now c.in-Some.case.0 ≡ 14)
    → InSwitch c.args.rows.now c.args.row.0 c.in-Some.case.0 c.in-Some-row_of.block.0
the_switch c z =
    let f = c.requires.formed_lists in
    let a = in_list f c.requires.row_bound.0 c.requires.row_bound.1 c.in-Some.ensures in
    in_switch f (in_case f a z) c.in-Some-row_of.ensures

switch_row : (c : In-Some-row_of) (z : kind c.args.rows.now c.in-Some.case.0 ≡ 14) → c.in-Some-row_of.block.0 - 1 < row_count c.args.rows.now
switch_row c z = omega (arith, (the_switch c z).block_row)

pub returns-in_default : goal.returns-in_default
returns-in_default c =
    no-list _ _ (row-none _ (list-word c.requires.formed_lists _ c.requires.row_bound.0 _ c.requires.row_bound.1 c.in_default.ensures))

pub kind_at-requires : goal.kind_at-requires
kind_at-requires c = let a = the_list c in record { row_bound = a.row; allowed = list_allowed c.requires.formed_lists a }

pub returns-then-ne : goal.returns-then-ne
returns-then-ne c =
    let a = the_list (goal.at.returns-then-ne c).In-Some in
    no-case _ _ _ a.found (other_list c.requires.formed_lists a (ne-true _ Case c.kind_at.ensures c.if-ne.ensures))

pub returns-in_default-row_of : goal.returns-in_default-row_of
returns-in_default-row_of c =
    let f = c.requires.formed_lists in
    let a = in_case f (the_list (goal.at.returns-in_default-row_of c).In-Some) (ne-false _ Case c.kind_at.ensures c.if-ne.ensures) in
    no-home _ _ _ a.list.found a.a_case (row-none _ (home-word f _ a.list.row _ a.a_case c.in_default-row_of.ensures))

pub size-requires-2 : goal.size-requires-2
size-requires-2 c = (the_switch c (ne-false _ Case c.kind_at.ensures c.if-ne.ensures)).block_row

pub returns-then-block_end-case_end : goal.returns-then-block_end-case_end
returns-then-block_end-case_end c =
    let a = the_switch (goal.at.returns-then-block_end-case_end c).In-Some-row_of (ne-false _ Case c.kind_at.ensures c.if-ne.ensures) in
    last-case _ _ _ a.case.list.found a.case.a_case _ a.block (omega (arith, c.size.ensures, c.size-2.ensures))

pub overflow_sub-block : goal.overflow_sub-block
overflow_sub-block c = (the_switch (goal.at.overflow_sub-block c).In-Some-row_of (ne-false _ Case c.kind_at.ensures c.if-ne.ensures)).low

pub kind_at-requires-2 : goal.kind_at-requires-2
kind_at-requires-2 c =
    let row = switch_row (goal.at.kind_at-requires-2 c).In-Some-row_of (ne-false _ Case c.kind_at.ensures c.if-ne.ensures) in
    record { row_bound = row; allowed = c.requires.formed_lists.formed.2.details _ row }

pub returns-then-ne-2 : goal.returns-then-ne-2
returns-then-ne-2 c =
    let a = the_switch (goal.at.returns-then-ne-2 c).In-Some-row_of (ne-false _ Case c.kind_at.ensures c.if-ne.ensures) in
    type-switch _ _ _ a.case.list.found a.case.a_case _ a.block (omega (arith, c.size.ensures, c.size-2.ensures)) _
    a.switch_is
    (kind_is c.requires.formed_lists a ∙ ne_eqb _ 15 (ne-true _ Switch c.kind_at-2.ensures c.if-ne-2.ensures))

pub only_empty-requires : goal.only_empty-requires
only_empty-requires c =
    let a = the_list (goal.at.only_empty-requires c).In-Some in
    let s = c.requires.formed_lists.formed.2 in (s.details, omega (arith, c.size.ensures, s.sized.within _ a.row))

pub returns : goal.returns
returns c =
    let a = the_switch (goal.at.returns c).In-Some-row_of (ne-false _ Case c.kind_at.ensures c.if-ne.ensures) in
    c.only_empty.ensures ∙ ap (only_empty c.args.rows.now (c.args.row.0 + 1)) (ap (λ (n : ℕ). c.in-Some.case.0 + n) c.size.ensures)
    ∙ by-rest _ _ _ a.case.list.found a.case.a_case _ a.block (omega (arith, c.size.ensures, c.size-2.ensures)) _ a.switch_is
    (kind_is c.requires.formed_lists a ∙ eq-eqb _ 15 (ne-false _ Switch c.kind_at-2.ensures c.if-ne-2.ensures))
